-- Why a file is bad: 01, "Trace, mark DLT": "A cut header, wrong mark, unknown version, late-drop over 1, refused setting or capacity over 32 writes `bad 0`; a
-- cut record, unknown kind or length over 1,456 writes `bad` and the record's offset". By the same reading that the trace goes by.
use Rattle.std.specs.Prelude.{Bool, true, false, ◌&&◌, cond, List, ℕ, ◌+◌, eqb, ltb, length, Option, Some, None, Result, Ok, Err}
use Rattle.head.specs.Head.{made_of}
use Rattle.head.specs.declared.refusal.Refusal.{Refusal}
use Rattle.head.specs.declared.state.Head.{Head}
use Rattle.dlt.specs.Bytes.{byte_at, field}
use Rattle.dlt.specs.Header.{header_of}
use Rattle.dlt.specs.Record.{least_size, record_of}
use Rattle.dlt.specs.declared.Unread.{Unread}
use Rattle.dlt.specs.declared.Unread.TheVariants as unread
use Rattle.dlt.specs.declared.header.Header.{Header}
use Rattle.dlt.specs.declared.record.Record.{Record}
use Rattle.reason.specs.declared.Reason.{Reason}
use Rattle.reason.specs.declared.Reason.TheVariants as reasons

-- the letters D, L and T
unfoldable pub is_marked : List ℕ → Bool
is_marked xs = eqb (byte_at xs 0) 68 && eqb (byte_at xs 1) 76 && eqb (byte_at xs 2) 84

-- 24 bytes that are no header: the mark, the version, else the late-drop
unfoldable pub form_reason : List ℕ → Reason
form_reason xs = cond (is_marked xs) (cond (eqb (field xs 3 2) 1) (reasons.LateDrop (byte_at xs 17)) (reasons.Version (field xs 3 2))) reasons.NoMark

-- a setting that is refused
abbrev pub refused_reason : Result Head Refusal → Option Reason
refused_reason (Ok h) = None
refused_reason (Err e) = Some reasons.Setting

-- a header: a capacity over 32 is named, whatever else is refused
abbrev pub setting_reason : Result Head Refusal → ℕ → Option Reason
setting_reason m capacity = cond (ltb 32 capacity) (Some (reasons.Capacity capacity)) (refused_reason m)

abbrev pub header_reason_by : List ℕ → Result Header Unread → Option Reason
header_reason_by xs (Err unread.Short) = Some (reasons.HeaderCut (length xs))
header_reason_by xs (Err unread.Bad) = Some (form_reason xs)
header_reason_by xs (Ok h) = setting_reason (made_of h.start h.latency h.dropping h.first h.capacity) h.capacity

abbrev pub header_reason : List ℕ → Option Reason
header_reason xs = header_reason_by xs (header_of xs)

-- the bytes of a record with its payload, as far as the bytes at hand tell: of a data packet none before its length is there
unfoldable pub need_in : List ℕ → Option ℕ
need_in xs = cond (eqb (byte_at xs 0) 1) (cond (ltb (length xs) 24) None (Some (24 + field xs 22 2))) (Some (least_size (byte_at xs 0)))

-- no byte is no record, and nothing is wrong with that
unfoldable pub cut_reason : List ℕ → Option Reason
cut_reason xs = cond (ltb (length xs) 1) None (Some (reasons.Cut (length xs) (need_in xs)))

-- of the kinds only data has a length
unfoldable pub wrong_reason : List ℕ → Reason
wrong_reason xs = cond (eqb (byte_at xs 0) 1) (reasons.Length (field xs 22 2)) (reasons.Kind (byte_at xs 0))

abbrev pub record_reason_by : List ℕ → Result Record Unread → Option Reason
record_reason_by xs (Err unread.Short) = cut_reason xs
record_reason_by xs (Err unread.Bad) = Some (wrong_reason xs)
record_reason_by xs (Ok r) = None

abbrev pub record_reason : List ℕ → Option Reason
record_reason xs = record_reason_by xs (record_of xs)

-- whether there is one
abbrev pub is_given : Option Reason → Bool
is_given (Some r) = true
is_given None = false
