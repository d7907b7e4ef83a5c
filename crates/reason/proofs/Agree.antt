-- A reason is given exactly where the trace says `bad`. Assumes nothing.
use mathlib.Core.Path.{◌≡◌, refl, sym}
use mathlib.Core.Bool.{Bool, true, false, ◌&&◌, not, cond}
use mathlib.Core.List.{List}
use Prim.Native.Nat.{ℕ, ◌<◌, ◌≤◌}
use native.Mathlib.Omega.{arith}
use borrow.Author.Tests.{ne_eqb, lt-ltb, le-ltb, lt-leb, le-leb}
use lib.Dec.{eqb, ltb}
use lib.ListN.{length}
use Rattle.numbers.proofs.Flags.{by-order}
use Rattle.head.specs.Head.{made_of}
use Rattle.head.specs.declared.refusal.Refusal.{Refusal}
use Rattle.head.specs.declared.state.Head.{Head}
use Rattle.dlt.specs.Header.{header_of}
use Rattle.std.specs.Prelude.{Result, Ok, Err}
use Rattle.dlt.specs.Record.{record_of, size_in, size_of}
use Rattle.dlt.proofs.Laws.{size-some}
use Rattle.dlt.specs.declared.Unread.{Unread}
use Rattle.dlt.specs.declared.Unread.TheVariants as unread
use Rattle.dlt.specs.declared.header.Header.{Header}
use Rattle.dlt.specs.declared.record.Record.{Record}
use Rattle.trace.specs.Trace.{is_refused}
use Rattle.trace.specs.Turn.{begun_by, begin_of}
use Rattle.trace.specs.declared.Trace.{Trace}
use Rattle.reason.specs.Reason.{setting_reason, header_reason_by, header_reason, cut_reason, record_reason_by, record_reason, is_given}
use Rattle.reason.proofs.Steps.{wrong-some}

-- a header that the trace opens has none, and any other one
abbrev is_ready : Result Trace Unread → Bool
is_ready (Ok t) = true
is_ready (Err e) = false

setting-given : (m : Result Head Refusal) (capacity : ℕ) (t : Trace) → is_given (setting_reason m capacity) ≡ not (is_ready (cond (is_refused m capacity) (Err unread.Bad) (Ok t)))
setting-given (Ok h) capacity t = by-order 32 capacity (λ l. rw (lt-ltb _ _ l, lt-leb _ _ l)) (λ l. rw (le-ltb _ _ l, le-leb _ _ l))
setting-given (Err e) capacity t = by-order 32 capacity (λ l. rw (lt-ltb _ _ l)) (λ l. rw (le-ltb _ _ l))

header-by : (c : Bool) (xs : List ℕ) (h : Result Header Unread) → is_given (header_reason_by xs h) ≡ not (is_ready (begun_by h c))
header-by c xs (Err unread.Short) = refl
header-by c xs (Err unread.Bad) = refl
header-by c xs (Ok h) = setting-given (made_of h.start h.latency h.dropping h.first h.capacity) h.capacity _

pub header-agrees : (c : Bool) (xs : List ℕ) → is_given (header_reason xs) ≡ not (is_ready (begin_of xs c))
header-agrees c xs = header-by c xs (header_of xs)

-- bytes that no record is read from have a reason, and no byte and a record have none
cut-given : (xs : List ℕ) → is_given (cut_reason xs) ≡ (eqb (size_of (Err unread.Short)) 0 && ltb 0 (length xs))
unfolding cut_reason
cut-given xs =
    by-order (length xs) 1
    (λ h. let e : length xs ≡ 0 = omega arith in rw (lt-ltb _ _ h, e))
    (λ h. let l : 0 < length xs = omega arith in rw (le-ltb _ _ h, lt-ltb _ _ l))

record-by : (xs : List ℕ) (r : Result Record Unread) → (r ≡ Err unread.Bad → 1 ≤ length xs) → is_given (record_reason_by xs r) ≡ (eqb (size_of r) 0 && ltb 0 (length xs))
record-by xs (Err unread.Short) h = cut-given xs
record-by xs (Err unread.Bad) h = let l : 0 < length xs = h refl in sym (lt-ltb 0 (length xs) l)
record-by xs (Ok r) h = rw (ne_eqb (size_in r) 0 (λ e. omega (arith, size-some r)))

pub record-agrees : (xs : List ℕ) → is_given (record_reason xs) ≡ (eqb (size_of (record_of xs)) 0 && ltb 0 (length xs))
record-agrees xs = record-by xs (record_of xs) (wrong-some xs)
