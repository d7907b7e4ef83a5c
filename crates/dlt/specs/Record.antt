-- The records: 01, "Trace, mark DLT": "1 data (now 8, number 4, message 4, location 1, stamp 4, length 2, payload); 2 pop, 3 loss report, 4 full ACK
-- (now); 5 ACK2 (now, number 4); 6 drop (first, last); 7 clock (now, stamp); 8 clear".
use Rattle.std.specs.Prelude.{◌≡◌, ◌≢◌, cond, List, [], ◌∷◌, ℕ, ◌+◌, eqb, ltb, length, get_or, Result, Ok, Err, MatchResult}
use Rattle.dlt.specs.Bytes.{byte_at, field, time_at}
use Rattle.dlt.specs.declared.Unread.{Unread}
use Rattle.dlt.specs.declared.Unread.TheVariants.{Short, Bad}
use Rattle.dlt.specs.declared.kind.Kind.{Kind}
use Rattle.dlt.specs.declared.kind.Kind.TheVariants as kinds
use Rattle.dlt.specs.declared.record.Record.{Record}
use Rattle.dlt.specs.declared.record.Record.TheVariants.{Data, Pop, Report, FullAck, Ack2, Drop, Clock, Clear}

-- the byte that stands for a kind
abbrev pub code_of : Kind → ℕ
code_of kinds.Data = 1
code_of kinds.Pop = 2
code_of kinds.Report = 3
code_of kinds.FullAck = 4
code_of kinds.Ack2 = 5
code_of kinds.Drop = 6
code_of kinds.Clock = 7
code_of kinds.Clear = 8

-- the result is the kind with this code, or bad where no kind has it
abbrev pub Decodes : ℕ → Result Kind Unread → Type 0
Decodes code r = MatchResult r (λ kind. code_of kind ≡ code) (λ e. (e ≡ Bad) × ((kind : Kind) → code_of kind ≢ code))

-- the bytes of a record with its kind byte and without its payload, by kind from 0 on; no record has kind 0 or one over 8, and there the kind
-- byte is enough to tell
unfoldable pub least_size : ℕ → ℕ
least_size kind = get_or (1 ∷ 24 ∷ 9 ∷ 9 ∷ 9 ∷ 13 ∷ 9 ∷ 13 ∷ 1 ∷ []) kind 1

-- no record is longer: a data packet of 1,456 bytes
abbrev pub longest_record : ℕ
longest_record = 1480

abbrev pub data_in : List ℕ → ℕ → Record
data_in xs n = Data (time_at xs 1) (field xs 9 4) (field xs 13 4) (byte_at xs 17) (field xs 18 4) n

-- a length over 1,456 is bad even if the payload is cut (A69)
unfoldable pub data_of : List ℕ → Result Record Unread
data_of xs =
    cond (ltb 1456 (field xs 22 2)) (Err Bad)
    (cond (ltb (length xs) (24 + field xs 22 2)) (Err Short)
    (Ok (data_in xs (field xs 22 2))))

unfoldable pub fields_of : ℕ → List ℕ → Result Record Unread
fields_of kind xs =
    cond (eqb kind 1) (data_of xs)
    (cond (eqb kind 2) (Ok (Pop (time_at xs 1)))
    (cond (eqb kind 3) (Ok (Report (time_at xs 1)))
    (cond (eqb kind 4) (Ok (FullAck (time_at xs 1)))
    (cond (eqb kind 5) (Ok (Ack2 (time_at xs 1) (field xs 9 4)))
    (cond (eqb kind 6) (Ok (Drop (field xs 1 4) (field xs 5 4)))
    (cond (eqb kind 7) (Ok (Clock (time_at xs 1) (field xs 9 4)))
    (cond (eqb kind 8) (Ok Clear)
    (Err Bad))))))))

-- the record that bytes start with; they go on to the end of the file, or as far as it was read
unfoldable pub record_of : List ℕ → Result Record Unread
record_of xs = cond (ltb (length xs) (least_size (byte_at xs 0))) (Err Short) (fields_of (byte_at xs 0) xs)

-- the bytes that it takes, its payload too
abbrev pub size_in : Record → ℕ
size_in (Data time number message location stamp n) = 24 + n
size_in (Pop time) = 9
size_in (Report time) = 9
size_in (FullAck time) = 9
size_in (Ack2 time number) = 13
size_in (Drop first last) = 9
size_in (Clock time stamp) = 13
size_in Clear = 1

-- and none if it is not read
abbrev pub size_of : Result Record Unread → ℕ
size_of (Ok r) = size_in r
size_of (Err e) = 0
