-- The calls that a file's records are, as events of the ledger's runs, and what a replay of the file is to be: 01,
-- "Trace, mark DLT", and demand 3. A record's call and payload are read from the bytes; the output and the list that
-- are lent for it are those that the call before it left.
use Rattle.std.specs.Prelude.{◌≡◌, Bool, true, false, not, cond, List, [], ◌∷◌, ◌++◌, ℕ, zero, suc, ◌+◌, eqb, ℤ, length, drop, Option, Result, Ok, Err}
use Rattle.numbers.specs.Circular.{sum}
use Rattle.head.specs.Head.{made_of, head_made}
use Rattle.head.specs.declared.state.Head.{Head}
use Rattle.counts.specs.declared.Counters.{Counters}
use Rattle.dlt.specs.Header.{header_of}
use Rattle.dlt.specs.declared.Unread.{Unread}
use Rattle.dlt.specs.Record.{record_of, size_of}
use Rattle.dlt.specs.declared.record.Record.{Record}
use Rattle.dlt.specs.declared.record.Record.TheVariants as records
use Rattle.lines.specs.Lines.{line_bytes, end_bytes, bad_bytes}
use Rattle.step.specs.Step.{State, state_of, lent_for, Ended, step_of}
use Rattle.tally.specs.Tally.{fresh_tally, tallied, tally_bytes}
use Rattle.trace.specs.Trace.{Areas, Replay, call_in, payload_in, called, replayed}
use Rattle.trace.specs.Trace.{is_refused, fresh_replay, lines_of, output_of}
use Rattle.ledger.specs.Runs.{Event, Desk, Book, opening, answered, book_after}
use Rattle.ledger.specs.Claims.{Demanded}

-- a header that is accepted: its settings make a receiver, and its capacity is at most 32
pub record Accepted (file : List ℕ) : Type 0 where
  pub start : ℤ
  pub latency : ℕ
  pub dropping : Bool
  pub first : ℕ
  pub capacity : ℕ
  pub header : header_of file ≡ Ok (record { start = start; latency = latency; dropping = dropping; first = first; capacity = capacity })
  pub taken : is_refused (made_of start latency dropping first capacity) capacity ≡ false

abbrev pub head_in : {file : List ℕ} → Accepted file → Head
head_in s = head_made (made_of s.start s.latency s.dropping s.first s.capacity)

-- what the station knows of it: the header's settings, and the lengths of the areas that it lends
abbrev pub desk_in : Areas → {file : List ℕ} → Accepted file → Desk
desk_in a s =
    record {
      capacity = s.capacity;
      latency = s.latency;
      dropping = s.dropping;
      slots = length a.slots;
      payloads = length a.payloads;
      history = length a.history;
      latest = s.start;
    }

module _ (file : List ℕ) where
  -- the file without its header of 24 bytes and its first n records
  unfoldable pub rest_after : ℕ → List ℕ
  rest_after zero = drop 24 file
  rest_after (suc n) = drop (size_of (record_of (rest_after n))) (rest_after n)

  -- the record after these n, and its payload
  abbrev pub record_at : ℕ → Result Record Unread
  record_at n = record_of (rest_after n)

  abbrev pub payload_at : ℕ → List ℕ
  payload_at n = payload_in (rest_after n) (record_at n)

  -- where it begins in the file
  unfoldable pub offset_of : ℕ → ℕ
  offset_of zero = 24
  offset_of (suc n) = offset_of n + size_of (record_at n)

  -- a replay after n records, from this one on: the turn of the trace again and again
  unfoldable pub replay_after : Replay → ℕ → Replay
  replay_after t zero = t
  replay_after t (suc n) =
      let r = replay_after t n in
      replayed r (payload_at n) (size_of (record_at n)) (called r (call_in (record_at n)) (payload_at n))

-- a sound record: not cut, of a known kind, and its payload not too long
abbrev pub is_sound : Result Record Unread → Bool
is_sound r = not (eqb (size_of r) 0)

abbrev pub is_clear : Result Record Unread → Bool
is_clear (Err e) = false
is_clear (Ok (records.Data time number message location stamp n)) = false
is_clear (Ok (records.Pop time)) = false
is_clear (Ok (records.Report time)) = false
is_clear (Ok (records.FullAck time)) = false
is_clear (Ok (records.Ack2 time number)) = false
is_clear (Ok (records.Drop first last)) = false
is_clear (Ok (records.Clock time stamp)) = false
is_clear (Ok records.Clear) = true

-- the first n records are sound; and none of them is a clear
abbrev pub SoundTo : List ℕ → ℕ → Type 0
SoundTo file zero = Unit
SoundTo file (suc n) = (is_sound (record_at file n) ≡ true) × SoundTo file n

abbrev pub NoClearTo : List ℕ → ℕ → Type 0
NoClearTo file zero = Unit
NoClearTo file (suc n) = (is_clear (record_at file n) ≡ false) × NoClearTo file n

-- m records later; and these m are sound and none is a clear
abbrev pub later : ℕ → ℕ → ℕ
later n zero = n
later n (suc m) = suc (later n m)

abbrev pub CallsFrom : List ℕ → ℕ → ℕ → Type 0
CallsFrom file n zero = Unit
CallsFrom file n (suc m) =
    (is_sound (record_at file (later n m)) ≡ true) × (is_clear (record_at file (later n m)) ≡ false) × CallsFrom file n m

-- the run: the receiver that the header made, of this first number, with what the station knows of it and the lent
-- areas
module _ (a : Areas) (file : List ℕ) (first : ℕ) (d : Desk) (h : Head) where
  abbrev pub start_of : State
  start_of = state_of h a.slots a.payloads a.history

  abbrev pub run_of : List Event → Book
  run_of past = book_after step_of (opening first d start_of) past

  -- output and list as the run has them
  abbrev pub output_after : List Event → List ℕ
  output_after [] = a.output
  output_after (e ∷ past) = (answered step_of (run_of past) e).output

  abbrev pub list_after : List Event → List ℕ
  list_after [] = a.list
  list_after (e ∷ past) = (answered step_of (run_of past) e).list

  -- the call of the record after n calls
  abbrev pub event_of : ℕ → List Event → Event
  event_of n past =
      record { call = call_in (record_at file n); lent = lent_for (payload_at file n) (output_after past) (list_after past) }

  -- the first n calls of the file, the newest first
  unfoldable pub events_of : ℕ → List Event
  events_of zero = []
  events_of (suc n) = event_of n (events_of n) ∷ events_of n

  -- the receiver's state after them
  abbrev pub state_after : ℕ → State
  state_after n = (run_of (events_of n)).state

  -- the m calls after the first n
  unfoldable pub stretch_of : ℕ → ℕ → List Event
  stretch_of n zero = []
  stretch_of n (suc m) = event_of (later n m) (events_of (later n m)) ∷ stretch_of n m

  -- what the run answers to record n, counted from 0, and its line, numbered from 1 (mod 2^64, which no file reaches)
  abbrev pub answer_at : ℕ → Ended
  answer_at n = answered step_of (run_of (events_of n)) (event_of n (events_of n))

  abbrev pub line_at : ℕ → List ℕ
  line_at n = line_bytes (sum 64 0 (suc n)) (answer_at n).line

  unfoldable pub lines_to : ℕ → List ℕ
  lines_to zero = []
  lines_to (suc n) = lines_to n ++ line_at n

  -- what the first n answers count, if it is asked for
  unfoldable pub tally_after : Bool → ℕ → Option Counters
  tally_after counting zero = fresh_tally counting
  tally_after counting (suc n) = tallied (tally_after counting n) (length (payload_at file n)) (answer_at n).answer

  -- the last line after n records: the end line with the run's head, and then the counters; or bad with the offset
  abbrev pub closing_at : Bool → ℕ → List ℕ
  closing_at counting n =
      let w = (state_after n).head.window in
      cond (eqb (length (rest_after file n)) 0)
      (end_bytes (sum 64 0 n) w.lrsn w.seqno0 w.held ++ tally_bytes (tally_after counting n))
      (bad_bytes (sum 64 0 (offset_of file n)))

-- the replay after n records is that run after n calls: head and areas, output and list, and its counts
pub record IsRun (counting : Bool) (a : Areas) (file : List ℕ) (first : ℕ) (d : Desk) (h : Head) (n : ℕ) (t : Replay)
    : Type 0 where
  pub state : state_of t.head t.areas.slots t.areas.payloads t.areas.history
      ≡ state_after a file first d h n
  pub output : t.areas.output ≡ output_after a file first d h (events_of a file first d h n)
  pub list : t.areas.list ≡ list_after a file first d h (events_of a file first d h n)
  pub count : t.count ≡ sum 64 0 n
  pub offset : t.offset ≡ sum 64 0 (offset_of file n)
  pub tally : t.tally ≡ tally_after a file first d h counting n

-- what the file gives: the lines of the run's first n answers, joined, then what the rest gives; and if no sound record
-- is left, the last line
abbrev pub BeginsAs : Bool → Areas → List ℕ → ℕ → Desk → Head → ℕ → Type 0
BeginsAs counting a file first d h n =
    let rest = rest_after file n in
    output_of counting a file
    ≡ lines_to a file first d h n ++ lines_of (length rest) (replay_after file (fresh_replay counting a h) n) rest

abbrev pub IsAll : Bool → Areas → List ℕ → ℕ → Desk → Head → ℕ → Type 0
IsAll counting a file first d h n =
    output_of counting a file ≡ lines_to a file first d h n ++ closing_at a file first d h counting n

-- after n records, all sound and none a clear: the replay is the run, its lines are those of the run's answers, and
-- demand 3 holds of it
pub record Replayed (counting : Bool) (a : Areas) (file : List ℕ) (first : ℕ) (d : Desk) (h : Head) (n : ℕ) : Type 0 where
  pub is_run : IsRun counting a file first d h n (replay_after file (fresh_replay counting a h) n)
  pub lines : BeginsAs counting a file first d h n
  pub demanded : Demanded step_of (opening first d (start_of a file first d h)) (events_of a file first d h n)

-- a stretch of a file that may have clears before it: from a moment at which the receiver holds nothing and has
-- acknowledged all before the number f, and k is what the station knows, the next m records are a run from there, and
-- demand 3 holds of it
pub record Stretched (a : Areas) (file : List ℕ) (first : ℕ) (d : Desk) (h : Head) (f n m : ℕ) (k : Desk) : Type 0 where
  pub state : state_after a file first d h (later n m)
      ≡ (book_after step_of (opening f k (state_after a file first d h n)) (stretch_of a file first d h n m)).state
  pub demanded : Demanded step_of (opening f k (state_after a file first d h n)) (stretch_of a file first d h n m)
