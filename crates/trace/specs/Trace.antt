-- What a replay writes for a whole file: 01, "Trace, mark DLT".
use Rattle.std.specs.Prelude.{ℕ, zero, suc, Bool, true, false, cond, not, List, ◌++◌, length, take, drop, ◌==◌, nat_le, Option, Result, Ok, Err}
use Rattle.numbers.specs.Circular.{sum}
use Rattle.head.specs.Head.{made_of, head_made}
use Rattle.head.specs.declared.refusal.Refusal.{Refusal}
use Rattle.head.specs.declared.state.Head.{Head}
use Rattle.counts.specs.declared.Counters.{Counters}
use Rattle.dlt.specs.Header.{header_of}
use Rattle.dlt.specs.Record.{record_of, size_of}
use Rattle.dlt.specs.declared.Unread.{Unread}
use Rattle.dlt.specs.declared.header.Header.{Header}
use Rattle.dlt.specs.declared.record.Record.{Record}
use Rattle.dlt.specs.declared.record.Record.TheVariants as records
use Rattle.lines.specs.Lines.{line_bytes, end_bytes, bad_bytes}
use Rattle.step.specs.Step.{state_of, lent_for, Ended, step_of}
use Rattle.tally.specs.Tally.{fresh_tally, tallied, tally_bytes}
use Rattle.step.specs.declared.Call.{Call}
use Rattle.step.specs.declared.Call.TheVariants as calls

-- what is lent for a whole replay, of any length and any contents: slots, payloads, history, output, loss words
pub record Areas : Type 0 where
  pub slots : List ℕ
  pub payloads : List ℕ
  pub history : List ℕ
  pub output : List ℕ
  pub list : List ℕ

-- a replay between two records: how many were read, where the next begins in the file, the receiver's head, the
-- counters, and the areas as they are
pub record Replay : Type 0 where
  pub count : ℕ
  pub offset : ℕ
  pub head : Head
  pub tally : Option Counters
  pub areas : Areas

-- the record as a call; one that is cut or bad is none, and is never made, so that any call may stand for it
abbrev pub call_in : Result Record Unread → Call
call_in (Err e) = calls.Clear
call_in (Ok (records.Data time number message location stamp n)) = calls.Data time number message location stamp
call_in (Ok (records.Pop time)) = calls.Pop time
call_in (Ok (records.Report time)) = calls.Report time
call_in (Ok (records.FullAck time)) = calls.FullAck time
call_in (Ok (records.Ack2 time number)) = calls.Ack2 time number
call_in (Ok (records.Drop first last)) = calls.Drop first last
call_in (Ok (records.Clock time stamp)) = calls.Clock time stamp
call_in (Ok records.Clear) = calls.Clear

-- the length of its payload, which follows the 24 bytes that every data record has
abbrev pub length_in : Result Record Unread → ℕ
length_in (Err e) = 0
length_in (Ok (records.Data time number message location stamp n)) = n
length_in (Ok (records.Pop time)) = 0
length_in (Ok (records.Report time)) = 0
length_in (Ok (records.FullAck time)) = 0
length_in (Ok (records.Ack2 time number)) = 0
length_in (Ok (records.Drop first last)) = 0
length_in (Ok (records.Clock time stamp)) = 0
length_in (Ok records.Clear) = 0

abbrev pub payload_in : List ℕ → Result Record Unread → List ℕ
payload_in rest r = take (length_in r) (drop 24 rest)

-- a record's call, with its payload, on the receiver and the areas as they are
abbrev pub called : Replay → Call → List ℕ → Ended
called t call payload =
    step_of
    (state_of t.head t.areas.slots t.areas.payloads t.areas.history)
    (lent_for payload t.areas.output t.areas.list)
    call

-- the replay behind a record of that payload and size; records and bytes are counted mod 2^64, which no file reaches
abbrev pub replayed : Replay → List ℕ → ℕ → Ended → Replay
replayed t payload size e =
    record {
      count = sum 64 t.count 1;
      offset = sum 64 t.offset size;
      head = e.state.head;
      tally = tallied t.tally (length payload) e.answer;
      areas =
          record { slots = e.state.slots; payloads = e.state.payloads; history = e.state.history; output = e.output; list = e.list };
    }

-- the record's number (from 1), and the line of its answer
abbrev pub line_of : Replay → Ended → List ℕ
line_of t e = line_bytes (sum 64 t.count 1) e.line

-- end: records, lrsn, seqno0, held, and behind it the counters if they are asked for; bad: the record's offset
abbrev pub end_of : Replay → List ℕ
end_of t = end_bytes t.count t.head.window.lrsn t.head.window.seqno0 t.head.window.held ++ tally_bytes t.tally

abbrev pub bad_of : Replay → List ℕ
bad_of t = bad_bytes t.offset

-- x if the test holds, else f; f is asked for only then, so that a long file costs what it has
abbrev pub or_else : Bool → List ℕ → (Unit {0} → List ℕ) → List ℕ
or_else true x f = x
or_else false x f = f tt

-- no record is left: at the end of the file it is the end, and a record that is cut, unknown or too long is bad
abbrev pub closing : Replay → List ℕ → List ℕ
closing t rest = cond (length rest == 0) (end_of t) (bad_of t)

-- the rest of the file, a line a record; it has at most n records
unfoldable pub lines_of : ℕ → Replay → List ℕ → List ℕ
lines_of zero t rest = closing t rest
lines_of (suc n) t rest =
    let r = record_of rest in
    or_else (size_of r == 0) (closing t rest)
    (λ u.
    let payload = payload_in rest r in
    let e = called t (call_in r) payload in
    line_of t e ++ lines_of n (replayed t payload (size_of r) e) (drop (size_of r) rest))

-- a fresh replay; counting asks for the counters
abbrev pub fresh_replay : Bool → Areas → Head → Replay
fresh_replay counting a h = record { count = 0; offset = 24; head = h; tally = fresh_tally counting; areas = a }

-- a refused setting or a capacity over 32 is bad
abbrev pub is_refused : Result Head Refusal → ℕ → Bool
is_refused (Ok h) capacity = not (nat_le capacity 32)
is_refused (Err e) capacity = true

-- by its header; every record has a byte at least, so there are no more records than bytes
abbrev pub by_header : Bool → Areas → Result Header Unread → List ℕ → List ℕ
by_header counting a (Err e) rest = bad_bytes 0
by_header counting a (Ok h) rest =
    let m = made_of h.start h.latency h.dropping h.first h.capacity in
    or_else (is_refused m h.capacity) (bad_bytes 0) (λ u. lines_of (length rest) (fresh_replay counting a (head_made m)) rest)

-- the whole output for a whole file: 01's lines, with the counters behind the end line if they are asked for
unfoldable pub output_of : Bool → Areas → List ℕ → List ℕ
output_of counting a file = by_header counting a (header_of file) (drop 24 file)
