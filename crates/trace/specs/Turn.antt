-- One turn of a replay, on the bytes of the file that are at hand: 01, "Trace, mark DLT". `Trace.antt` says what the
-- whole file gives.
use Rattle.std.specs.Prelude.{ℕ, ◌+◌, ◌*◌, Bool, true, false, cond, not, ◌&&◌, List, [], length, ◌==◌, nat_le, Result, Ok, Err}
use Rattle.head.specs.Head.{made_of, head_made}
use Rattle.dlt.specs.Header.{header_of}
use Rattle.dlt.specs.Record.{record_of, size_of}
use Rattle.dlt.specs.declared.Unread.{Unread}
use Rattle.dlt.specs.declared.Unread.TheVariants as unread
use Rattle.dlt.specs.declared.header.Header.{Header}
use Rattle.dlt.specs.declared.record.Record.{Record}
use Rattle.step.specs.declared.Call.{Call}
use Rattle.text.specs.Put.{Put, put_ended, put_of}
use Rattle.trace.specs.Trace.{Areas, Replay, call_in, payload_in, called, replayed, line_of, end_of, bad_of, fresh_replay, is_refused}
use Rattle.trace.specs.declared.Status.{Status}
use Rattle.trace.specs.declared.Status.TheVariants as status
use Rattle.trace.specs.declared.Trace.{Trace}
use Rattle.trace.specs.declared.Turned.{Turned}

abbrev pub areas_of : List ℕ → List ℕ → List ℕ → List ℕ → List ℕ → Areas
areas_of ws bs a out list = record { slots = ws; payloads = bs; history = a; output = out; list = list }

-- where no area is lent
abbrev pub no_areas : Areas
no_areas = areas_of [] [] [] [] []

-- a trace with its areas is a replay, and a replay without them a trace
abbrev pub replay_in : Trace → Areas → Replay
replay_in t a = record { count = t.count; offset = t.offset; head = t.head; tally = t.tally; areas = a }

abbrev pub trace_in : Replay → Trace
trace_in t = record { head = t.head; tally = t.tally; count = t.count; offset = t.offset }

-- no trace, a refused setting or a capacity over 32 is bad; counting says that the counters are asked for
abbrev pub begun_by : Result Header Unread → Bool → Result Trace Unread
begun_by (Err e) counting = Err e
begun_by (Ok h) counting =
    let m = made_of h.start h.latency h.dropping h.first h.capacity in
    cond (is_refused m h.capacity) (Err unread.Bad) (Ok (trace_in (fresh_replay counting no_areas (head_made m))))

-- the header at the start of the bytes at hand
abbrev pub begin_of : List ℕ → Bool → Result Trace Unread
begin_of piece counting = begun_by (header_of piece) counting

-- what came of a turn: the trace, how many bytes of the file it used, and what it wrote at the start of the lent line
pub record TurnOutcome : Type 0 where
  pub trace : Trace
  pub size : ℕ
  pub written : Put
  pub status : Status

abbrev pub turn_outcome : Trace → ℕ → Put → Status → TurnOutcome
turn_outcome t size w s = record { trace = t; size = size; written = w; status = s }

abbrev pub turned : Turned → List ℕ → TurnOutcome
turned r line = turn_outcome r.trace r.size (put_ended r.length line) r.status

-- and the areas after it
pub record TurnLeft : Type 0 where
  pub outcome : TurnOutcome
  pub areas : Areas

abbrev pub turn_left : TurnOutcome → Areas → TurnLeft
turn_left o a = record { outcome = o; areas = a }

abbrev pub is_short : Result Record Unread → Bool
is_short (Err unread.Short) = true
is_short (Err unread.Bad) = false
is_short (Ok r) = false

-- room for the longest line: the end line (256 bytes at most) with the counters behind it (429), rounded up, and 21
-- bytes for each word of a loss report
abbrev pub line_need : List ℕ → ℕ
line_need list = 700 + 21 * length list

-- nothing is done, and nothing changes
abbrev pub stays : Trace → List ℕ → Status → TurnOutcome
stays t line s = turn_outcome t 0 (put_ended 0 line) s

-- the last line: at the end of the file the end, else bad
abbrev pub ends_with : Trace → List ℕ → Bool → TurnOutcome
ends_with t line empty =
    let r = replay_in t no_areas in
    turn_outcome t 0 (put_of line 0 (cond empty (end_of r) (bad_of r))) (cond empty status.End status.Bad)

abbrev pub ends_by : Trace → List ℕ → Bool → Bool → TurnOutcome
ends_by t line more empty = cond more (stays t line status.More) (ends_with t line empty)

-- a record's call, its line, and the replay behind it
unfoldable pub advances : Trace → Areas → List ℕ → Call → List ℕ → ℕ → TurnLeft
advances t a line call payload size =
    let r = replay_in t a in
    let e = called r call payload in
    let behind = replayed r payload size e in
    turn_left (turn_outcome (trace_in behind) size (put_of line 0 (line_of r e)) status.Line) behind.areas

-- by the record that the bytes at hand start with; `last` says that none come behind them
abbrev pub turn_by : Trace → Areas → List ℕ → Bool → List ℕ → Result Record Unread → TurnLeft
turn_by t a rest last line r =
    cond (size_of r == 0)
    (turn_left (ends_by t line (is_short r && not last) (length rest == 0)) a)
    (advances t a line (call_in r) (payload_in rest r) (size_of r))

unfoldable pub turn_of : Trace → Areas → List ℕ → Bool → List ℕ → TurnLeft
turn_of t a rest last line =
    cond (nat_le (line_need a.list) (length line)) (turn_by t a rest last line (record_of rest)) (turn_left (stays t line status.LineShort) a)
