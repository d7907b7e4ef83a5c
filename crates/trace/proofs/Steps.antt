-- What the code of lib.rt does at each return, as laws over plain values. A signed number stands twice, as it is and as
-- the machine reads it back. Assumes nothing.
use Rattle.std.proofs.Common.{◌≡◌, ℕ, ◌+◌, ◌-◌, ◌*◌, ◌/◌, ◌%◌, ◌^◌, ◌<◌, ◌≤◌, Bool, true, false, cond, not, ◌&&◌, eqb, leb, List, length, take, drop, ℤ, pos, sym, refl, ap, ◌∙◌, arith, length-drop, drop-drop, rules, ne_eqb, le-leb, leb-true}
use Rattle.numbers.specs.Circular.{sum}
use Rattle.numbers.proofs.Flags.{and-false}
use Rattle.dlt.specs.Record.{record_of, size_in}
use Rattle.dlt.proofs.Laws.{record-in}
use Rattle.std.specs.Prelude.{Option, Result, Ok}
use Rattle.dlt.specs.declared.Unread.{Unread}
use Rattle.dlt.specs.declared.record.Record.{Record}
use Rattle.dlt.specs.declared.record.Record.TheVariants as records
use Rattle.shapes.specs.Ready.{Wrote}
use Rattle.tally.specs.Tally.{tallied, tally_bytes}
use Rattle.counts.specs.declared.Counters.{Counters}
use Rattle.text.specs.Put.{Put, put_ended, put_of}
use Rattle.text.proofs.Puts.{put-cursor, put_then}
use Rattle.lines.specs.Lines.{line_bytes, end_bytes}
use Rattle.step.specs.Step as steps
use Rattle.step.specs.Step.{Ended, ended, state_of, lent_for, step_of}
use Rattle.step.specs.declared.Stepped.{Stepped}
use Rattle.step.specs.declared.Call.{Call}
use Rattle.trace.specs.Trace.{Areas, call_in, length_in, payload_in}
use Rattle.trace.specs.Turn.{is_short, line_need, areas_of, turn_outcome, TurnLeft, turn_left, turned, ends_with, advances, turn_by, turn_of}
use Rattle.trace.specs.declared.Turned.{Turned}
use Rattle.trace.specs.Ready.{RecordHere}
use Rattle.trace.specs.declared.Status.TheVariants as status
use Rattle.trace.specs.declared.Trace.{Trace}

-- advance
-- what a call left, with the counters, the count, the offset and what was written
abbrev leaves : ℕ → Ended → Option Counters → ℕ → ℕ → Put → TurnLeft
leaves size x tally count offset w =
    turn_left (turn_outcome (record { head = x.state.head; tally = tally; count = count; offset = offset }) size w status.Line)
    (areas_of x.state.slots x.state.payloads x.state.history x.output x.list)

module _ (t : Trace) (ws bs a out list line : List ℕ) (call : Call) (payload : List ℕ) (size : ℕ) where
  pub advanced : {count offset n : ℕ} {s : Stepped} {c : Option Counters} {ws₁ bs₁ a₁ out₁ list₁ line₁ : List ℕ}
      → count ≡ (t.count + 1) % 2 ^ 64 → offset ≡ (t.offset + size) % 2 ^ 64
      → ended s ws₁ bs₁ a₁ out₁ list₁ ≡ step_of (state_of t.head ws bs a) (lent_for payload out list) call
      → put_ended n line₁ ≡ put_of line 0 (line_bytes count (steps.line_of s.answer list₁))
      → c ≡ tallied t.tally (length payload) s.answer
      → turn_left (turn_outcome (record { head = s.head; tally = c; count = count; offset = offset }) size (put_ended n line₁) status.Line) (areas_of ws₁ bs₁ a₁ out₁ list₁)
      ≡ advances t (areas_of ws bs a out list) line call payload size
  unfolding sum advances
  advanced {count} {offset} {n} {s} {c} {ws₁} {bs₁} {a₁} {out₁} {list₁} e f g p k =
      ap (leaves size (ended s ws₁ bs₁ a₁ out₁ list₁) c count offset) p
      ∙ rw (k, e, f)
      (ap
      (λ (x : Ended).
      leaves size x (tallied t.tally (length payload) x.answer) (sum 64 t.count 1) (sum 64 t.offset size)
      (put_of line 0 (line_bytes (sum 64 t.count 1) x.line)))
      g)

-- end
module _ (t : Trace) (line : List ℕ) {line₁ : List ℕ} where
  pub ended-with : {p n : ℕ} {line₂ : List ℕ} → 700 ≤ length line → Wrote line 0 (end_bytes t.count t.head.window.lrsn t.head.window.seqno0 t.head.window.held) 256 p line₂
      → Wrote line₂ p (tally_bytes t.tally) 429 n line₁ → turn_outcome t 0 (put_ended n line₁) status.End ≡ ends_with t line true
  ended-with room e f =
      let k = put-cursor line 0 _ e.bytes in
      let l = e.within in
      ap (λ (p : Put). turn_outcome t 0 p status.End)
      (put_then line 0 (end_bytes t.count t.head.window.lrsn t.head.window.seqno0 t.head.window.held) (tally_bytes t.tally) e.bytes f.bytes (omega arith))

-- make: a record's payload is the end of it
payload-no-longer : (r : Record) → length_in (Ok r) ≤ size_in r
payload-no-longer (records.Data time number message location stamp n) = omega arith
payload-no-longer (records.Pop time) = omega arith
payload-no-longer (records.Report time) = omega arith
payload-no-longer (records.FullAck time) = omega arith
payload-no-longer (records.Ack2 time number) = omega arith
payload-no-longer (records.Drop first last) = omega arith
payload-no-longer (records.Clock time stamp) = omega arith
payload-no-longer records.Clear = omega arith

payload-lies : (piece : List ℕ) (at : ℕ) (r : Record) → take (length_in (Ok r)) (drop (at + size_in r - length_in (Ok r)) piece) ≡ payload_in (drop at piece) (Ok r)
payload-lies piece at (records.Data time number message location stamp n) =
    ap (take n) (ap (λ (k : ℕ). drop k piece) (let k : at + (24 + n) - n ≡ at + 24 = omega arith in k) ∙ sym (drop-drop 24 at piece))
payload-lies piece at (records.Pop time) = refl
payload-lies piece at (records.Report time) = refl
payload-lies piece at (records.FullAck time) = refl
payload-lies piece at (records.Ack2 time number) = refl
payload-lies piece at (records.Drop first last) = refl
payload-lies piece at (records.Clock time stamp) = refl
payload-lies piece at records.Clear = refl

pub whole_is : (list line piece : List ℕ) (at : ℕ) {x : Result Record Unread} {r : Record} → line_need list ≤ length line → x ≡ record_of (drop at piece) → x ≡ Ok r
    → RecordHere list line piece at r
whole_is list line piece at {x} {r} a b c =
    let e = sym c ∙ b in
    record { room = a; read = e; ends = record-in piece at e; pays = payload-no-longer r }

pub made-is : (t : Trace) (a : Areas) (list line piece : List ℕ) (at : ℕ) (r : Record) (size n : ℕ) {call : Call} {x : TurnLeft} → RecordHere list line piece at r
    → size ≡ size_in r → call ≡ call_in (Ok r) → n ≡ length_in (Ok r) → x ≡ advances t a line call (take (at + size - (at + size - n)) (drop (at + size - n) piece)) size
    → x ≡ advances t a line (call_in (Ok r)) (payload_in (drop at piece) (Ok r)) (size_in r)
made-is t a list line piece at r size n w d e f g =
    let short : n ≤ size = rw (d, f) w.pays in
    let k : at + size - (at + size - n) ≡ n = omega arith in
    let same : take (at + size - (at + size - n)) (drop (at + size - n) piece) ≡ payload_in (drop at piece) (Ok r) =
    rw (k, f, d) (payload-lies piece at r) in
    g ∙ rw (e, same, d)

-- may_come
pub come-not : (r : Result Record Unread) (last : Bool) → last ≡ true → false ≡ (is_short r && not last)
come-not r last e = rw (e, and-false (is_short r) refl)

-- next
pub room-so : (list line : List ℕ) {b : Bool} → b ≡ leb (line_need list) (length line) → b ≡ true → line_need list ≤ length line
room-so list line e f = leb-true _ _ (sym e ∙ f)

module _ (t : Trace) (a : Areas) (rest : List ℕ) (last : Bool) (line : List ℕ) {b : Bool} where
  pub next-short : {line₁ : List ℕ} {r : Turned} → b ≡ leb (line_need a.list) (length line) → b ≡ false → r ≡ record { trace = t; size = 0; length = 0; status = status.LineShort } → line₁ ≡ line
      → turn_left (turned r line₁) a ≡ turn_of t a rest last line
  unfolding turn_of
  next-short e f g h = rw (← e, f, g, h)

  pub next-turn : {x : TurnLeft} → b ≡ leb (line_need a.list) (length line) → b ≡ true → x ≡ turn_by t a rest last line (record_of rest) → x ≡ turn_of t a rest last line
  unfolding turn_of
  next-turn e f g = rw (← e, f) g

pub ruleset runs = (advanced, ended-with, rules)

pub ruleset turns = (whole_is, room-so, next-short, next-turn, rules)
