-- Which refusal a call answers: by 1 to 6 just if a test holds, else by none or by a later number of its own, and never by 0. Assumes nothing.
use mathlib.Core.Path.{◌≡◌, refl, ap, sym, ◌∙◌, subst}
use mathlib.Core.Bool.{Bool, true, cond}
use mathlib.Core.List.{List, []}
use mathlib.Core.Logic.{inl, inr}
use Prim.Native.Nat.{ℕ, ◌*◌, ◌<◌}
use native.Mathlib.Omega.{arith}
use lib.Dec.{eqb}
use lib.IntN.{ℤ}
use lib.ListN.{length}
use Rattle.std.specs.Prelude.{Option, Some, None, Result, Ok, Err}
use Rattle.numbers.proofs.Flags.{by-test}
use Rattle.acks.specs.History.{ack2_of, full_ack_of, light_ack_of}
use Rattle.acks.specs.declared.history.History.{History}
use Rattle.acks.specs.declared.history.Acked.{Acked}
use Rattle.acks.specs.declared.history.FasnWorn.{FasnWorn}
use Rattle.acks.specs.declared.history.Answered.{Answered}
use Rattle.clock.specs.Sync.{synchronized}
use Rattle.clock.specs.declared.base.DriftRange.{DriftRange}
use Rattle.clock.specs.declared.time.Step.{Step}
use Rattle.clock.specs.declared.time.Synchronized.{Synchronized}
use Rattle.clock.specs.declared.time.Synchronized.TheVariants as clocks
use Rattle.window.specs.Window.{room_of}
use Rattle.window.specs.Push.{push_of}
use Rattle.window.specs.declared.Window.{Window}
use Rattle.window.specs.declared.push.Packet.{Packet}
use Rattle.window.specs.declared.push.Pushed.{Pushed}
use Rattle.window.specs.declared.push.PushRefusal.{PushRefusal}
use Rattle.window.specs.declared.push.PushRefusal.TheVariants as push_refusals
use Rattle.window.specs.declared.push.PushAnswer.{PushAnswer}
use Rattle.window.specs.declared.push.PushAnswer.TheVariants as pushes
use Rattle.window_pop.specs.Pop.{pop_of}
use Rattle.window_pop.specs.declared.pop.Popped.{Popped}
use Rattle.window_pop.specs.declared.pop.OutShort.{OutShort}
use Rattle.window_pop.specs.declared.pop.PopAnswer.{PopAnswer}
use Rattle.window_pop.specs.declared.pop.PopAnswer.TheVariants as pops
use Rattle.window_report.specs.Report.{report_of}
use Rattle.window_report.specs.declared.report.ListShort.{ListShort}
use Rattle.head.specs.Paper as paper
use Rattle.head.specs.Parts.{with_latest}
use Rattle.head.specs.Rules.{first_refusal, push_rules, pop_rules, timed_rules, drop_rules, clock_rules}
use Rattle.head.specs.Head.{head_ok}
use Rattle.head.specs.declared.refusal.Refusal.{Refusal}
use Rattle.head.proofs.Gates.{by-refusal}
use Rattle.head.specs.declared.state.Head.{Head}
use Rattle.receiver.specs.Data as receiving
use Rattle.receiver.specs.Data.{DataOutcome, packet, light_or_got, acked_of, got_of, taken_of, data_call_of}
use Rattle.receiver.specs.Message as message
use Rattle.receiver.specs.Message.{MessageOutcome, pop_call_of}
use Rattle.feedback.specs.Acking.{FullAckOutcome, full_ack_ended, Ack2Outcome, after_ack, after_ack2, roomy_ack, due_ack, full_ack_call_of, held_ack2, ack2_call_of}
use Rattle.feedback.specs.Loss.{LossOutcome, answer_of, reported_of, report_call_of}
use Rattle.feedback.specs.Sync.{ClockOutcome, after_sync, sync_of, clock_call_of}
use Rattle.upkeep.specs.Request.{DropOutcome, drop_call_of}
use Rattle.step.specs.Step.{State, Lent, line_of, step_of}
use Rattle.step.specs.declared.Call.{Call}
use Rattle.step.specs.declared.Call.TheVariants as calls
use Rattle.step.specs.declared.Answer.{Answer}
use Rattle.step.specs.declared.Answer.TheVariants as answers
use Rattle.ledger.specs.Seen.{NotClear, refusal_in, refused_in}
use Rattle.ledger.specs.Runs.{Desk, Known}
use Rattle.ledger.specs.Claims.{Later, Refuses, early_by, early_refusal}
use Rattle.ledger.proofs.Moves.{number-some}

-- an answer that is no refusal, a later refusal, and one of 1 to 6
module _ {n : Result Unit Refusal} {c : Call} {a : Answer} where
  unrefused : n ≡ Ok tt → refused_in a ≡ Ok tt → ((line_of a []).word ≡ paper.refused → ⊥) → Refuses n c a
  unrefused z e w = record { tested = inl (e ∙ sym z); numbered = λ q. absurd (w q) }

  later : n ≡ Ok tt → Later c (refusal_in a) → 0 < refusal_in a → Refuses n c a
  later z e m = record { tested = inr (z, e); numbered = λ q. m }

  earlier : {e : Refusal} → n ≡ Err e → refused_in a ≡ Err e → 0 < refusal_in a → Refuses n c a
  earlier z q m = record { tested = inl (q ∙ sym z); numbered = λ w. m }

module _ (h : Head) (ws bs : List ℕ) (now : ℤ) where
  module _ (number message location stamp : ℕ) (payload : List ℕ) where
    abbrev c : Call
    c = calls.Data now number message location stamp

    abbrev p : Packet
    p = packet number message location stamp

    abbrev tests : Result Unit Refusal
    tests = first_refusal (push_rules (head_ok h) h.window.capacity (length ws) (length bs) now h.latest p (length payload))

    got : (n : Result Unit Refusal) → n ≡ Ok tt → (g : Head) (lrsn : ℕ) (recovered : Bool) (y : Option History) → Refuses n c (answers.Data (light_or_got g lrsn recovered y).answer)
    got n z g lrsn recovered (Some y) = unrefused z refl (λ q. let x : ◌≡◌ {A = ℕ} 0 1 = cc in omega arith)
    got n z g lrsn recovered None = unrefused z refl (λ q. let x : ◌≡◌ {A = ℕ} 0 1 = cc in omega arith)

    taken : (n : Result Unit Refusal) → n ≡ Ok tt → (v : Window) (a : PushAnswer) (size : ℕ) → Refuses n c (answers.Data (receiving.after_taken h v a now number size).answer)
    unfolding got_of acked_of
    taken n z v (pushes.Got lrsn recovered) size =
        let g = receiving.placed_of (cond recovered h (receiving.rated_of h now number size)) v now in got n z g lrsn recovered (light_ack_of g.history lrsn)
    taken n z v (pushes.Loss first last) size = unrefused z refl (λ q. let x : ◌≡◌ {A = ℕ} 0 1 = cc in omega arith)

    pushed : (n : Result Unit Refusal) → n ≡ Ok tt → (r : Result Pushed PushRefusal) (size : ℕ) → Refuses n c (answers.Data (receiving.after_push h r now number size).answer)
    pushed n z (Ok r) size = taken n z r.window r.answer size
    pushed n z (Err push_refusals.BufferFull) size = later z (omega arith, omega arith) (omega arith)
    pushed n z (Err (push_refusals.PacketTooEarly room need)) size = later z (omega arith, omega arith) (omega arith)
    pushed n z (Err push_refusals.PacketTooLate) size = later z (omega arith, omega arith) (omega arith)
    pushed n z (Err push_refusals.DiscardedDuplicate) size = later z (omega arith, omega arith) (omega arith)

    data-refuses : Refuses tests c (answers.Data (data_call_of h ws bs now p payload).handled.answer)
    unfolding data_call_of taken_of
    data-refuses =
        by-refusal (λ (o : DataOutcome). Refuses tests c (answers.Data o.handled.answer)) tests _ _
        (λ x z. pushed tests z (push_of h.window ws bs now p payload).pushed (length payload))
        (λ e z. earlier z refl (number-some e))

  gave : (n : Result Unit Refusal) → n ≡ Ok tt → (a : PopAnswer) → Refuses n (calls.Pop now) (answers.Pop (Ok a))
  gave n z pops.Nothing = unrefused z refl (λ q. let x : ◌≡◌ {A = ℕ} 0 1 = cc in omega arith)
  gave n z (pops.Message time bytes packets) = unrefused z refl (λ q. let x : ◌≡◌ {A = ℕ} 0 1 = cc in omega arith)
  gave n z (pops.Late first end delay) = unrefused z refl (λ q. let x : ◌≡◌ {A = ℕ} 0 1 = cc in omega arith)

  popped : (n : Result Unit Refusal) → n ≡ Ok tt → (r : Result Popped OutShort) → Refuses n (calls.Pop now) (answers.Pop (message.answer_of r))
  popped n z (Ok r) = gave n z r.answer
  popped n z (Err e) = later z refl (omega arith)

  pop-refuses : (out : List ℕ)
      → Refuses (first_refusal (pop_rules (head_ok h) h.window.capacity (length ws) (length bs) now h.latest)) (calls.Pop now) (answers.Pop (pop_call_of h ws bs out now).given.answer)
  unfolding pop_call_of message.taken_of
  pop-refuses out =
      let n = first_refusal (pop_rules (head_ok h) h.window.capacity (length ws) (length bs) now h.latest) in
      by-refusal (λ (o : MessageOutcome). Refuses n (calls.Pop now) (answers.Pop o.given.answer)) n _ _
      (λ x z. popped n z (pop_of h.clock h.latency h.dropping h.window ws now bs out).popped)
      (λ e z. earlier z refl (number-some e))

  reported : (n : Result Unit Refusal) → n ≡ Ok tt → (a : Result (Option ℕ) ListShort) → Refuses n (calls.Report now) (answers.Report (answer_of a))
  reported n z (Ok None) = unrefused z refl (λ q. let x : ◌≡◌ {A = ℕ} 0 1 = cc in omega arith)
  reported n z (Ok (Some words)) = unrefused z refl (λ q. let x : ◌≡◌ {A = ℕ} 0 1 = cc in omega arith)
  reported n z (Err e) = later z refl (omega arith)

  report-refuses : (list : List ℕ)
      → Refuses (first_refusal (timed_rules (head_ok h) (length ws) (3 * h.window.capacity) now h.latest)) (calls.Report now) (answers.Report (report_call_of h ws list now).reported.answer)
  unfolding report_call_of reported_of
  report-refuses list =
      let n = first_refusal (timed_rules (head_ok h) (length ws) (3 * h.window.capacity) now h.latest) in
      by-refusal (λ (o : LossOutcome). Refuses n (calls.Report now) (answers.Report o.reported.answer)) n _ _
      (λ x z. reported n z (report_of h.window ws now h.rtt.mean list).answer)
      (λ e z. earlier z refl (number-some e))

module _ (h : Head) (b : List ℕ) (now : ℤ) where
  abbrev timed : Result Unit Refusal
  timed = first_refusal (timed_rules (head_ok h) (length b) 2048 now h.latest)

  acked : (n : Result Unit Refusal) → n ≡ Ok tt → (x : Result (Option Acked) FasnWorn) → Refuses n (calls.FullAck now) (answers.FullAck (after_ack h x now).answer)
  acked n z (Ok None) = unrefused z refl (λ q. let x : ◌≡◌ {A = ℕ} 0 1 = cc in omega arith)
  acked n z (Ok (Some k)) = unrefused z refl (λ q. let x : ◌≡◌ {A = ℕ} 0 1 = cc in omega arith)
  acked n z (Err e) = later z refl (omega arith)

  full-ack-refuses : Refuses timed (calls.FullAck now) (answers.FullAck (full_ack_call_of h b now).acked.answer)
  unfolding full_ack_call_of due_ack roomy_ack
  full-ack-refuses =
      by-refusal (λ (o : FullAckOutcome). Refuses timed (calls.FullAck now) (answers.FullAck o.acked.answer)) timed _ _
      (λ x z.
      by-test (λ (o : FullAckOutcome). Refuses timed (calls.FullAck now) (answers.FullAck o.acked.answer)) (eqb (room_of h.window) 0)
      (full_ack_ended (record { head = with_latest h now; answer = Ok None }) b) (roomy_ack h b now)
      (λ t. unrefused z refl (λ q. let x : ◌≡◌ {A = ℕ} 0 1 = cc in omega arith))
      (λ t. acked timed z (full_ack_of h.history b now h.rtt.mean h.latency h.window.lrsn).acked))
      (λ e z. earlier z refl (number-some e))

  acked2 : (n : Result Unit Refusal) → n ≡ Ok tt → (number : ℕ) (x : Option Answered) → Refuses n (calls.Ack2 now number) (answers.Ack2 (after_ack2 h x now).answer)
  acked2 n z number None = unrefused z refl (λ q. let x : ◌≡◌ {A = ℕ} 0 1 = cc in omega arith)
  acked2 n z number (Some k) = unrefused z refl (λ q. let x : ◌≡◌ {A = ℕ} 0 1 = cc in omega arith)

  ack2-refuses : (number : ℕ) → Refuses timed (calls.Ack2 now number) (answers.Ack2 (ack2_call_of h b now number).acked2.answer)
  unfolding ack2_call_of held_ack2
  ack2-refuses number =
      by-refusal (λ (o : Ack2Outcome). Refuses timed (calls.Ack2 now number) (answers.Ack2 o.acked2.answer)) timed _ _
      (λ x z. acked2 timed z number (ack2_of h.history b now number))
      (λ e z. earlier z refl (number-some e))

  told : (n : Result Unit Refusal) → n ≡ Ok tt → (stamp : ℕ) (a : Synchronized) → Refuses n (calls.Clock now stamp) (answers.Clock (Ok a))
  told n z stamp clocks.Nothing = unrefused z refl (λ q. let x : ◌≡◌ {A = ℕ} 0 1 = cc in omega arith)
  told n z stamp (clocks.Adjusted mean deviation) = unrefused z refl (λ q. let x : ◌≡◌ {A = ℕ} 0 1 = cc in omega arith)
  told n z stamp (clocks.Unsteady deviation v) = unrefused z refl (λ q. let x : ◌≡◌ {A = ℕ} 0 1 = cc in omega arith)

  synced : (n : Result Unit Refusal) → n ≡ Ok tt → (stamp : ℕ) (x : Result Step DriftRange) → Refuses n (calls.Clock now stamp) (answers.Clock (after_sync h x now).answer)
  synced n z stamp (Ok k) = told n z stamp k.answer
  synced n z stamp (Err e) = later z refl (omega arith)

  clock-refuses : (stamp : ℕ) → Refuses (first_refusal (clock_rules (head_ok h) now h.latest)) (calls.Clock now stamp) (answers.Clock (clock_call_of h now stamp).clocked.answer)
  unfolding clock_call_of sync_of
  clock-refuses stamp =
      let n = first_refusal (clock_rules (head_ok h) now h.latest) in
      by-refusal (λ (o : ClockOutcome). Refuses n (calls.Clock now stamp) (answers.Clock o.clocked.answer)) n _ _
      (λ x z. synced n z stamp (synchronized h.clock now stamp))
      (λ e z. earlier z refl (number-some e))

drop-refuses : (h : Head) (ws : List ℕ) (first last : ℕ)
    → Refuses (first_refusal (drop_rules (head_ok h) h.window.capacity (length ws) first last)) (calls.Drop first last) (answers.Drop (drop_call_of h ws first last).answer)
unfolding drop_call_of
drop-refuses h ws first last =
    let n = first_refusal (drop_rules (head_ok h) h.window.capacity (length ws) first last) in
    by-refusal (λ (o : DropOutcome). Refuses n (calls.Drop first last) (answers.Drop o.answer)) n _ _
    (λ x z. unrefused z refl (λ q. let x : ◌≡◌ {A = ℕ} 0 1 = cc in omega arith))
    (λ e z. earlier z refl (number-some e))

-- the same tests on the head and areas as they are
abbrev pub refusal_now : State → Lent → Call → Result Unit Refusal
refusal_now s t c =
    early_by (head_ok s.head) s.head.window.capacity (length s.slots) (length s.payloads) (length s.history) s.head.latest t c

step-refuses : (s : State) (t : Lent) (c : Call) → NotClear c → Refuses (refusal_now s t c) c (step_of s t c).answer
step-refuses s t (calls.Data time number message location stamp) k = data-refuses s.head s.slots s.payloads time number message location stamp t.payload
step-refuses s t (calls.Pop time) k = pop-refuses s.head s.slots s.payloads time t.output
step-refuses s t (calls.Report time) k = report-refuses s.head s.slots s.payloads time t.list
step-refuses s t (calls.FullAck time) k = full-ack-refuses s.head s.history time
step-refuses s t (calls.Ack2 time number) k = ack2-refuses s.head s.history time number
step-refuses s t (calls.Drop first last) k = drop-refuses s.head s.slots first last
step-refuses s t (calls.Clock time stamp) k = clock-refuses s.head s.history time stamp
step-refuses s t calls.Clear k = absurd k

-- and by what the station knows
pub known-refusal : {d : Desk} {s : State} (t : Lent) (c : Call) → Known d s → head_ok s.head ≡ true → refusal_now s t c ≡ early_refusal d t c
known-refusal {d = d} {s = s} t c k o =
    ap (λ (x : Bool). early_by x s.head.window.capacity (length s.slots) (length s.payloads) (length s.history) s.head.latest t c) o
    ∙ ap (λ (x : ℕ). early_by true x (length s.slots) (length s.payloads) (length s.history) s.head.latest t c) k.capacity
    ∙ ap (λ (x : ℕ). early_by true d.capacity x (length s.payloads) (length s.history) s.head.latest t c) k.slots
    ∙ ap (λ (x : ℕ). early_by true d.capacity d.slots x (length s.history) s.head.latest t c) k.payloads
    ∙ ap (λ (x : ℕ). early_by true d.capacity d.slots d.payloads x s.head.latest t c) k.history
    ∙ ap (λ (x : ℤ). early_by true d.capacity d.slots d.payloads d.history x t c) k.latest

pub station-refuses : {d : Desk} (s : State) (t : Lent) (c : Call) → NotClear c → Known d s → head_ok s.head ≡ true → Refuses (early_refusal d t c) c (step_of s t c).answer
station-refuses s t c p k o = subst (λ (n : Result Unit Refusal). Refuses n c (step_of s t c).answer) (known-refusal t c k o) (step-refuses s t c p)
