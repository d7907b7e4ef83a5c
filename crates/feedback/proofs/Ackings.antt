-- What the code of acking.rt does at each return, as laws over plain values. A signed number stands twice, as it is and as the machine reads
-- it back. Assumes nothing.
use mathlib.Core.Path.{◌≡◌, sym, ◌∙◌, ap}
use mathlib.Core.Bool.{true, false}
use mathlib.Core.List.{List}
use Prim.Native.Nat.{ℕ, ◌≤◌}
use borrow.Author.Rules.{rules}
use borrow.Author.Tests.{eq-eqb, ne_eqb}
use lib.IntN.{ℤ}
use lib.ListN.{length}
use Rattle.std.specs.Prelude.{Option, None, Result, Ok, Err}
use Rattle.acks.specs.History.{AckOutcome, ack_ended, none_due, is_worn, full_ack_of, ack2_of}
use Rattle.acks.specs.Ready.{HistoryReady}
use Rattle.acks.specs.History as history
use Rattle.acks.specs.declared.history.Acked.{Acked}
use Rattle.acks.specs.declared.history.FasnWorn.{FasnWorn}
use Rattle.acks.specs.declared.history.Answered.{Answered}
use Rattle.acks.proofs.HistoryKept.{right}
use Rattle.window.specs.Window.{room_of}
use Rattle.window.proofs.Ranges.{in_window}
use Rattle.head.specs.Rules.{first_refusal, timed_rules}
use Rattle.head.specs.Head.{head_ok}
use Rattle.head.specs.Parts.{with_latest}
use Rattle.head.specs.declared.refusal.Refusal.{Refusal}
use Rattle.head.specs.declared.refusal.Refusal.TheVariants as refusals
use Rattle.head.specs.declared.state.Head.{Head}
use Rattle.head.proofs.Gates.{taken, refused}
use Rattle.head.specs.Ready.{InRange}
use Rattle.head.proofs.Ready.{timed-ready}
use Rattle.feedback.specs.Acking.{Ack2ed, FullAcked, after_ack, full_ack_ended, of_history, roomy_ack, due_ack, full_ack_call_of, FullAckOutcome, after_ack2, held_ack2, Ack2Outcome, ack2_ended, ack2_call_of}
use Rattle.feedback.specs.Ready.{AckReady}

module _ (h : Head) where
  pub room-ready : InRange h → h.window.held ≤ h.window.capacity
  room-ready i = (in_window h.window i.window).holds

  pub history-ready : (a : List ℕ) → InRange h → 2048 ≤ length a → HistoryReady h.history a
  history-ready a i l = right h.history a i.history l

-- roomy_ack, due_ack
module _ (h : Head) (a : List ℕ) (now : ℤ) {a₁ : List ℕ} where
  pub acked : {z n : ℤ} {k : Result (Option Acked) FasnWorn} {r : FullAcked}
      → ack_ended k a₁ ≡ full_ack_of h.history a z h.rtt.mean h.latency h.window.lrsn → z ≡ now
      → r ≡ after_ack h k n → n ≡ now → full_ack_ended r a₁ ≡ roomy_ack h a now
  unfolding roomy_ack
  acked {k = k} e p g q =
      let o = full_ack_of h.history a now h.rtt.mean h.latency h.window.lrsn in
      let d : ack_ended k a₁ ≡ o = e ∙ rw p in
      rw (g, q) (ap (λ (x : AckOutcome). of_history h x now) {x = ack_ended k a₁} {y = o} d)

  pub ack-roomy : {t : ℕ} {n : ℤ} {r : FullAcked}
      → t ≡ room_of h.window → (t ≡ 0 → ⊥) → full_ack_ended r a₁ ≡ roomy_ack h a n → n ≡ now → full_ack_ended r a₁ ≡ due_ack h a now
  unfolding due_ack
  ack-roomy e z f p = f ∙ rw (← e, ne_eqb _ _ z, p)

pub ack-no-room : (h : Head) (a : List ℕ) (now : ℤ) {t : ℕ} {n : ℤ} {g : Head}
    → t ≡ room_of h.window → t ≡ 0 → g ≡ with_latest h n → n ≡ now → full_ack_ended (record { head = g; answer = Ok None }) a ≡ due_ack h a now
unfolding due_ack
ack-no-room h a now e z f p = rw (← e, eq-eqb _ _ z, f, p)

-- held_ack2
pub ack2-answered : (h : Head) (a : List ℕ) (now : ℤ) (number : ℕ) {z n : ℤ} {k : Option Answered} {r : Ack2ed}
    → k ≡ ack2_of h.history a z number → z ≡ now → r ≡ after_ack2 h k n → n ≡ now → r ≡ held_ack2 h a now number
unfolding held_ack2
ack2-answered h a now number e p g q = g ∙ rw (q, e, p)

-- the tests, as the code and the definition have them
abbrev tests : Head → List ℕ → ℤ → Result Unit Refusal
tests h a t = first_refusal (timed_rules (head_ok h) (length a) 2048 t h.latest)

pub acking-ready : (h : Head) (a : List ℕ) (t : ℤ) {r : Result Unit Refusal} → r ≡ tests h a t → r ≡ Ok tt → AckReady h a
acking-ready h a t b z = let r = timed-ready h t (length a) 2048 (sym z ∙ b) in record { head = r.0.head; words = r.1 }

-- on_full_ack_event, handle_ack2_packet
module _ (h : Head) (a : List ℕ) (now : ℤ) where
  stays : Refusal → FullAckOutcome
  stays e = full_ack_ended (record { head = h; answer = Err e }) a

  stays2 : Refusal → Ack2Outcome
  stays2 e = ack2_ended (record { head = h; answer = Err e })

  module _ {t : ℤ} where
    pub event-taken : {m : ℤ} {o : FullAckOutcome} {r : Result Unit Refusal} → r ≡ tests h a t → r ≡ Ok tt → t ≡ now → o ≡ due_ack h a m → m ≡ now → o ≡ full_ack_call_of h a now
    unfolding full_ack_call_of stays
    event-taken b z p f e = f ∙ rw e (sym (taken (due_ack h a now) stays (sym z ∙ b ∙ rw p)))

    pub event-refused : {e : Refusal} → Err e ≡ tests h a t → t ≡ now → full_ack_ended (record { head = h; answer = Err e }) a ≡ full_ack_call_of h a now
    unfolding full_ack_call_of stays
    event-refused b p = sym (refused (due_ack h a now) stays (b ∙ rw p))

    pub packet-taken : (number : ℕ) {m : ℤ} {k : Ack2ed} {r : Result Unit Refusal} → r ≡ tests h a t → r ≡ Ok tt → t ≡ now → k ≡ held_ack2 h a m number → m ≡ now → ack2_ended k ≡ ack2_call_of h a now number
    unfolding ack2_call_of stays2
    packet-taken number b z p f e = ap ack2_ended f ∙ rw e (sym (taken (ack2_ended (held_ack2 h a now number)) stays2 (sym z ∙ b ∙ rw p)))

    pub packet-refused : (number : ℕ) {e : Refusal} → Err e ≡ tests h a t → t ≡ now → ack2_ended (record { head = h; answer = Err e }) ≡ ack2_call_of h a now number
    unfolding ack2_call_of stays2
    packet-refused number b p = sym (refused (ack2_ended (held_ack2 h a now number)) stays2 (b ∙ rw p))

-- when no ACK is due, or the last number is given, the head keeps its history and the area every word
module _ (h : Head) (a : List ℕ) (now : ℤ) where
  pub none_stays : none_due h.history a now h.rtt.mean h.window.lrsn ≡ true
      → roomy_ack h a now ≡ full_ack_ended (record { head = with_latest h now; answer = Ok None }) a
  unfolding roomy_ack history.full_ack_of
  none_stays e = rw e

  pub worn-stays : none_due h.history a now h.rtt.mean h.window.lrsn ≡ false → is_worn h.history ≡ true
      → roomy_ack h a now ≡ full_ack_ended (record { head = h; answer = Err refusals.FasnWorn }) a
  unfolding roomy_ack history.full_ack_of
  worn-stays e f = rw (e, f)

pub ruleset ackings = (room-ready, history-ready, acked, ack-roomy, ack-no-room, acking-ready, event-taken, event-refused, ack2-answered, packet-taken, packet-refused, rules)
