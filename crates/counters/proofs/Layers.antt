-- Each call with its counters, from what the receiver promises and nothing else: no law of windows, histories or clocks stands here. A signed number stands twice,
-- as it is and as the machine reads it back. Assumes nothing.
use mathlib.Core.Path.{◌≡◌, ap, ◌∙◌}
use mathlib.Core.List.{List}
use Prim.Native.Nat.{ℕ}
use borrow.Author.Rules.{rules}
use lib.IntN.{ℤ}
use lib.ListN.{length}
use Rattle.std.specs.Prelude.{Result}
use Rattle.window.specs.declared.push.Packet.{Packet}
use Rattle.head.specs.declared.refusal.Refusal.{Refusal}
use Rattle.head.specs.declared.state.Head.{Head}
use Rattle.feedback.specs.Acking.{Ack2ed, FullAcked, FullAckOutcome, full_ack_ended, Ack2Outcome, ack2_ended, ack2_call_of, full_ack_call_of}
use Rattle.receiver.specs.Data.{Handled, DataOutcome, data_ended, data_call_of}
use Rattle.feedback.specs.Loss.{Reported, LossOutcome, loss_ended, report_call_of}
use Rattle.receiver.specs.Message.{Given, MessageOutcome, message_ended, pop_call_of}
use Rattle.upkeep.specs.Request.{Cleared, DropOutcome, drop_ended, drop_call_of, ClearOutcome, clear_ended, clear_call_of}
use Rattle.feedback.specs.Sync.{Clocked, ClockOutcome, clock_ended, clock_call_of}
use Rattle.counts.specs.Counts.{data_counts, ack2_counts, drop_counts, clock_counts}
use Rattle.counters.specs.Calls.{counted, data_counted, ack2_counted, drop_counted, clock_counted, message_counted, loss_counted, full_ack_counted, clear_counted}
use Rattle.counts.specs.declared.Counters.{Counters}

-- counters by an answer, beside the outcome that has the answer
module _ {A : Type 0} (f : A → Counters) {o p : A} {c : Counters} where
  pub beside : c ≡ f o → o ≡ p → counted o c ≡ counted p (f p)
  beside e q = ap (λ (d : Counters). counted o d) e ∙ ap (λ (x : A). counted x (f x)) q

module _ (c : Counters) (h : Head) {c₁ : Counters} where
  pub data-layer : (ws bs : List ℕ) (now : ℤ) (p : Packet) (payload : List ℕ) {r : Handled} {ws₁ bs₁ : List ℕ} {n : ℤ}
      → c₁ ≡ data_counts c (length payload) r.answer → data_ended r ws₁ bs₁ ≡ data_call_of h ws bs n p payload → n ≡ now
      → counted (data_ended r ws₁ bs₁) c₁ ≡ data_counted c h ws bs now p payload
  data-layer ws bs now p payload e f q = beside (λ (o : DataOutcome). data_counts c (length payload) o.handled.answer) e f ∙ rw q

  pub ack2-layer : (a : List ℕ) (now : ℤ) (number : ℕ) {r : Ack2ed} {n : ℤ}
      → c₁ ≡ ack2_counts c r.answer → ack2_ended r ≡ ack2_call_of h a n number → n ≡ now → counted (ack2_ended r) c₁ ≡ ack2_counted c h a now number
  ack2-layer a now number e f q = beside (λ (o : Ack2Outcome). ack2_counts c o.acked2.answer) e f ∙ rw q

  pub drop-layer : (ws : List ℕ) (first last : ℕ) {a : Result ℕ Refusal} {ws₁ : List ℕ}
      → c₁ ≡ drop_counts c a → drop_ended a ws₁ ≡ drop_call_of h ws first last → counted (drop_ended a ws₁) c₁ ≡ drop_counted c h ws first last
  drop-layer ws first last e f = beside (λ (o : DropOutcome). drop_counts c o.answer) e f

  pub clock-layer : (now : ℤ) (stamp : ℕ) {r : Clocked} {n : ℤ}
      → c₁ ≡ clock_counts c r.answer → clock_ended r ≡ clock_call_of h n stamp → n ≡ now → counted (clock_ended r) c₁ ≡ clock_counted c h now stamp
  clock-layer now stamp e f q = beside (λ (o : ClockOutcome). clock_counts c o.clocked.answer) e f ∙ rw q

-- calls that count nothing
module _ (c : Counters) (h : Head) where
  pub message-layer : (ws bs out : List ℕ) (now : ℤ) {r : Given} {out₁ : List ℕ} {n : ℤ}
      → message_ended r out₁ ≡ pop_call_of h ws bs out n → n ≡ now → counted (message_ended r out₁) c ≡ message_counted c h ws bs out now
  message-layer ws bs out now e q = ap (λ (o : MessageOutcome). counted o c) e ∙ rw q

  pub loss-layer : (ws list : List ℕ) (now : ℤ) {r : Reported} {ws₁ list₁ : List ℕ} {n : ℤ}
      → loss_ended r ws₁ list₁ ≡ report_call_of h ws list n → n ≡ now → counted (loss_ended r ws₁ list₁) c ≡ loss_counted c h ws list now
  loss-layer ws list now e q = ap (λ (o : LossOutcome). counted o c) e ∙ rw q

  pub full-ack-layer : (a : List ℕ) (now : ℤ) {r : FullAcked} {a₁ : List ℕ} {n : ℤ}
      → full_ack_ended r a₁ ≡ full_ack_call_of h a n → n ≡ now → counted (full_ack_ended r a₁) c ≡ full_ack_counted c h a now
  full-ack-layer a now e q = ap (λ (o : FullAckOutcome). counted o c) e ∙ rw q

  pub clear-layer : {r : Cleared} → clear_ended r ≡ clear_call_of h → counted (clear_ended r) c ≡ clear_counted c h
  clear-layer e = ap (λ (o : ClearOutcome). counted o c) e

pub ruleset layers = (data-layer, ack2-layer, drop-layer, clock-layer, message-layer, loss-layer, full-ack-layer, clear-layer, rules)
