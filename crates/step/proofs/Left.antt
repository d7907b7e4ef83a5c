-- What the code of lib.rt does at each return, as laws over plain values. A signed number stands twice, as it is and as the machine reads it
-- back. Assumes nothing.
use mathlib.Core.Path.{◌≡◌, ap, ◌∙◌}
use mathlib.Core.List.{List, []}
use Prim.Native.Nat.{ℕ}
use borrow.Author.Rules.{rules}
use lib.IntN.{ℤ}
use Rattle.std.specs.Prelude.{Result}
use Rattle.window.specs.declared.push.Packet.{Packet}
use Rattle.head.specs.declared.refusal.Refusal.{Refusal}
use Rattle.head.specs.declared.state.Head.{Head}
use Rattle.feedback.specs.Acking.{Ack2ed, FullAcked, FullAckOutcome, full_ack_ended, Ack2Outcome, ack2_ended, ack2_call_of, full_ack_call_of}
use Rattle.receiver.specs.Data.{Handled, DataOutcome, data_ended, packet, data_call_of}
use Rattle.feedback.specs.Loss.{Reported, LossOutcome, loss_ended, report_call_of}
use Rattle.receiver.specs.Message.{Given, MessageOutcome, message_ended, pop_call_of}
use Rattle.upkeep.specs.Request.{Cleared, DropOutcome, drop_ended, drop_call_of, ClearOutcome, clear_ended, clear_call_of}
use Rattle.feedback.specs.Sync.{Clocked, ClockOutcome, clock_ended, clock_call_of}
use Rattle.step.specs.Step.{CallLeft, call_left, PopLeft, pop_call_left, stepped, ended, state_of, lent_for, data_left, pop_left, report_left, full_ack_left, ack2_left, drop_left, clock_left, clear_left, step_of}
use Rattle.step.specs.declared.Call.{Call}
use Rattle.step.specs.declared.Call.TheVariants as calls
use Rattle.step.specs.declared.Answer.TheVariants as answers
use Rattle.step.specs.declared.Stepped.{Stepped}

-- each call
pub data-call-left : (h : Head) (ws bs : List ℕ) (now : ℤ) (p : Packet) (payload : List ℕ) {r : Handled} {ws₁ bs₁ : List ℕ} {n : ℤ}
    → data_ended r ws₁ bs₁ ≡ data_call_of h ws bs n p payload → n ≡ now
    → call_left (stepped r.head (answers.Data r.answer)) ws₁ bs₁ ≡ data_left h ws bs now p payload
data-call-left h ws bs now p payload e q =
    ap (λ (o : DataOutcome). call_left (stepped o.handled.head (answers.Data o.handled.answer)) o.slots o.payloads) e ∙ rw q

pub pop-call-left : (h : Head) (ws bs out : List ℕ) (now : ℤ) {r : Given} {out₁ : List ℕ} {n : ℤ}
    → message_ended r out₁ ≡ pop_call_of h ws bs out n → n ≡ now → pop_call_left (stepped r.head (answers.Pop r.answer)) ws bs out₁ ≡ pop_left h ws bs out now
pop-call-left h ws bs out now e q =
    ap (λ (o : MessageOutcome). pop_call_left (stepped o.given.head (answers.Pop o.given.answer)) ws bs o.output) e ∙ rw q

pub report-call-left : (h : Head) (ws list : List ℕ) (now : ℤ) {r : Reported} {ws₁ list₁ : List ℕ} {n : ℤ}
    → loss_ended r ws₁ list₁ ≡ report_call_of h ws list n → n ≡ now → call_left (stepped r.head (answers.Report r.answer)) ws₁ list₁ ≡ report_left h ws list now
report-call-left h ws list now e q =
    ap (λ (o : LossOutcome). call_left (stepped o.reported.head (answers.Report o.reported.answer)) o.slots o.list) e ∙ rw q

pub full-ack-call-left : (h : Head) (a : List ℕ) (now : ℤ) {r : FullAcked} {a₁ : List ℕ} {n : ℤ}
    → full_ack_ended r a₁ ≡ full_ack_call_of h a n → n ≡ now → call_left (stepped r.head (answers.FullAck r.answer)) a₁ [] ≡ full_ack_left h a now
full-ack-call-left h a now e q =
    ap (λ (o : FullAckOutcome). call_left (stepped o.acked.head (answers.FullAck o.acked.answer)) o.area []) e ∙ rw q

pub ack2-call-left : (h : Head) (a : List ℕ) (now : ℤ) (number : ℕ) {r : Ack2ed} {n : ℤ}
    → ack2_ended r ≡ ack2_call_of h a n number → n ≡ now → call_left (stepped r.head (answers.Ack2 r.answer)) [] [] ≡ ack2_left h a now number
ack2-call-left h a now number e q = ap (λ (o : Ack2Outcome). call_left (stepped o.acked2.head (answers.Ack2 o.acked2.answer)) [] []) e ∙ rw q

pub drop-call-left : (h : Head) (ws : List ℕ) (first last : ℕ) {a : Result ℕ Refusal} {ws₁ : List ℕ}
    → drop_ended a ws₁ ≡ drop_call_of h ws first last → call_left (stepped h (answers.Drop a)) ws₁ [] ≡ drop_left h ws first last
drop-call-left h ws first last e = ap (λ (o : DropOutcome). call_left (stepped h (answers.Drop o.answer)) o.slots []) e

pub clock-call-left : (h : Head) (now : ℤ) (stamp : ℕ) {r : Clocked} {n : ℤ}
    → clock_ended r ≡ clock_call_of h n stamp → n ≡ now → call_left (stepped r.head (answers.Clock r.answer)) [] [] ≡ clock_left h now stamp
clock-call-left h now stamp e q = ap (λ (o : ClockOutcome). call_left (stepped o.clocked.head (answers.Clock o.clocked.answer)) [] []) e ∙ rw q

pub clear-call-left : (h : Head) {r : Cleared} → clear_ended r ≡ clear_call_of h → call_left (stepped r.head (answers.Clear r.answer)) [] [] ≡ clear_left h
clear-call-left h e = ap (λ (o : ClearOutcome). call_left (stepped o.cleared.head (answers.Clear o.cleared.answer)) [] []) e

-- the call by its case
module _ (h : Head) (ws bs a payload out list : List ℕ) (c : Call) where
  abbrev Left : Stepped → List ℕ → List ℕ → List ℕ → List ℕ → List ℕ → Type 0
  Left r ws₁ bs₁ a₁ out₁ list₁ = ended r ws₁ bs₁ a₁ out₁ list₁ ≡ step_of (state_of h ws bs a) (lent_for payload out list) c

  pub data-left : {r : Stepped} {ws₁ bs₁ : List ℕ} {n time : ℤ} {number message location stamp : ℕ}
      → c ≡ calls.Data time number message location stamp → call_left r ws₁ bs₁ ≡ data_left h ws bs n (packet number message location stamp) payload → n ≡ time → Left r ws₁ bs₁ a out list
  data-left e f q = ap (λ (t : CallLeft). ended t.stepped t.first_area t.second_area a out list) f ∙ rw (e, q)

  pub pop-left : {r : Stepped} {ws₁ bs₁ out₁ : List ℕ} {n time : ℤ}
      → c ≡ calls.Pop time → pop_call_left r ws₁ bs₁ out₁ ≡ pop_left h ws bs out n → n ≡ time → Left r ws₁ bs₁ a out₁ list
  pop-left e f q = ap (λ (t : PopLeft). ended t.stepped t.slots t.payloads a t.output list) f ∙ rw (e, q)

  pub report-left : {r : Stepped} {ws₁ list₁ : List ℕ} {n time : ℤ} → c ≡ calls.Report time → call_left r ws₁ list₁ ≡ report_left h ws list n → n ≡ time → Left r ws₁ bs a out list₁
  report-left e f q = ap (λ (t : CallLeft). ended t.stepped t.first_area bs a out t.second_area) f ∙ rw (e, q)

  pub full-ack-left : {r : Stepped} {a₁ : List ℕ} {n time : ℤ} → c ≡ calls.FullAck time → call_left r a₁ [] ≡ full_ack_left h a n → n ≡ time → Left r ws bs a₁ out list
  full-ack-left e f q = ap (λ (t : CallLeft). ended t.stepped ws bs t.first_area out list) f ∙ rw (e, q)

  pub ack2-left : {r : Stepped} {n time : ℤ} {number : ℕ} → c ≡ calls.Ack2 time number → call_left r [] [] ≡ ack2_left h a n number → n ≡ time → Left r ws bs a out list
  ack2-left e f q = ap (λ (t : CallLeft). ended t.stepped ws bs a out list) f ∙ rw (e, q)

  pub drop-left : {r : Stepped} {ws₁ : List ℕ} {first last : ℕ} → c ≡ calls.Drop first last → call_left r ws₁ [] ≡ drop_left h ws first last → Left r ws₁ bs a out list
  drop-left e f = ap (λ (t : CallLeft). ended t.stepped t.first_area bs a out list) f ∙ rw e

  pub clock-left : {r : Stepped} {n time : ℤ} {stamp : ℕ} → c ≡ calls.Clock time stamp → call_left r [] [] ≡ clock_left h n stamp → n ≡ time → Left r ws bs a out list
  clock-left e f q = ap (λ (t : CallLeft). ended t.stepped ws bs a out list) f ∙ rw (e, q)

  pub clear-left : {r : Stepped} → c ≡ calls.Clear → call_left r [] [] ≡ clear_left h → Left r ws bs a out list
  clear-left e f = ap (λ (t : CallLeft). ended t.stepped ws bs a out list) f ∙ rw e

pub ruleset leaving = (data-call-left, pop-call-left, report-call-left, full-ack-call-left, ack2-call-left, drop-call-left, clock-call-left, clear-call-left, data-left, pop-left, report-left, full-ack-left, ack2-left, drop-left, clock-left, clear-left, rules)
