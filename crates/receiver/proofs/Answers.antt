-- The line of a packet's call and of a pop is that of its answer, and a refused packet leaves the head: 01, "Each returns its number; head, areas and output stay". Of a pop see Stays.
-- Assumes nothing.
use mathlib.Core.Path.{◌≡◌, refl}
use mathlib.Core.Bool.{Bool, cond}
use mathlib.Core.List.{List}
use Prim.Native.Nat.{ℕ}
use lib.IntN.{ℤ}
use lib.ListN.{length}
use Rattle.std.specs.Prelude.{Option, Some, None, Result, Ok, Err}
use Rattle.acks.specs.History.{light_ack_of}
use Rattle.acks.specs.declared.history.History.{History}
use Rattle.window.specs.Push.{push_of}
use Rattle.window.specs.declared.Window.{Window}
use Rattle.window.specs.declared.push.Packet.{Packet}
use Rattle.window.specs.declared.push.Pushed.{Pushed}
use Rattle.window.specs.declared.push.PushRefusal.{PushRefusal}
use Rattle.window.specs.declared.push.PushAnswer.{PushAnswer}
use Rattle.window.specs.declared.push.PushAnswer.TheVariants as pushes
use Rattle.head.specs.Rules.{first_refusal, push_rules, pop_rules}
use Rattle.head.specs.Head.{head_ok}
use Rattle.head.specs.declared.refusal.Refusal.{Refusal}
use Rattle.head.specs.declared.state.Head.{Head}
use Rattle.head.proofs.Gates.{by-refusal}
use Rattle.receiver.specs.Data.{DataOutcome, placed_of, rated_of, light_or_got, acked_of, got_of, after_taken, after_push, taken_of, data_call_of}
use Rattle.receiver.specs.Message as message
use Rattle.receiver.specs.Paper.{data_line, message_line}

module _ (h : Head) (ws bs : List ℕ) (now : ℤ) where
  module _ (p : Packet) (payload : List ℕ) where
    abbrev data_tests : Result Unit Refusal
    data_tests = first_refusal (push_rules (head_ok h) h.window.capacity (length ws) (length bs) now h.latest p (length payload))

    pub data-line : (data_call_of h ws bs now p payload).line ≡ data_line (data_call_of h ws bs now p payload).handled.answer
    unfolding data_call_of taken_of
    data-line = by-refusal (λ (o : DataOutcome). o.line ≡ data_line o.handled.answer) data_tests _ _ (λ x t. refl) (λ e t. refl)

    got-zero : (g : Head) (lrsn : ℕ) (recovered : Bool) (y : Option History) → (data_line (light_or_got g lrsn recovered y).answer).refusal ≡ 0
    got-zero g lrsn recovered (Some y) = refl
    got-zero g lrsn recovered None = refl

    taken-zero : (v : Window) (a : PushAnswer) (size : ℕ) → (data_line (after_taken h v a now p.number size).answer).refusal ≡ 0
    unfolding got_of acked_of
    taken-zero v (pushes.Got lrsn recovered) size =
        let g = placed_of (cond recovered h (rated_of h now p.number size)) v now in got-zero g lrsn recovered (light_ack_of g.history lrsn)
    taken-zero v (pushes.Loss first last) size = refl

    push-head : (r : Result Pushed PushRefusal) (size : ℕ) → ((data_line (after_push h r now p.number size).answer).refusal ≡ 0 → ⊥) → (after_push h r now p.number size).head ≡ h
    push-head (Ok u) size e = absurd (e (taken-zero u.window u.answer size))
    push-head (Err _) size e = refl

    pub data_head : ((data_call_of h ws bs now p payload).line.refusal ≡ 0 → ⊥) → (data_call_of h ws bs now p payload).handled.head ≡ h
    unfolding data_call_of taken_of
    data_head =
        by-refusal (λ (o : DataOutcome). (o.line.refusal ≡ 0 → ⊥) → o.handled.head ≡ h) data_tests _ _
        (λ x t. push-head (push_of h.window ws bs now p payload).pushed (length payload))
        (λ e t n. refl)

  pub message-line : (out : List ℕ) → (message.pop_call_of h ws bs out now).line ≡ message_line (message.pop_call_of h ws bs out now).given.answer
  unfolding message.pop_call_of message.taken_of
  message-line out =
      by-refusal (λ (o : message.MessageOutcome). o.line ≡ message_line o.given.answer)
      (first_refusal (pop_rules (head_ok h) h.window.capacity (length ws) (length bs) now h.latest)) _ _
      (λ x t. refl)
      (λ e t. refl)
