-- Any two outcomes that a call's promise allows coincide, the counters too: 01, "Each proof's duty". The questions (show, its second question, room) have the receiver's own promises,
-- and crates/paper has theirs; the functions that count from an answer are in crates/counts. Assumes nothing.
use mathlib.Core.Path.{◌≡◌, sym, ◌∙◌, ap}
use mathlib.Core.List.{List}
use Prim.Native.Nat.{ℕ}
use lib.IntN.{ℤ}
use Rattle.std.specs.Prelude.{Result}
use Rattle.window.specs.declared.push.Packet.{Packet}
use Rattle.head.specs.declared.refusal.Refusal.{Refusal}
use Rattle.head.specs.declared.state.Head.{Head}
use Rattle.feedback.specs.Acking.{Ack2ed, FullAcked, full_ack_ended, ack2_ended}
use Rattle.receiver.specs.Data.{Handled, data_ended}
use Rattle.feedback.specs.Loss.{Reported, loss_ended}
use Rattle.receiver.specs.Message.{Given, message_ended}
use Rattle.upkeep.specs.Request.{Cleared, drop_ended, clear_ended}
use Rattle.feedback.specs.Sync.{Clocked, clock_ended}
use Rattle.counters.specs.Calls.{Counted, counted, data_counted, ack2_counted, drop_counted, clock_counted, message_counted, loss_counted, full_ack_counted, clear_counted}
use Rattle.counts.specs.declared.Counters.{Counters}
use Rattle.counters.specs.declared.Counted as declared

-- what a call returns, from its outcome and counters, by what the outcome has of it
abbrev made : {O A : Type 0} → (O → A) → Counted O → declared.Counted A
made left o = record { counters = o.counters; left = left o.outcome }

module _ (c : Counters) (h : Head) where
  pub data-determined : (ws bs : List ℕ) (now : ℤ) (k : Packet) (payload : List ℕ) (r s : declared.Counted Handled) (ws₁ ws₂ bs₁ bs₂ : List ℕ)
      → counted (data_ended r.left ws₁ bs₁) r.counters ≡ data_counted c h ws bs now k payload
      → counted (data_ended s.left ws₂ bs₂) s.counters ≡ data_counted c h ws bs now k payload
      → (r ≡ s) × ((ws₁ ≡ ws₂) × (bs₁ ≡ bs₂))
  data-determined ws bs now k payload r s ws₁ ws₂ bs₁ bs₂ p q =
      let e = p ∙ sym q in
      (ap (made (λ o. o.handled)) e, (ap (λ o. o.outcome.slots) e, ap (λ o. o.outcome.payloads) e))

  pub message-determined : (ws bs out : List ℕ) (now : ℤ) (r s : declared.Counted Given) (out₁ out₂ : List ℕ)
      → counted (message_ended r.left out₁) r.counters ≡ message_counted c h ws bs out now
      → counted (message_ended s.left out₂) s.counters ≡ message_counted c h ws bs out now
      → (r ≡ s) × (out₁ ≡ out₂)
  message-determined ws bs out now r s out₁ out₂ p q =
      let e = p ∙ sym q in
      (ap (made (λ o. o.given)) e, ap (λ o. o.outcome.output) e)

  pub loss-determined : (ws list : List ℕ) (now : ℤ) (r s : declared.Counted Reported) (ws₁ ws₂ list₁ list₂ : List ℕ)
      → counted (loss_ended r.left ws₁ list₁) r.counters ≡ loss_counted c h ws list now
      → counted (loss_ended s.left ws₂ list₂) s.counters ≡ loss_counted c h ws list now
      → (r ≡ s) × ((ws₁ ≡ ws₂) × (list₁ ≡ list₂))
  loss-determined ws list now r s ws₁ ws₂ list₁ list₂ p q =
      let e = p ∙ sym q in
      (ap (made (λ o. o.reported)) e, (ap (λ o. o.outcome.slots) e, ap (λ o. o.outcome.list) e))

  pub drop-determined : (ws : List ℕ) (first last : ℕ) (r s : declared.Counted (Result ℕ Refusal)) (ws₁ ws₂ : List ℕ)
      → counted (drop_ended r.left ws₁) r.counters ≡ drop_counted c h ws first last
      → counted (drop_ended s.left ws₂) s.counters ≡ drop_counted c h ws first last
      → (r ≡ s) × (ws₁ ≡ ws₂)
  drop-determined ws first last r s ws₁ ws₂ p q =
      let e = p ∙ sym q in
      (ap (made (λ o. o.answer)) e, ap (λ o. o.outcome.slots) e)

  pub clear-determined : (r s : declared.Counted Cleared) → counted (clear_ended r.left) r.counters ≡ clear_counted c h → counted (clear_ended s.left) s.counters ≡ clear_counted c h → r ≡ s
  clear-determined r s p q = ap (made (λ o. o.cleared)) (p ∙ sym q)

  pub clock-determined : (now : ℤ) (stamp : ℕ) (r s : declared.Counted Clocked)
      → counted (clock_ended r.left) r.counters ≡ clock_counted c h now stamp → counted (clock_ended s.left) s.counters ≡ clock_counted c h now stamp → r ≡ s
  clock-determined now stamp r s p q = ap (made (λ o. o.clocked)) (p ∙ sym q)

  pub full-ack-determined : (a : List ℕ) (now : ℤ) (r s : declared.Counted FullAcked) (a₁ a₂ : List ℕ)
      → counted (full_ack_ended r.left a₁) r.counters ≡ full_ack_counted c h a now
      → counted (full_ack_ended s.left a₂) s.counters ≡ full_ack_counted c h a now
      → (r ≡ s) × (a₁ ≡ a₂)
  full-ack-determined a now r s a₁ a₂ p q =
      let e = p ∙ sym q in
      (ap (made (λ o. o.acked)) e, ap (λ o. o.outcome.area) e)

  pub ack2-determined : (a : List ℕ) (now : ℤ) (number : ℕ) (r s : declared.Counted Ack2ed)
      → counted (ack2_ended r.left) r.counters ≡ ack2_counted c h a now number → counted (ack2_ended s.left) s.counters ≡ ack2_counted c h a now number → r ≡ s
  ack2-determined a now number r s p q = ap (made (λ o. o.acked2)) (p ∙ sym q)
