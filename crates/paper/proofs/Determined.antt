-- Any two outcomes that a call's promise allows coincide: 01, "Each proof's duty". Assumes nothing.
use mathlib.Core.Path.{◌≡◌, sym, ◌∙◌, ap}
use mathlib.Core.Bool.{Bool}
use mathlib.Core.List.{List}
use Prim.Native.Nat.{ℕ}
use denote.Ref.{Bor}
use lib.IntN.{ℤ}
use lib.ListN.{length}
use Rattle.std.specs.Prelude.{Option, Some, None, Result}
use Rattle.window.specs.Show.{PartOf, ShownAt}
use Rattle.window.specs.declared.show.Part.{Part}
use Rattle.window.specs.declared.push.Packet.{Packet}
use Rattle.head.specs.Head.{made_of}
use Rattle.head.specs.declared.refusal.Refusal.{Refusal}
use Rattle.head.specs.declared.state.Head.{Head}
use Rattle.feedback.specs.Acking.{Ack2ed, FullAcked, full_ack_ended, full_ack_call_of, ack2_ended, ack2_call_of}
use Rattle.receiver.specs.Data.{Handled, data_ended, data_call_of}
use Rattle.feedback.specs.Loss.{Reported, loss_ended, report_call_of}
use Rattle.receiver.specs.Message.{Given, message_ended, pop_call_of}
use Rattle.upkeep.specs.Request.{Cleared, drop_ended, drop_call_of, clear_ended, clear_call_of, room_ended, room_call_of}
use Rattle.upkeep.specs.Show.{place_call_of, shown_ended, shown_call_of}
use Rattle.feedback.specs.Sync.{Clocked, clock_ended, clock_call_of}

pub made-determined : (start : ℤ) (latency : ℕ) (dropping : Bool) (first capacity : ℕ) (r s : Result Head Refusal)
    → r ≡ made_of start latency dropping first capacity → s ≡ made_of start latency dropping first capacity → r ≡ s
made-determined start latency dropping first capacity r s p q = p ∙ sym q

-- two parts of one place, or of none, are the same part
module _ (bytes r s : Bor (List ℕ)) where
  abbrev SamePart : Type 0
  SamePart = (r.ref_ptr.0 ≡ s.ref_ptr.0) × ((r.ref_ptr.1 ≡ s.ref_ptr.1) × (r.now ≡ s.now))

  same_part : (at len : ℕ) → PartOf bytes at len r → PartOf bytes at len s → SamePart
  same_part at len p q = (p.block ∙ sym q.block, (p.place ∙ sym q.place, p.bytes ∙ sym q.bytes))

  part-determined : (x : Option Part) → ShownAt x bytes r → ShownAt x bytes s → SamePart
  part-determined (Some x) p q = same_part x.at x.len p q
  part-determined None p q = same_part 0 0 p q

module _ (h : Head) where
  -- the head and the answer, the slot area and the payload area
  pub data-determined : (ws bs : List ℕ) (now : ℤ) (k : Packet) (payload : List ℕ) (r s : Handled) (ws₁ ws₂ bs₁ bs₂ : List ℕ)
      → data_ended r ws₁ bs₁ ≡ data_call_of h ws bs now k payload → data_ended s ws₂ bs₂ ≡ data_call_of h ws bs now k payload → (r ≡ s) × ((ws₁ ≡ ws₂) × (bs₁ ≡ bs₂))
  data-determined ws bs now k payload r s ws₁ ws₂ bs₁ bs₂ p q =
      let e = p ∙ sym q in
      (ap (λ o. o.handled) e, (ap (λ o. o.slots) e, ap (λ o. o.payloads) e))

  -- the head, the answer and the output
  pub message-determined : (ws bs out : List ℕ) (now : ℤ) (r s : Given) (out₁ out₂ : List ℕ)
      → message_ended r out₁ ≡ pop_call_of h ws bs out now → message_ended s out₂ ≡ pop_call_of h ws bs out now → (r ≡ s) × (out₁ ≡ out₂)
  message-determined ws bs out now r s out₁ out₂ p q = let e = p ∙ sym q in (ap (λ o. o.given) e, ap (λ o. o.output) e)

  -- the head, the answer, the slot area and the list of loss words
  pub loss-determined : (ws list : List ℕ) (now : ℤ) (r s : Reported) (ws₁ ws₂ list₁ list₂ : List ℕ)
      → loss_ended r ws₁ list₁ ≡ report_call_of h ws list now → loss_ended s ws₂ list₂ ≡ report_call_of h ws list now → (r ≡ s) × ((ws₁ ≡ ws₂) × (list₁ ≡ list₂))
  loss-determined ws list now r s ws₁ ws₂ list₁ list₂ p q =
      let e = p ∙ sym q in
      (ap (λ o. o.reported) e, (ap (λ o. o.slots) e, ap (λ o. o.list) e))

  -- the answer and the slot area
  pub drop-determined : (ws : List ℕ) (first last : ℕ) (r s : Result ℕ Refusal) (ws₁ ws₂ : List ℕ)
      → drop_ended r ws₁ ≡ drop_call_of h ws first last → drop_ended s ws₂ ≡ drop_call_of h ws first last → (r ≡ s) × (ws₁ ≡ ws₂)
  drop-determined ws first last r s ws₁ ws₂ p q = let e = p ∙ sym q in (ap (λ o. o.answer) e, ap (λ o. o.slots) e)

  pub clear-determined : (r s : Cleared) → clear_ended r ≡ clear_call_of h → clear_ended s ≡ clear_call_of h → r ≡ s
  clear-determined r s p q = ap (λ o. o.cleared) (p ∙ sym q)

  pub room-determined : (r s : Result ℕ Refusal) → room_ended r ≡ room_call_of h → room_ended s ≡ room_call_of h → r ≡ s
  room-determined r s p q = ap (λ o. o.answer) (p ∙ sym q)

  -- the part shown: its block, its place in it and its bytes
  pub show-determined : (ws : List ℕ) (bytes : Bor (List ℕ)) (number : ℕ) (r s : Bor (List ℕ))
      → ShownAt (place_call_of h ws (length bytes.now) number) bytes r → ShownAt (place_call_of h ws (length bytes.now) number) bytes s
      → (r.ref_ptr.0 ≡ s.ref_ptr.0) × ((r.ref_ptr.1 ≡ s.ref_ptr.1) × (r.now ≡ s.now))
  show-determined ws bytes number r s p q = part-determined bytes r s (place_call_of h ws (length bytes.now) number) p q

  pub shown-determined : (ws : List ℕ) (bytes number : ℕ) (r s : Result Bool Refusal) → shown_ended r ≡ shown_call_of h ws bytes number → shown_ended s ≡ shown_call_of h ws bytes number → r ≡ s
  shown-determined ws bytes number r s p q = ap (λ o. o.answer) (p ∙ sym q)

  pub clock-determined : (now : ℤ) (stamp : ℕ) (r s : Clocked) → clock_ended r ≡ clock_call_of h now stamp → clock_ended s ≡ clock_call_of h now stamp → r ≡ s
  clock-determined now stamp r s p q = ap (λ o. o.clocked) (p ∙ sym q)

  -- the head, the answer and the history area
  pub full-ack-determined : (a : List ℕ) (now : ℤ) (r s : FullAcked) (a₁ a₂ : List ℕ)
      → full_ack_ended r a₁ ≡ full_ack_call_of h a now → full_ack_ended s a₂ ≡ full_ack_call_of h a now → (r ≡ s) × (a₁ ≡ a₂)
  full-ack-determined a now r s a₁ a₂ p q = let e = p ∙ sym q in (ap (λ o. o.acked) e, ap (λ o. o.area) e)

  pub ack2-determined : (a : List ℕ) (now : ℤ) (number : ℕ) (r s : Ack2ed) → ack2_ended r ≡ ack2_call_of h a now number → ack2_ended s ≡ ack2_call_of h a now number → r ≡ s
  ack2-determined a now number r s p q = ap (λ o. o.acked2) (p ∙ sym q)
