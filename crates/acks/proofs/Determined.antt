-- Any two outcomes that the promise of a full ACK allows coincide, whatever it is made of: 01, "Each proof's duty". The other functions of this crate promise
-- one value (numbers, `value-determined`). Assumes nothing.
use mathlib.Core.Path.{◌≡◌, sym, ◌∙◌, ap}
use mathlib.Core.List.{List}
use Prim.Native.Nat.{ℕ}
use Rattle.std.specs.Prelude.{Option, Result}
use Rattle.acks.specs.History.{AckOutcome, ack_ended}
use Rattle.acks.specs.declared.history.Acked.{Acked}
use Rattle.acks.specs.declared.history.FasnWorn.{FasnWorn}

-- the answer with its history, and the history area
pub full-ack-determined : {o : AckOutcome} (r s : Result (Option Acked) FasnWorn) (a₁ a₂ : List ℕ) → ack_ended r a₁ ≡ o → ack_ended s a₂ ≡ o → (r ≡ s) × (a₁ ≡ a₂)
full-ack-determined r s a₁ a₂ p q = let e = p ∙ sym q in (ap (λ x. x.acked) e, ap (λ x. x.area) e)
