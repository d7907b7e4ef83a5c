-- Any two outcomes that the promise of a pop allows coincide, whatever it is made of: 01, "Each proof's duty". Assumes nothing.
use mathlib.Core.Path.{◌≡◌, sym, ◌∙◌, ap}
use mathlib.Core.List.{List}
use Prim.Native.Nat.{ℕ}
use Rattle.std.specs.Prelude.{Result}
use Rattle.window_pop.specs.Pop.{PopOutcome, pop_ended}
use Rattle.window_pop.specs.declared.pop.OutShort.{OutShort}
use Rattle.window_pop.specs.declared.pop.Popped.{Popped}

-- the window, the clock and the answer, or the refusal; and the output
pub pop-determined : {o : PopOutcome} (r s : Result Popped OutShort) (out₁ out₂ : List ℕ) → pop_ended r out₁ ≡ o → pop_ended s out₂ ≡ o → (r ≡ s) × (out₁ ≡ out₂)
pop-determined r s out₁ out₂ p q = let e = p ∙ sym q in (ap (λ x. x.popped) e, ap (λ x. x.output) e)
