-- Any two outcomes that the promise of a step allows coincide: 01, "Each proof's duty". Assumes nothing.
use mathlib.Core.Path.{◌≡◌, sym, ◌∙◌, ap}
use mathlib.Core.List.{List}
use Prim.Native.Nat.{ℕ}
use Rattle.step.specs.Step.{State, Lent, Ended, stepped, ended, step_of}
use Rattle.step.specs.declared.Call.{Call}
use Rattle.step.specs.declared.Stepped.{Stepped}

-- what a step returns, from its outcome
abbrev returned : Ended → Stepped
returned o = stepped o.state.head o.answer

-- the head and the answer, the slot, payload and history areas, the output and the list of loss words
pub step-determined : (t : State) (l : Lent) (c : Call) (r s : Stepped) (ws₁ ws₂ bs₁ bs₂ a₁ a₂ out₁ out₂ list₁ list₂ : List ℕ)
    → ended r ws₁ bs₁ a₁ out₁ list₁ ≡ step_of t l c → ended s ws₂ bs₂ a₂ out₂ list₂ ≡ step_of t l c
    → (r ≡ s) × (ws₁ ≡ ws₂) × (bs₁ ≡ bs₂) × (a₁ ≡ a₂) × (out₁ ≡ out₂) × (list₁ ≡ list₂)
step-determined t l c r s ws₁ ws₂ bs₁ bs₂ a₁ a₂ out₁ out₂ list₁ list₂ p q =
    let e = p ∙ sym q in
    (ap returned e, ap (λ o. o.state.slots) e, ap (λ o. o.state.payloads) e, ap (λ o. o.state.history) e, ap (λ o. o.output) e, ap (λ o. o.list) e)
