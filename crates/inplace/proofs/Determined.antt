-- Any two outcomes that the promise of a data packet or a pop on words allows coincide: 01, "Each proof's duty". Assumes nothing.
use mathlib.Core.Path.{◌≡◌, sym, ◌∙◌, ap}
use mathlib.Core.List.{List}
use Prim.Native.Nat.{ℕ}
use Rattle.std.specs.Prelude.{Result}
use Rattle.window_pop.specs.declared.pop.PopAnswer.{PopAnswer}
use Rattle.head.specs.declared.refusal.Refusal.{Refusal}
use Rattle.receiver.specs.declared.data.DataAnswer.{DataAnswer}
use Rattle.inplace.specs.Calls.{PopIn, pop_in, DataLeft, data_left}

-- the answer, the head's words, the slot area and the payload area
pub data-determined : {o : DataLeft} (r s : Result DataAnswer Refusal) (ws₁ ws₂ slots₁ slots₂ bs₁ bs₂ : List ℕ) → data_left r ws₁ slots₁ bs₁ ≡ o → data_left s ws₂ slots₂ bs₂ ≡ o
    → (r ≡ s) × (ws₁ ≡ ws₂) × (slots₁ ≡ slots₂) × (bs₁ ≡ bs₂)
data-determined r s ws₁ ws₂ slots₁ slots₂ bs₁ bs₂ p q =
    let e = p ∙ sym q in
    (ap (λ x. x.answer) e, ap (λ x. x.words) e, ap (λ x. x.slots) e, ap (λ x. x.payloads) e)

-- the answer, the head's words and the output
pub message-determined : {o : PopIn} (r s : Result PopAnswer Refusal) (ws₁ ws₂ out₁ out₂ : List ℕ) → pop_in r ws₁ out₁ ≡ o → pop_in s ws₂ out₂ ≡ o
    → (r ≡ s) × (ws₁ ≡ ws₂) × (out₁ ≡ out₂)
message-determined r s ws₁ ws₂ out₁ out₂ p q =
    let e = p ∙ sym q in
    (ap (λ x. x.answer) e, ap (λ x. x.words) e, ap (λ x. x.output) e)
