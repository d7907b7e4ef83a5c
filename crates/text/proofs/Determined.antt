-- Any two outcomes that the promise of a put allows coincide, whatever is put: 01, "Each proof's duty". Assumes nothing.
use mathlib.Core.Path.{◌≡◌, sym, ◌∙◌, ap}
use mathlib.Core.List.{List}
use Prim.Native.Nat.{ℕ}
use Rattle.text.specs.Put.{Put, put_ended}

-- the cursor and the output
pub put-determined : {o : Put} (r s : ℕ) (out₁ out₂ : List ℕ) → put_ended r out₁ ≡ o → put_ended s out₂ ≡ o → (r ≡ s) × (out₁ ≡ out₂)
put-determined r s out₁ out₂ p q = let e = p ∙ sym q in (ap (λ x. x.cursor) e, ap (λ x. x.area) e)
