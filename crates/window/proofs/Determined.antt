-- Any two outcomes that the promise of a push or of show allows coincide, whatever they are made of: 01, "Each proof's duty". The other functions of this crate
-- promise one value, or one for each list that they write (numbers, `value-determined`). Assumes nothing.
use mathlib.Core.Path.{◌≡◌, sym, ◌∙◌, ap}
use mathlib.Core.List.{List}
use Prim.Native.Nat.{ℕ}
use denote.Ref.{Bor}
use Rattle.std.specs.Prelude.{Result}
use Rattle.window.specs.Push.{PushOutcome, push_ended}
use Rattle.window.specs.Show.{PartOf}
use Rattle.window.specs.declared.push.Pushed.{Pushed}
use Rattle.window.specs.declared.push.PushRefusal.{PushRefusal}

-- the window and the answer or the refusal, the slot area and the payload area
pub push-determined : {o : PushOutcome} (r s : Result Pushed PushRefusal) (ws₁ ws₂ bs₁ bs₂ : List ℕ) → push_ended r ws₁ bs₁ ≡ o → push_ended s ws₂ bs₂ ≡ o
    → (r ≡ s) × ((ws₁ ≡ ws₂) × (bs₁ ≡ bs₂))
push-determined r s ws₁ ws₂ bs₁ bs₂ p q =
    let e = p ∙ sym q in
    (ap (λ x. x.pushed) e, (ap (λ x. x.slots) e, ap (λ x. x.payloads) e))

-- the part: its block, its place in it and its bytes
pub part-determined : (area : Bor (List ℕ)) (at len : ℕ) (r s : Bor (List ℕ)) → PartOf area at len r → PartOf area at len s
    → (r.ref_ptr.0 ≡ s.ref_ptr.0) × ((r.ref_ptr.1 ≡ s.ref_ptr.1) × (r.now ≡ s.now))
part-determined area at len r s p q = (p.block ∙ sym q.block, (p.place ∙ sym q.place, p.bytes ∙ sym q.bytes))
