-- Laws of the refusals: a call by its refusal, and what a list of tests that refused nothing has shown. Assumes nothing.
use mathlib.Core.Path.{◌≡◌, refl, sym, ap}
use mathlib.Core.Bool.{Bool, true, false, cond}
use mathlib.Core.List.{List, [], ◌∷◌}
use Prim.Native.Nat.{ℕ}
use native.Mathlib.Omega.{arith}
use Rattle.std.specs.Prelude.{Result, Ok, Err}
use Rattle.head.specs.Rules.{Rule, first_refusal, judged}
use Rattle.head.specs.declared.refusal.Refusal.{Refusal}

-- a refusal is no Ok
abbrev code : Result Unit Refusal → ℕ
code (Ok _) = 0
code (Err _) = 1

pub err-ok : {e : Refusal} {x : Unit} → ◌≡◌ {A = Result Unit Refusal} (Err e) (Ok x) → ⊥
err-ok h = let k : ◌≡◌ {A = ℕ} 1 0 = ap code h in omega (arith, k)

-- a call by its refusal; r is the answer that the code has, m the definition's
pub taken : {A : Type 0} {m : Result Unit Refusal} {x : Unit} (a : A) (f : Refusal → A) → Ok x ≡ m → judged m a f ≡ a
taken a f h = rw (← h)

pub refused : {A : Type 0} {m : Result Unit Refusal} {e : Refusal} (a : A) (f : Refusal → A) → Err e ≡ m → judged m a f ≡ f e
refused a f h = rw (← h)

-- what holds of a call taken, and of each refusal, holds of the call
pub by-refusal : {A : Type 0} (P : A → Type 0) (m : Result Unit Refusal) (a : A) (f : Refusal → A)
    → ((x : Unit) → m ≡ Ok x → P a) → ((e : Refusal) → m ≡ Err e → P (f e)) → P (judged m a f)
by-refusal P (Ok x) a f t r = t x refl
by-refusal P (Err e) a f t r = r e refl

-- a list that refused nothing: no test held
abbrev pub Clear : List Rule → Type 0
Clear [] = Unit
Clear (r ∷ rs) = (r.bad ≡ false) × Clear rs

passed : (bad : Bool) (e : Refusal) {x : Unit} (s : Result Unit Refusal) → Ok x ≡ cond bad (Err e) s → (bad ≡ false) × (Ok x ≡ s)
passed true e s h = absurd (err-ok (sym h))
passed false e s h = (refl, h)

pub clear : (l : List Rule) {x : Unit} → Ok x ≡ first_refusal l → Clear l
clear [] h = tt
clear (r ∷ rs) h = let p = passed r.bad r.refusal (first_refusal rs) h in (p.0, clear rs p.1)
