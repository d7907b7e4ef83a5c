-- Truth values: taking a test apart, and going by cases on one. For every crate. Assumes nothing.
use Rattle.std.proofs.Common.{◌≡◌, ℕ, ◌<◌, ◌≤◌, Bool, true, false, cond, not, ◌&&◌, ◌||◌, T, ltb, refl, arith, ltb→lt, nltb→le}

pub impossible : {P : Type 0} → true ≡ false → P
impossible e = absurd (let z : ◌≡◌ {A = ℕ} 0 1 = cc in omega arith)

pub and_left : (x y : Bool) → (x && y) ≡ true → x ≡ true
and_left true y e = refl
and_left false y e = e

pub and_right : (x y : Bool) → (x && y) ≡ true → y ≡ true
and_right true y e = e
and_right false true e = refl
and_right false false e = e

pub and-false : (x : Bool) {y : Bool} → y ≡ false → (x && y) ≡ false
and-false true e = e
and-false false e = refl

pub or_left : (x y : Bool) → (x || y) ≡ false → x ≡ false
or_left false y e = refl
or_left true y e = e

-- by cases on a test, and on which of two numbers is the smaller
pub by_bool : {P : Type 0} (c : Bool) → (c ≡ true → P) → (c ≡ false → P) → P
by_bool true f g = f refl
by_bool false f g = g refl

pub by-test : {A : Type 0} (P : A → Type 0) (c : Bool) (x y : A) → (c ≡ true → P x) → (c ≡ false → P y) → P (cond c x y)
by-test P true x y f g = f refl
by-test P false x y f g = g refl

pub by-order : {P : Type 0} (a b : ℕ) → (a < b → P) → (b ≤ a → P) → P
by-order {P} a b f g = go (ltb a b) (λ t. f (ltb→lt a b t)) (λ t. g (nltb→le a b t))
  where
    go : (c : Bool) → (T c → P) → (T (not c) → P) → P
    go true f g = f tt
    go false f g = g tt
