-- Two words are the same exactly if they are one list of bytes, and exactly if the library's `==` says so. Assumes nothing.
use Rattle.std.proofs.Common.{◌≡◌, ℕ, suc, Bool, true, false, ◌&&◌, eqb, List, [], ◌∷◌, refl, arith, bytes_eq, rules, eq-eqb, eqb-true}
use Rattle.numbers.proofs.Flags.{and_left, and_right}
use Rattle.replaying.specs.Same.{same_bytes}

pub same-equal : (a b : List ℕ) → same_bytes a b ≡ true → a ≡ b
unfolding same_bytes
same-equal [] [] e = refl
same-equal [] (y ∷ m) e = absurd (let z : ◌≡◌ {A = ℕ} 0 1 = cc in omega arith)
same-equal (x ∷ l) [] e = absurd (let z : ◌≡◌ {A = ℕ} 0 1 = cc in omega arith)
same-equal (x ∷ l) (y ∷ m) e =
    let p = eqb-true x y (and_left (eqb x y) (same_bytes l m) e) in
    let q = same-equal l m (and_right (eqb x y) (same_bytes l m) e) in
    cc

pub equal-same : (a : List ℕ) → same_bytes a a ≡ true
unfolding same_bytes
equal-same [] = refl
equal-same (x ∷ l) = rw (eq-eqb x x refl) (equal-same l)

pub eq-same : (a b : List ℕ) → bytes_eq a b ≡ same_bytes a b
unfolding same_bytes
eq-same [] [] = refl
eq-same [] (y ∷ m) = refl
eq-same (x ∷ l) [] = refl
eq-same (x ∷ l) (y ∷ m) = rw (eq-same l m)

pub ruleset sames = (eq-same, rules)
