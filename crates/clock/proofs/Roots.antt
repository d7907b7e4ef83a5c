-- The whole square root is the one number whose square is at most n and whose successor's square is above n. Assumes nothing.
use Rattle.std.proofs.Common.{◌≡◌, ℕ, zero, suc, ◌*◌, ◌<◌, ◌≤◌, leb, le_trans, lt_of_lt_of_le, lt_irrefl, suc-mul, mul-le-mul, mul-suc, arith, leb-false, leb-true}
use Rattle.numbers.proofs.Flags.{by-test, by-order}
use Rattle.clock.specs.Root.{root}

pub squares : {a b : ℕ} → a ≤ b → a * a ≤ b * b
squares h = mul-le-mul h h

pub root-low : (n : ℕ) → root n * root n ≤ n
unfolding root
root-low zero = omega arith
root-low (suc n) =
    by-test (λ (r : ℕ). r * r ≤ suc n) (leb (suc (root n) * suc (root n)) (suc n)) (suc (root n)) (root n)
    (λ t. leb-true (suc (root n) * suc (root n)) (suc n) t)
    (λ t. let h = root-low n in omega arith)

pub root-high : (n : ℕ) → n < suc (root n) * suc (root n)
unfolding root
root-high zero = omega arith
root-high (suc n) =
    by-test (λ (r : ℕ). suc n < suc r * suc r) (leb (suc (root n) * suc (root n)) (suc n)) (suc (root n)) (root n)
    (λ t. let h = root-high n in let k = grows (suc (root n)) in omega arith)
    (λ t. leb-false (suc (root n) * suc (root n)) (suc n) t)
  where
    grows : (r : ℕ) → r * r < suc r * suc r
    grows r = omega (arith, suc-mul r (suc r), mul-suc r r)

-- a number whose square is at most n is at most the root, and one whose square is above n is above it
pub root-least : (n r : ℕ) → r * r ≤ n → r ≤ root n
root-least n r h =
    by-order (root n) r
    (λ g. absurd (lt_irrefl n (lt_of_lt_of_le (root-high n) (le_trans (squares g) h))))
    (λ g. g)

pub root_below : (n r : ℕ) → n < r * r → root n < r
root_below n r h =
    by-order (root n) r
    (λ g. g)
    (λ g. absurd (lt_irrefl n (lt_of_lt_of_le h (le_trans (squares g) (root-low n)))))

-- so a root is known by its two squares
pub root_is : (n r : ℕ) → r * r ≤ n → n < suc r * suc r → root n ≡ r
root_is n r h k = omega (arith, root-least n r h, root_below n (suc r) k)
