-- The laws at the two widths in use: sequence numbers, 31 bits, and stamps, 32. Each is one line over its law. Assumes nothing.
use Rattle.std.proofs.Common.{◌≡◌, ℕ, ◌+◌, ◌*◌, ◌^◌, ◌<◌, ◌≤◌, true, false, ℤ, arith}
use lib.Signed.{mag}
use Rattle.numbers.specs.Circular.{distance, equal, after, before, saturating, sum, signed, difference, wrap}
use Rattle.numbers.specs.Order.{OneOf}
use Rattle.numbers.proofs.Circle.{distance-zero, one-order, tie, mirror, saturating-sum, sum-saturating}
use Rattle.numbers.proofs.Places.{place-turns, place-distance, place_after, place-one}
use Rattle.numbers.proofs.Signs.{difference-range, signed-congruent, signed-only}

-- sequence numbers
pub seq-same : {a b : ℕ} → a < 2 ^ 31 → b < 2 ^ 31 → distance 31 a b ≡ 0 → a ≡ b
seq-same = distance-zero 31

pub seq-one-order : (a b : ℕ) → OneOf (equal 31 a b) (after 31 a b) (before 31 a b)
seq-one-order = one-order 31

pub seq-tie : (a b : ℕ) → distance 31 a b ≡ 2 ^ 30 → (before 31 a b ≡ true) × (before 31 b a ≡ true)
seq-tie a b = tie 31 a b (omega arith)

pub seq-mirror : (a b : ℕ) → (distance 31 a b ≡ 2 ^ 30 → ⊥) → after 31 a b ≡ before 31 b a
seq-mirror a b = mirror 31 a b (omega arith)

pub seq-saturating-sum : (b : ℕ) {n : ℕ} → n < 2 ^ 30 → saturating 31 (sum 31 b n) b ≡ n
seq-saturating-sum b = saturating-sum 31 b (omega arith)

pub seq-sum-saturating : {a : ℕ} (b : ℕ) → a < 2 ^ 31 → before 31 a b ≡ false → sum 31 b (saturating 31 a b) ≡ a
seq-sum-saturating = sum-saturating 31

-- the number of a place, which repeats every 2^31 places and no sooner
pub seq-turns : (first p k : ℕ) → sum 31 first (p + k * 2 ^ 31) ≡ sum 31 first p
seq-turns = place-turns 31

pub seq-places : (first from p q : ℕ) → from ≤ p → p < from + 2 ^ 31 → from ≤ q → q < from + 2 ^ 31 → sum 31 first p ≡ sum 31 first q → p ≡ q
seq-places = place-one 31

pub seq-distance : (first p n : ℕ) → n < 2 ^ 31 → distance 31 (sum 31 first (p + n)) (sum 31 first p) ≡ n
seq-distance = place-distance 31

-- a fresh packet is after all of the last 2^30 places, past any number of wraps
pub seq-fresh : (first p n : ℕ) → 0 < n → n < 2 ^ 30 → after 31 (sum 31 first (p + n)) (sum 31 first p) ≡ true
seq-fresh first p n = place_after 31 first p n (omega arith)

-- stamps
pub stamp-same : {a b : ℕ} → a < 2 ^ 32 → b < 2 ^ 32 → distance 32 a b ≡ 0 → a ≡ b
stamp-same = distance-zero 32

pub stamp-turns : (first p k : ℕ) → sum 32 first (p + k * 2 ^ 32) ≡ sum 32 first p
stamp-turns = place-turns 32

pub stamp-range : (a b : ℕ) → mag (difference 32 a b) < 2 ^ 31
stamp-range a b = difference-range 32 a b (omega arith)

pub stamp-congruent : (d : ℕ) → d < 2 ^ 32 → wrap 32 (signed 32 d) ≡ d
stamp-congruent = signed-congruent 32

pub stamp-only : (z : ℤ) → mag z < 2 ^ 31 → z ≡ signed 32 (wrap 32 z)
stamp-only z = signed-only 32 z (omega arith)
