-- Places and their numbers: place p, counted from 0 and never again from 0, has the number (first + p) mod 2^w, which is `sum w first p`.
-- Places repeat their numbers exactly every 2^w, and no two of a stretch of 2^w share one. Assumes nothing.
use Rattle.std.proofs.Common.{◌≡◌, ℕ, ◌+◌, ◌-◌, ◌*◌, ◌^◌, ◌<◌, ◌≤◌, true, sym, ap, ◌∙◌, arith}
use native.Mathlib.Nat.{add-mul-mod_self_right}
use Rattle.numbers.specs.Circular.{distance, after, before, sum}
use Rattle.numbers.proofs.Flags.{by-order}
use Rattle.numbers.proofs.Circle.{distance_self, distance-sum, sum-sum, half, after-at, before_at, around}

-- k turns on, the same number
pub place-turns : (w first p k : ℕ) → sum w first (p + k * 2 ^ w) ≡ sum w first p
unfolding sum
place-turns w first p k =
    let e : first + (p + k * 2 ^ w) ≡ first + p + k * 2 ^ w = omega arith in
    rw e (add-mul-mod_self_right (first + p) k (2 ^ w))

-- a later place lies as many numbers on as it lies places on
pub place-distance : (w first p n : ℕ) → n < 2 ^ w → distance w (sum w first (p + n)) (sum w first p) ≡ n
place-distance w first p n h = rw (← sum-sum w first p n) (distance-sum w (sum w first p) h)

-- a place up to half a turn on is after, and the earlier one before it, wherever the numbers wrap
pub place_after : (w first p n : ℕ) → 0 < w → 0 < n → n < 2 ^ (w - 1) → after w (sum w first (p + n)) (sum w first p) ≡ true
place_after w first p n hw hn h =
    let d = place-distance w first p n (omega (arith, half w hw)) in
    after-at w (sum w first (p + n)) (sum w first p) (omega arith) (omega arith)

pub place-before : (w first p n : ℕ) → 0 < w → 0 < n → n < 2 ^ (w - 1) → before w (sum w first p) (sum w first (p + n)) ≡ true
place-before w first p n hw hn h =
    let d = place-distance w first p n (omega (arith, half w hw)) in
    let o = around w (sum w first (p + n)) (sum w first p) (omega arith) in
    before_at w (sum w first p) (sum w first (p + n)) (omega (arith, half w hw))

-- no two places of a stretch of 2^w share a number
pub place-apart : (w first p n : ℕ) → n < 2 ^ w → sum w first (p + n) ≡ sum w first p → n ≡ 0
place-apart w first p n h e =
    sym (place-distance w first p n h) ∙ ap (λ (x : ℕ). distance w x (sum w first p)) e ∙ distance_self w (sum w first p)

pub place-one : (w first from p q : ℕ) → from ≤ p → p < from + 2 ^ w → from ≤ q → q < from + 2 ^ w → sum w first p ≡ sum w first q → p ≡ q
place-one w first from p q a b c d e =
    by-order p q
    (λ h.
    let n : p + (q - p) ≡ q = omega arith in
    omega (arith, place-apart w first p (q - p) (omega arith) (rw n (sym e))))
    (λ h.
    let n : q + (p - q) ≡ p = omega arith in
    omega (arith, place-apart w first q (p - q) (omega arith) (rw n e)))
