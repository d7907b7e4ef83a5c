-- Signed differences, remainders of signed numbers, and clamping. Assumes nothing.
use Rattle.std.proofs.Common.{◌≡◌, ℕ, suc, min, ◌+◌, ◌-◌, ◌^◌, ◌<◌, ◌≤◌, true, false, ℤ, pos, negsuc, ◌-ℤ◌, nat_abs, sym, refl, ◌∙◌, mod-eq_of_lt, arith, w32, w64, SFits, ltb-true, le-ltb, lt-ltb, le-leb}
use lib.Signed.{mag, lt_z}
use mir.Facts.{sfits_widen, to_z_pos}
use mir.Val.{to_z}
use Rattle.std.specs.Int.{saturate_signed}
use Rattle.numbers.specs.Instants.{least, most, clamp, interval_of, since_time, is_reading}
use Rattle.numbers.specs.Circular.{distance, signed, difference, wrap}
use Rattle.numbers.proofs.Halves.{above, below, apart, same, size, above--, below--, lt-false, halves_lt, halves-not-lt}
use Rattle.numbers.proofs.Flags.{by-order, by_bool}
use Rattle.numbers.proofs.Circle.{half, distance-below}

-- the signed number of a distance: the distance itself, or a turn less
pub signed_low : (w d : ℕ) → d < 2 ^ (w - 1) → signed w d ≡ pos d
unfolding signed
signed_low w d h = rw (lt-ltb d (2 ^ (w - 1)) h)

pub signed_high : (w d : ℕ) → 2 ^ (w - 1) ≤ d → signed w d ≡ pos d -ℤ pos (2 ^ w)
unfolding signed
signed_high w d h = rw (le-ltb d (2 ^ (w - 1)) h)

turn-less : (w n d : ℕ) → n + d + 1 ≡ 2 ^ w → pos d -ℤ pos (2 ^ w) ≡ negsuc n
turn-less w n d e = same (rw above-- (omega arith)) (rw below-- (omega arith))

-- as the machine reads 32 bits with a sign
pub machine-signed : (d : ℕ) → d < 2 ^ 32 → to_z w32 d ≡ signed 32 d
machine-signed d h =
    by-order d (2 ^ 31)
    (λ k. to_z_pos w32 k ∙ sym (signed_low 32 d k))
    (λ k. rw (le-ltb d (2 ^ 31) k) (sym (signed_high 32 d k ∙ turn-less 32 (2 ^ 32 - suc d) d (omega arith))))

-- it lies in -2^(w-1)..2^(w-1)-1
pub signed_range : (w d : ℕ) → 0 < w → d < 2 ^ w → mag (signed w d) < 2 ^ (w - 1)
signed_range w d hw h =
    by-order d (2 ^ (w - 1))
    (λ k. rw (signed_low w d k) k)
    (λ k.
    let e = turn-less w (2 ^ w - 1 - d) d (omega arith) in
    rw (signed_high w d k, e) (omega (arith, half w hw)))

pub difference-range : (w a b : ℕ) → 0 < w → mag (difference w a b) < 2 ^ (w - 1)
unfolding difference
difference-range w a b hw = signed_range w (distance w a b) hw (distance-below w a b)

-- it is congruent to the distance mod 2^w
pub signed-congruent : (w d : ℕ) → d < 2 ^ w → wrap w (signed w d) ≡ d
unfolding wrap
signed-congruent w d h =
    by-order d (2 ^ (w - 1))
    (λ k. rw (signed_low w d k) (mod-eq_of_lt h))
    (λ k.
    let e = turn-less w (2 ^ w - 1 - d) d (omega arith) in
    let l : 2 ^ w - 1 - d < 2 ^ w = omega arith in
    rw (signed_high w d k, e, mod-eq_of_lt l) (omega arith))

-- and no other number in that range is
pub signed-only : (w : ℕ) (z : ℤ) → 0 < w → mag z < 2 ^ (w - 1) → z ≡ signed w (wrap w z)
unfolding wrap
signed-only w (pos n) hw h =
    let l : n < 2 ^ w = omega (arith, half w hw) in
    rw (mod-eq_of_lt l) (sym (signed_low w n h))
signed-only w (negsuc n) hw h =
    let l : n < 2 ^ w = omega (arith, half w hw) in
    let d = 2 ^ w - 1 - n in
    rw (mod-eq_of_lt l) (sym (signed_high w d (omega (arith, half w hw)) ∙ turn-less w n d (omega arith)))

-- `clamp`, by where the number lies
pub clamp-low : (z : ℤ) → 2 ^ 31 ≤ below z → clamp z ≡ least
unfolding clamp
clamp-low z h =
    by-order (below z) 2147483649
    (λ g. let e : z ≡ least = same (omega (arith, apart z)) (omega arith) in rw e)
    (λ g. rw (halves_lt z least (omega (arith, apart z))))

pub clamp-high : (z : ℤ) → 2147483647 ≤ above z → clamp z ≡ most
unfolding clamp
clamp-high z h =
    by-order (above z) 2147483648
    (λ g. let e : z ≡ most = same (omega arith) (omega (arith, apart z)) in rw e)
    (λ g. rw (halves-not-lt z least (omega (arith, apart z)), halves_lt most z (omega (arith, apart z))))

pub clamp-in : (z : ℤ) → above z < 2 ^ 31 → below z ≤ 2 ^ 31 → clamp z ≡ z
unfolding clamp
clamp-in z h k = rw (halves-not-lt z least (omega (arith, apart z)), halves-not-lt most z (omega (arith, apart z)))

-- what is cut to 64 bits before is the same cut to 32
pub clamp-saturated : (z : ℤ) → clamp (saturate_signed w64 z) ≡ clamp z
clamp-saturated (pos n) =
    by-order n 9223372036854775807
    (λ h. let e : min n 9223372036854775807 ≡ n = omega arith in rw e)
    (λ h. clamp-high (pos (min n 9223372036854775807)) (omega arith) ∙ sym (clamp-high (pos n) (omega arith)))
clamp-saturated (negsuc n) =
    by-order n 9223372036854775807
    (λ h. let e : min n 9223372036854775807 ≡ n = omega arith in rw e)
    (λ h. clamp-low (negsuc (min n 9223372036854775807)) (omega arith) ∙ sym (clamp-low (negsuc n) (omega arith)))

-- a reading's size
pub reading-size : (z : ℤ) → is_reading z ≡ true → (below z ≡ 0) × (nat_abs z < 2 ^ 60)
reading-size (pos n) e = (refl, ltb-true n (2 ^ 60) (sym (rw (le-leb 0 n (omega arith))) ∙ e))
reading-size (negsuc n) e = absurd (let z : ◌≡◌ {A = ℕ} 0 1 = cc in omega arith)

-- a reading is one as the machine reads it back, z₁
pub reading-on : (z : ℤ) {z₁ : ℤ} → is_reading z ≡ true → z₁ ≡ z → is_reading z₁ ≡ true
reading-on z e p = rw p e

-- a number that fits 32 bits fits 64; z₁ is z as the machine reads it back
pub widens : {z z₁ : ℤ} → z₁ ≡ z → SFits w32 z → SFits w64 z₁
widens p f = rw p (sfits_widen tt f)

-- an interval up to a reading that is not earlier
clamp-above : (z : ℤ) → below z ≡ 0 → (below (clamp z) ≡ 0) × (nat_abs (clamp z) < 2 ^ 31)
clamp-above z h =
    by-order (above z) 2147483647
    (λ k. rw (clamp-in z (omega arith) (omega arith)) (h, omega (arith, size z)))
    (λ k. rw (clamp-high z k) (refl, omega arith))

pub interval-above : (t now : ℤ) → lt_z now t ≡ false → (below (interval_of t now) ≡ 0) × (nat_abs (interval_of t now) < 2 ^ 31)
unfolding interval_of
interval-above t now e = clamp-above (now -ℤ t) (omega (arith, below-- now t, lt-false now t e))

-- since a time that is not after `now`, it is the interval of 01, "Numbers"
pub since-interval : (now t : ℤ) → lt_z now t ≡ false → pos (since_time now t) ≡ interval_of t now
unfolding since_time
since-interval now t e =
    let z = interval_of t now in
    let b = (interval-above t now e).0 in
    rw e (same (omega (arith, size z)) (omega arith))

-- an interval since a time is under 2^31
pub since-under : (now t : ℤ) → since_time now t < 2 ^ 31
unfolding since_time
since-under now t =
    by_bool (lt_z now t)
    (λ e. rw e (interval-above now now (halves-not-lt now now (omega arith))).1)
    (λ e. rw e (interval-above t now e).1)
