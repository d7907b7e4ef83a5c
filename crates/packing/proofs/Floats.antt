-- A float's bits: the tests of the code say which floats and which words are no NaN. Assumes nothing.
use mathlib.Core.Path.{◌≡◌, refl, sym, ◌∙◌}
use mathlib.Core.Bool.{Bool, true, false, not, ◌||◌}
use Prim.Native.Nat.{ℕ, ◌*◌, ◌%◌, ◌^◌, ◌<◌, ◌≤◌}
use borrow.Author.Tests.{eq-eqb, le-ltb, lt-ltb, le-leb, lt-leb}
use lib.Dec.{T, eqb, leb}
use lib.Ieee.{Float, nan, inf, fin, up, down, level, div, eq, is_nan, nan_bits, of_bits, to_bits, binary64}
use lib.Ieee.Bits.{nan_bits_above, nan_bits_is}
use Rattle.numbers.proofs.Flags.{impossible, by-order}
use Rattle.packing.specs.Words.{bits_of, float_of, float_formed}

-- a float that equals itself is no NaN, and one that does not is
pub itself : (x : Float) → eq x x ≡ true → T (not (is_nan x))
unfolding eq is_nan
itself nan e = absurd (impossible (sym e))
itself (inf s) e = tt
itself (fin s m k) e = tt

level-self : (s : Bool) (a : ℕ) → level s a s a ≡ true
level-self true a = rw (eq-eqb a a refl)
level-self false a = rw (eq-eqb a a refl)

pub nan-bits : (x : Float) → eq x x ≡ false → 9221120237041090560 ≡ bits_of x
unfolding eq to_bits
nan-bits nan e = refl
nan-bits (inf true) e = impossible e
nan-bits (inf false) e = impossible e
nan-bits (fin s m k) e = impossible (sym (sym e ∙ rw (level-self s (m * up k * down k))))

-- a pattern over that of infinity is a NaN's
pub nan-low : (w : ℕ) → w % 2 ^ 63 ≤ 9218868437227405312 → nan_bits binary64 w ≡ false
nan-low w h = nan_bits_above binary64 w ∙ le-ltb 9218868437227405312 (w % 2 ^ 63) h

pub nan-high : (w : ℕ) → 9218868437227405312 < w % 2 ^ 63 → nan_bits binary64 w ≡ true
nan-high w h = nan_bits_above binary64 w ∙ lt-ltb 9218868437227405312 (w % 2 ^ 63) h

pub no-nan-bits : (w : ℕ) → w % 2 ^ 63 ≤ 9218868437227405312 → T (not (nan_bits binary64 w))
no-nan-bits w h = rw (nan-low w h) tt

is-nan : (x : Float) → is_nan x ≡ true → nan ≡ x
unfolding is_nan
is-nan nan e = refl
is-nan (inf s) e = impossible (sym e)
is-nan (fin s m k) e = impossible (sym e)

pub read-nan : (w : ℕ) → 9218868437227405312 < w % 2 ^ 63 → nan ≡ float_of w
read-nan w h = is-nan (float_of w) (sym (nan_bits_is binary64 w) ∙ nan-high w h)

pub over_zero : div binary64 (of_bits binary64 0) (of_bits binary64 0) ≡ nan
unfolding div of_bits
over_zero = refl

pub quotient-nan : (w : ℕ) → 9218868437227405312 < w % 2 ^ 63 → div binary64 (of_bits binary64 0) (of_bits binary64 0) ≡ float_of w
quotient-nan w h = over_zero ∙ read-nan w h

pub float-tests : (w : ℕ) → (leb (w % 2 ^ 63) 9218868437227405312 || eqb w 9221120237041090560) ≡ float_formed w
float-tests w =
    by-order 9218868437227405312 (w % 2 ^ 63)
    (λ h. rw (nan-high w h, lt-leb (w % 2 ^ 63) 9218868437227405312 h))
    (λ h. rw (nan-low w h, le-leb (w % 2 ^ 63) 9218868437227405312 h))
