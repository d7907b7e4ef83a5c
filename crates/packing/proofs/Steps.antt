-- What the code of words.rt does at each return, as laws over plain values; the proof files hand them to `search`. z₁ is z as the machine reads it back.
-- Assumes nothing.
use mathlib.Core.Path.{◌≡◌, refl, sym, ◌∙◌, ap}
use mathlib.Core.Bool.{Bool, true, false}
use Prim.Native.Nat.{ℕ, suc, ◌-◌, ◌^◌, ◌<◌, ◌≤◌}
use native.Mathlib.Nat.{mod-eq_of_lt}
use native.Mathlib.Omega.{arith}
use borrow.Author.Rules.{rules}
use borrow.Author.Tests.{eq-eqb, ne_eqb, le-ltb}
use lib.IntN.{ℤ, pos, negsuc, ◌-ℤ◌}
use mir.Syntax.{w64}
use mir.Val.{Fits, SFits, to_z, of_z, bool_byte}
use mir.Facts.{to_z_pos}
use Rattle.numbers.specs.Circular.{wrap}
use Rattle.std.specs.Prelude.{Option, Some, None}
use Rattle.numbers.proofs.Flags.{by-order}
use Rattle.numbers.proofs.Halves.{same, above--, below--}
use Rattle.numbers.proofs.Signs.{signed_low, signed_high}
use Rattle.packing.specs.Holds.{Time}
use Rattle.packing.specs.Words.{word_of, whole_of, flag_word, time_word, moment_of}
use Rattle.packing.proofs.Floats.{itself, nan-bits, no-nan-bits, quotient-nan, float-tests}

-- of_whole and whole
pub word-cast : (z : ℤ) {z₁ : ℤ} {r : ℕ} → SFits w64 z → r ≡ of_z w64 z₁ → z₁ ≡ z → r ≡ word_of z
unfolding wrap
word-cast (pos n) f a p = rw (a, p) (sym (mod-eq_of_lt (omega (arith, f.sfits))))
word-cast (negsuc n) f a p =
    let h : n < 2 ^ 64 = omega (arith, f.sfits) in
    rw (a, p, mod-eq_of_lt h) (omega arith)

turn-less : (w : ℕ) → 9223372036854775808 ≤ w → Fits w64 w → pos w -ℤ pos (2 ^ 64) ≡ negsuc (2 ^ 64 - suc w)
turn-less w lo f = let h = f.fits in same (rw above-- (omega arith)) (rw below-- (omega arith))

pub whole-cast : (w : ℕ) {r r₁ : ℤ} → Fits w64 w → r ≡ to_z w64 w → r₁ ≡ r → r₁ ≡ whole_of w
whole-cast w f a p =
    p
    ∙ a
    ∙ by-order w (2 ^ 63)
    (λ h. to_z_pos w64 h ∙ sym (signed_low 64 w h))
    (λ h. rw (le-ltb w (2 ^ 63) h) (sym (signed_high 64 w h ∙ turn-less w h f)))

pub flag-byte : (b : Bool) → bool_byte b ≡ flag_word b
flag-byte true = refl
flag-byte false = refl

-- moments
pub time-at : (m : Option ℤ) (t : ℤ) {t₁ : ℤ} {w : ℕ} → m ≡ Some t → w ≡ word_of t₁ → t₁ ≡ t → w ≡ time_word m
time-at m t e p q = rw e (p ∙ ap word_of q)

pub time-holds : (m : Option ℤ) (t : ℤ) → m ≡ Some t → SFits w64 t → Time m
time-holds m t e f = rw e f.sfits

pub unset-holds : (m : Option ℤ) → m ≡ None → Time m
unset-holds m e = rw e tt

pub moment-at : (s w : ℕ) {z z₁ : ℤ} → s ≡ 1 → z ≡ whole_of w → z₁ ≡ z → Some z₁ ≡ moment_of s w
moment-at s w e p q = rw (eq-eqb s 1 e) (ap Some (q ∙ p))

pub moment-unset : (s w : ℕ) → (s ≡ 1 → ⊥) → None ≡ moment_of s w
moment-unset s w n = rw (ne_eqb s 1 n)

pub ruleset steps = (word-cast, whole-cast, itself, nan-bits, no-nan-bits, quotient-nan, float-tests, flag-byte, time-at, time-holds, unset-holds, moment-at, moment-unset, rules)
