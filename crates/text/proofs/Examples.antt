-- Worked examples, computed from the definitions. Assumes nothing.
use mathlib.Core.Path.{◌≡◌, refl}
use mathlib.Core.List.{[], ◌∷◌}
use lib.IntN.{negsuc}
use Rattle.text.specs.Decimal.{digits, decimal, signed_decimal}
use Rattle.text.specs.Put.{put}

zero-digits : decimal 0 ≡ 48 ∷ []
unfolding decimal digits
zero-digits = refl

-- 2^64 - 1, the most digits that the code writes
most-digits : decimal 18446744073709551615 ≡ 49 ∷ 56 ∷ 52 ∷ 52 ∷ 54 ∷ 55 ∷ 52 ∷ 52 ∷ 48 ∷ 55 ∷ 51 ∷ 55 ∷ 48 ∷ 57 ∷ 53 ∷ 53 ∷ 49 ∷ 54 ∷ 49 ∷ 53 ∷ []
unfolding decimal digits
most-digits = refl

-- A36's delay, -150
below-zero : signed_decimal (negsuc 149) ≡ 45 ∷ 49 ∷ 53 ∷ 48 ∷ []
unfolding signed_decimal decimal digits
below-zero = refl

in-the-middle : put (1 ∷ 2 ∷ 3 ∷ 4 ∷ []) 1 (8 ∷ 9 ∷ []) ≡ 1 ∷ 8 ∷ 9 ∷ 4 ∷ []
unfolding put
in-the-middle = refl
