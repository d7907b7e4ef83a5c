-- Circular numbers of w bits: 01, "Numbers". Sequence numbers have 31 bits and stamps 32; each definition stands once, over w.
-- A number of 2^w or more is read mod 2^w.
use Rattle.std.specs.Prelude.{ℕ, ◌+◌, ◌-◌, ◌%◌, ◌^◌, Bool, cond, not, ◌&&◌, ◌||◌, ℤ, pos, negsuc, ◌-ℤ◌, ◌==◌, nat_lt}

-- D = (a - b) mod 2^w
unfoldable pub distance : ℕ → ℕ → ℕ → ℕ
distance w a b = (a + (2 ^ w - b % 2 ^ w)) % 2 ^ w

-- equal if D = 0
unfoldable pub equal : ℕ → ℕ → ℕ → Bool
equal w a b = distance w a b == 0

-- a after b if 0 < D < 2^(w-1)
unfoldable pub after : ℕ → ℕ → ℕ → Bool
after w a b = nat_lt 0 (distance w a b) && nat_lt (distance w a b) (2 ^ (w - 1))

-- else before
unfoldable pub before : ℕ → ℕ → ℕ → Bool
before w a b = not (equal w a b || after w a b)

-- saturating difference: D if a is not before b, else 0
unfoldable pub saturating : ℕ → ℕ → ℕ → ℕ
saturating w a b = cond (not (before w a b)) (distance w a b) 0

-- (a + n) mod 2^w: also the number of place n, counted from the number a
unfoldable pub sum : ℕ → ℕ → ℕ → ℕ
sum w a n = (a + n) % 2 ^ w

unfoldable pub successor : ℕ → ℕ → ℕ
successor w a = sum w a 1

-- z mod 2^w, for a number of either sign
unfoldable pub wrap : ℕ → ℤ → ℕ
wrap w (pos n) = n % 2 ^ w
wrap w (negsuc n) = 2 ^ w - 1 - n % 2 ^ w

-- the number in -2^(w-1)..2^(w-1)-1 that is congruent to d mod 2^w, for d below 2^w
unfoldable pub signed : ℕ → ℕ → ℤ
signed w d = cond (nat_lt d (2 ^ (w - 1))) (pos d) (pos d -ℤ pos (2 ^ w))

-- a - b as that number
unfoldable pub difference : ℕ → ℕ → ℕ → ℤ
difference w a b = signed w (distance w a b)
