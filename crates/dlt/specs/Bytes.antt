-- Numbers in the file: 01, "Trace, mark DLT": "Big-endian". A file is a list of bytes.
use Rattle.std.specs.Prelude.{List, [], ◌∷◌, ℕ, ◌+◌, ◌*◌, ℤ, get_or, take, drop}
use Rattle.numbers.specs.Circular.{signed}

-- n, with the bytes bs written behind it
unfoldable pub big_from : ℕ → List ℕ → ℕ
big_from n [] = n
big_from n (b ∷ bs) = big_from (256 * n + b) bs

-- the number that bytes write, the most significant first
unfoldable pub big : List ℕ → ℕ
big bs = big_from 0 bs

abbrev pub byte_at : List ℕ → ℕ → ℕ
byte_at xs at = get_or xs at 0

-- the number in the n bytes from place `at` on
unfoldable pub field : List ℕ → ℕ → ℕ → ℕ
field xs at n = big (take n (drop at xs))

-- A time in 8 bytes. The calls take it as a signed 64-bit number, so it is read as one: 2^63 or more is then below zero, and is refused as
-- out of range (3, or 15 for the start), as it is without a sign.
unfoldable pub time_at : List ℕ → ℕ → ℤ
time_at xs at = signed 64 (field xs at 8)
