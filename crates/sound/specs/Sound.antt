-- How the words of a head are found in range without making the head. What is found is `head_ok` of the head that the words say.
use Rattle.std.specs.Prelude.{Bool, true, ◌&&◌, cond, List, ◌≡◌, ℕ, zero, suc, ◌+◌, ◌*◌, ◌%◌, ◌^◌, ◌<◌, length, ltb, leb}
use Rattle.std.specs.Int.Bits.{bit_or}
use Rattle.packing.specs.Packed.{at}

-- 79 words of 64 bits
pub record Typed (ws : List ℕ) : Type 0 where
  pub long : length ws ≡ 79
  pub small : (i : ℕ) → at ws i < 2 ^ 64

-- the bits of n words from word i on; and of n sizes, each raised so that one over 1,456 comes to 2,048
unfoldable pub bits_to : List ℕ → ℕ → ℕ → ℕ
bits_to ws i zero = 0
bits_to ws i (suc n) = bit_or (bits_to ws i n) (at ws (i + n))

unfoldable pub raised_to : List ℕ → ℕ → ℕ
raised_to ws zero = 0
raised_to ws (suc n) = bit_or (raised_to ws n) (at ws (34 + n) % 2048 + 591)

-- sizes that have no more than 1,456 together have no more each: so it is of packets of one size
abbrev pub sizes_small : List ℕ → Bool
sizes_small ws = cond (leb (bits_to ws 34 16) 1456) true (ltb (bits_to ws 34 16) 2048 && ltb (raised_to ws 16) 2048)

-- every interval is in range, in a window or not
abbrev pub intervals_small : List ℕ → Bool
intervals_small ws = ltb (bit_or (bits_to ws 18 16) (bits_to ws 54 16)) (2 ^ 31)

-- What every head but a rare one meets, tested with few comparisons: values with one bound by the bits that they have together. A head that does not may still be in range.
abbrev pub few_bits : List ℕ → Bool
few_bits ws =
    ltb (bit_or (bit_or (bit_or (bit_or (bit_or (at ws 4) (at ws 5)) (at ws 16)) (at ws 17)) (at ws 77)) (at ws 78)) (2 ^ 31)
    && ltb (bit_or (bit_or (bit_or (bit_or (at ws 7) (at ws 10)) (at ws 12)) (at ws 52)) (at ws 72)) 2
    && ltb (bit_or (at ws 9) (at ws 76)) (2 ^ 32)
    && ltb (bit_or (at ws 50) (at ws 70)) 16
    && ltb (bit_or (at ws 0) (at ws 8)) (2 ^ 60)

-- a time beside its flag: 0 where that is 0, else a reading
abbrev pub beside : ℕ → ℕ → Bool
beside set time = leb time (set % 2 * 1152921504606846975)

abbrev pub beside_all : List ℕ → Bool
beside_all ws = beside (at ws 10) (at ws 11) && beside (at ws 52) (at ws 53) && beside (at ws 72) (at ws 73)

-- neither infinite nor a NaN: raised by the lowest bit of an exponent, the largest exponent comes to 2^63
abbrev pub finite : List ℕ → Bool
finite ws = ltb (bit_or (at ws 13 % 2 ^ 63 + 2 ^ 52) (at ws 14 % 2 ^ 63 + 2 ^ 52)) (2 ^ 63)

abbrev pub window_small : List ℕ → Bool
window_small ws = leb 1 (at ws 1) && leb (at ws 1) 8192 && ltb (at ws 2) (at ws 1) && leb (at ws 3) (at ws 1) && leb (at ws 6) 65535000

abbrev pub counts_small : List ℕ → Bool
counts_small ws =
    leb (at ws 15) 999
    && leb (at ws 51) 16
    && leb (at ws 71) 16
    && ltb (at ws 74) 1024
    && leb (at ws 75) 1024
    && leb 1 (at ws 76)
    && leb (at ws 76 % 2 ^ 32 + at ws 75 % 2048) (2 ^ 32)

abbrev pub quickly : List ℕ → Bool
quickly ws = few_bits ws && beside_all ws && finite ws && window_small ws && counts_small ws
