-- One value as one word of 64 bits, and back.
use Rattle.std.specs.Prelude.{Bool, ◌&&◌, ◌||◌, not, cond, ℕ, ◌%◌, ◌^◌, eqb, ltb, ℤ, Float, Option, Some, None}
use Rattle.std.specs.Float.{binary64}
use Rattle.std.specs.Float.Ieee.{nan_bits, of_bits, to_bits}
use Rattle.numbers.specs.Circular.{signed, wrap}

-- an i64 is its two's complement
abbrev pub word_of : ℤ → ℕ
word_of z = wrap 64 z

abbrev pub whole_of : ℕ → ℤ
whole_of w = signed 64 w

-- an f64 is its bits, every NaN being 0x7ff8000000000000
abbrev pub bits_of : Float → ℕ
bits_of x = to_bits binary64 x

abbrev pub float_of : ℕ → Float
float_of w = of_bits binary64 w

-- a flag is 0 or 1
abbrev pub flag_word : Bool → ℕ
flag_word b = cond b 1 0

abbrev pub flag_of : ℕ → Bool
flag_of w = eqb w 1

-- a u32 is itself
abbrev pub number_of : ℕ → ℕ
number_of w = w % 2 ^ 32

-- a moment is two words: 0, 0 for unset, 1 and the time for a time
abbrev pub set_word : Option ℤ → ℕ
set_word None = 0
set_word (Some t) = 1

abbrev pub time_word : Option ℤ → ℕ
time_word None = 0
time_word (Some t) = word_of t

abbrev pub moment_of : ℕ → ℕ → Option ℤ
moment_of set time = cond (eqb set 1) (Some (whole_of time)) None

-- a word is formed if a value of its kind is packed to it
abbrev pub number_formed : ℕ → Bool
number_formed w = ltb w (2 ^ 32)

abbrev pub flag_formed : ℕ → Bool
flag_formed w = ltb w 2

abbrev pub float_formed : ℕ → Bool
float_formed w = not (nan_bits binary64 w) || eqb w 9221120237041090560

abbrev pub moment_formed : ℕ → ℕ → Bool
moment_formed set time = eqb set 1 || eqb set 0 && eqb time 0
