-- Refusal 1 at the C boundary: what 79 words must be besides in range, since words can be no head. The letters are those of include/pursethistle.h.
use Rattle.std.specs.Prelude.{Bool, ◌&&◌, ◌||◌, not, List, ℕ, eqb}
use Rattle.packing.specs.Packed.{at, numbers_formed}
use Rattle.packing.specs.Words.{number_formed, flag_formed, float_formed}

-- 1a: no flag is over 1: late dropping, the first drift, and whether each optional time is set
abbrev pub flags_right : List ℕ → Bool
flags_right ws = flag_formed (at ws 7) && flag_formed (at ws 12) && flag_formed (at ws 10) && flag_formed (at ws 52) && flag_formed (at ws 72)

-- 1b: no value beside an unset time
abbrev pub beside_right : ℕ → ℕ → Bool
beside_right set time = not (eqb set 0) || eqb time 0

abbrev pub times_right : List ℕ → Bool
times_right ws = beside_right (at ws 10) (at ws 11) && beside_right (at ws 52) (at ws 53) && beside_right (at ws 72) (at ws 73)

-- 1c: no NaN but 0x7ff8000000000000
abbrev pub floats_right : List ℕ → Bool
floats_right ws = float_formed (at ws 13) && float_formed (at ws 14)

-- 1d: no field of 32 bits over its type, in use or not: words 4 to 6, 9, 15 to 49, 54 to 69, 76 to 78
abbrev pub fields_right : List ℕ → Bool
fields_right ws =
    number_formed (at ws 4)
    && number_formed (at ws 5)
    && number_formed (at ws 6)
    && number_formed (at ws 9)
    && number_formed (at ws 15)
    && number_formed (at ws 16)
    && number_formed (at ws 17)
    && numbers_formed ws 18 16
    && numbers_formed ws 34 16
    && numbers_formed ws 54 16
    && number_formed (at ws 76)
    && number_formed (at ws 77)
    && number_formed (at ws 78)
