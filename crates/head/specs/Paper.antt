-- An answer on paper: the refusal's number (01, "Refused, in order of test"), the word and the values in order (01, "Trace, mark DLT").
-- Each call's outcome holds its line beside the answer.
use Rattle.std.specs.Prelude.{Bool, cond, List, [], ◌∷◌, ℕ, ℤ, pos, Float}
use Rattle.head.specs.Rules.{number_of}
use Rattle.head.specs.declared.refusal.Refusal.{Refusal}
use Rattle.head.specs.declared.refusal.Refusal.TheVariants.{PacketTooEarly}

-- the words of the trace, and those of the calls that it does not have: making, room, the second question of show
pub data Word : Type 0 where
  got light loss refused message late report ack rtt gone adjusted unsteady clear none : Word
  made room received other : Word

-- a value: a whole number, or `-` for no rate
pub data Value : Type 0 where
  whole : ℤ → Value
  dash : Value

abbrev pub plain : ℕ → Value
plain n = whole (pos n)

-- an answer on paper: its word, the number of its refusal (0 for none), its values in order, and those that are f64
pub record Line : Type 0 where
  pub word : Word
  pub refusal : ℕ
  pub values : List Value
  pub exact : List Float

abbrev pub said : Word → List Value → Line
said w vs = record { word = w; refusal = 0; values = vs; exact = [] }

-- a refusal's values: 8 has its two numbers, room and need
abbrev pub refusal_values : Refusal → List Value
refusal_values (PacketTooEarly places need) = plain places ∷ plain need ∷ []
refusal_values _ = []

abbrev pub refused_line : Refusal → Line
refused_line e = record { word = refused; refusal = number_of e; values = refusal_values e; exact = [] }

-- 1 if it holds
abbrev pub flag : Bool → Value
flag b = plain (cond b 1 0)
