-- A line of the trace as bytes, whatever its word: 01, "Trace, mark DLT", "After the record's number (from 1) a line
-- has ..", and how numbers and line ends are written (A70, A75).
use Rattle.std.specs.Prelude.{List, [], ◌∷◌, ◌++◌, ℕ}
use Rattle.text.specs.Bytes.{bytes}
use Rattle.text.specs.Decimal.{decimal, signed_decimal}
use Rattle.head.specs.Paper.{Value, whole, dash}

-- a value: a number, or `-`
abbrev pub value_bytes : Value → List ℕ
value_bytes (whole z) = signed_decimal z
value_bytes dash = bytes "-"

-- values, each after a space
unfoldable pub spaced : List Value → List ℕ
spaced [] = []
spaced (v ∷ vs) = (bytes " " ++ value_bytes v) ++ spaced vs

-- and the line's end
unfoldable pub closed : List Value → List ℕ
closed vs = spaced vs ++ bytes "\n"

-- the record's number, the word, the values
unfoldable pub line_of : ℕ → List ℕ → List Value → List ℕ
line_of n word vs = decimal n ++ (bytes " " ++ word) ++ closed vs
