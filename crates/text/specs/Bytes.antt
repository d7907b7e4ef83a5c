-- A text as bytes, in ASCII.
use Rattle.std.specs.Prelude.{List, [], ◌∷◌, ℕ}
use Prim.Native.Char.{code}
use Prim.Native.String as strings
use Prim.Native.String.{String}

abbrev pub bytes : String → List ℕ
bytes strings.[] = []
bytes (strings.◌∷◌ c s) = code c ∷ bytes s
