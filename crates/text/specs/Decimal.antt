-- Numbers as the lines of 01, "Trace, mark DLT", write them: ASCII digits with none that is not needed, and `-` before a number below zero (A70).
use Rattle.std.specs.Prelude.{cond, List, [], ◌∷◌, ◌++◌, ℕ, zero, suc, ◌+◌, ◌/◌, ◌%◌, ltb, ℤ, pos, negsuc}
use Rattle.text.specs.Bytes.{bytes}

-- the digits of n, at most k of them (the `let` is computed only where it is asked for)
unfoldable pub digits : ℕ → ℕ → List ℕ
digits zero n = []
digits (suc k) n = let more = digits k (n / 10) ++ ((48 + n % 10) ∷ []) in cond (ltb n 10) ((48 + n) ∷ []) more

-- no number has more digits than n + 1
unfoldable pub decimal : ℕ → List ℕ
decimal n = digits (suc n) n

unfoldable pub signed_decimal : ℤ → List ℕ
signed_decimal (pos n) = decimal n
signed_decimal (negsuc n) = bytes "-" ++ decimal (suc n)
