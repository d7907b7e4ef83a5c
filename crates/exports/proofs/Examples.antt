-- Worked examples: a receiver made on any words, and one refused with 15, which leaves them. Assumes nothing.
use mathlib.Core.Path.{◌≡◌, refl}
use mathlib.Core.Bool.{true}
use mathlib.Core.List.{List, [], ◌∷◌}
use Prim.Native.Nat.{ℕ}
use lib.IntN.{ℤ, pos}
use Rattle.head.specs.Head.{fresh_head, made_of}
use Rattle.packing.specs.Packed.{pack_of}
use Rattle.exports.specs.Calls.{left, after, new_of}

-- the cells of an answer that has a code and no values
abbrev bare : ℕ → List ℤ
bare code = pos code ∷ pos 0 ∷ pos 0 ∷ pos 0 ∷ pos 0 ∷ pos 0 ∷ pos 0 ∷ pos 0 ∷ pos 0 ∷ pos 0 ∷ []

module _ (ws : List ℕ) where
  made : new_of ws (pos 5) 120000 true 7 32 ≡ after ws 0 (fresh_head (pos 5) 120000 true 7 32) (bare 14) []
  unfolding new_of made_of
  made = refl

  made-words : (new_of ws (pos 5) 120000 true 7 32).words ≡ pack_of (fresh_head (pos 5) 120000 true 7 32)
  unfolding new_of made_of
  made-words = refl

  bad-capacity : new_of ws (pos 5) 120000 true 7 0 ≡ left 15 ws (bare 3) []
  unfolding new_of made_of
  bad-capacity = refl
