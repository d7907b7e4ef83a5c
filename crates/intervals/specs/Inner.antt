-- For the loops of the code: no rule of 01 of its own.
use Rattle.std.specs.Prelude.{Bool, ◌&&◌, cond, List, [], ◌∷◌, ℕ, zero, suc, ◌+◌, ltb, leb, get_or}

-- how many are below b; the code counts, and does not sort
unfoldable pub below : List ℕ → ℕ → ℕ
below [] b = 0
below (x ∷ l) b = cond (ltb x b) 1 0 + below l b

-- v has index k if at most k are below it, and more than k are not above it
abbrev pub has_index : List ℕ → ℕ → ℕ → Bool
has_index l k v = leb (below l v) k && ltb k (below l (v + 1))

-- from place i on, the first of n values that has index k, else the value after them
unfoldable pub pick : List ℕ → ℕ → ℕ → ℕ → ℕ
pick l k i zero = get_or l i 0
pick l k i (suc n) = cond (has_index l k (get_or l i 0)) (get_or l i 0) (pick l k (i + 1) n)
