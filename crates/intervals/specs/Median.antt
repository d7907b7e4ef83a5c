-- The median of a window, by its index in the sorted window: 01, "ACKs, RTT, rates", "median index 8", "median index 7".
use Rattle.std.specs.Prelude.{cond, List, [], ◌∷◌, ℕ, leb, get_or}

unfoldable pub insert : ℕ → List ℕ → List ℕ
insert x [] = x ∷ []
insert x (y ∷ l) = cond (leb x y) (x ∷ y ∷ l) (y ∷ insert x l)

unfoldable pub sort : List ℕ → List ℕ
sort [] = []
sort (x ∷ l) = insert x (sort l)

-- median index k
unfoldable pub median_of : List ℕ → ℕ → ℕ
median_of l k = get_or (sort l) k 0
