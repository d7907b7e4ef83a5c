-- Two functions on lists, for entries here and for places in the ledger.
use Rattle.std.specs.Prelude.{Bool, ◌&&◌, cond, List, [], ◌∷◌, ℕ, suc, ltb, leb}

-- how many, from the front on, pass a test before the first that does not
unfoldable pub run_of : {A : Type 0} → (A → Bool) → List A → ℕ
run_of t [] = 0
run_of t (x ∷ xs) = cond (t x) (suc (run_of t xs)) 0

-- f, on those from index `from` to before `to`; the first of the list has index i
unfoldable pub changed_in : {A : Type 0} → (A → A) → ℕ → ℕ → ℕ → List A → List A
changed_in f from to i [] = []
changed_in f from to i (x ∷ xs) = cond (leb from i && ltb i to) (f x) x ∷ changed_in f from to (suc i) xs
