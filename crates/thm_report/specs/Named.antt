-- A loss report read back from its words: 01, "Window", "a single number; a run of two or more consecutive mod 2^31 as
-- first with bit 31 set, then last".
use Rattle.std.specs.Prelude.{Bool, cond, List, [], ◌∷◌, ◌++◌, ℕ, zero, suc, ◌+◌, ◌-◌, ◌^◌, ltb}
use Rattle.numbers.specs.Circular.{distance, sum}
use Rattle.window.specs.Window.{number_in}
use Rattle.window.specs.declared.Window.{Window}

-- n numbers from the first on, consecutive mod 2^31
unfoldable pub numbers_from : ℕ → ℕ → List ℕ
numbers_from first zero = []
numbers_from first (suc n) = numbers_from first n ++ (sum 31 first n ∷ [])

-- a run: all numbers from first to last
abbrev pub through : ℕ → ℕ → List ℕ
through first last = numbers_from first (distance 31 last first + 1)

-- after the first word of a run its last is still to come
pub data Pending : Type 0 where
  none : Pending
  run : ℕ → Pending

-- a word below 2^31 is itself; a word with bit 31 set and the next one are a run
unfoldable pub numbers_after : Pending → List ℕ → List ℕ
numbers_after p [] = []
numbers_after none (a ∷ ws) = cond (ltb a (2 ^ 31)) (a ∷ numbers_after none ws) (numbers_after (run (a - 2 ^ 31)) ws)
numbers_after (run first) (a ∷ ws) = through first a ++ numbers_after none ws

-- the numbers that words name, in order
abbrev pub numbers_in : List ℕ → List ℕ
numbers_in ws = numbers_after none ws

-- the numbers of those of the first n entries that are due, in order
unfoldable pub due_numbers : Window → (ℕ → Bool) → ℕ → List ℕ
due_numbers w due zero = []
due_numbers w due (suc i) = due_numbers w due i ++ cond (due i) (number_in w i ∷ []) []
