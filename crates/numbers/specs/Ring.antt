-- The places of a ring: 01, "Head and lent areas". Slots, history entries and the intervals of a window lie in one.
use Rattle.std.specs.Prelude.{ℕ, ◌+◌, ◌%◌}

-- the place i after the start, in a ring of n
abbrev pub place_in : ℕ → ℕ → ℕ → ℕ
place_in n start i = (start + i) % n
