-- For the loops that walk the ring: no rule of 01 of its own.
use Rattle.std.specs.Prelude.{cond, ℕ, ◌+◌, ltb}

-- the slot of the next entry, without a division
abbrev pub next_slot : ℕ → ℕ → ℕ
next_slot capacity s = cond (ltb (s + 1) capacity) (s + 1) 0
