-- The premises of the words' functions: no rule of 01 of its own.
use Rattle.std.specs.Prelude.{◌^◌, ◌<◌, ◌≤◌}
use Rattle.slots.specs.declared.entry.Entry.{Entry}
use Rattle.slots.specs.declared.entry.Entry.TheVariants.{Lost, Received, GivenUp}

-- the numbers of an entry that can be written
abbrev pub Fit : Entry → Type 0
Fit (Lost k f) = (k < 2 ^ 16) × (f < 2 ^ 60)
Fit (Received n l m t) = (n ≤ 1456) × (l < 4) × (m < 2 ^ 26) × (t < 2 ^ 32)
Fit GivenUp = Unit {0}
