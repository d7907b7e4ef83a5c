-- The refusals that say that an area is short, and the areas of one call: 01, "Refused, in order of test".
use Rattle.std.specs.Prelude.{Bool, ◌||◌, ℕ, eqb}
use Rattle.step.specs.Step.{State, Lent, Ended}
use Rattle.trace.specs.Trace.{Areas}
use Rattle.trace.specs.Turn.{areas_of}

-- 2 AreaShort, 11 OutShort, 12 ListShort
abbrev pub says_short : (refusal : ℕ) → Bool
says_short n = eqb n 2 || eqb n 11 || eqb n 12

-- the areas that a call is lent, and those that it leaves
abbrev pub lent_in : State → Lent → Areas
lent_in s l = areas_of s.slots s.payloads s.history l.output l.list

abbrev pub left_in : Ended → Areas
left_in e = areas_of e.state.slots e.state.payloads e.state.history e.output e.list
