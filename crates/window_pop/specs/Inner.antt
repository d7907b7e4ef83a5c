-- `pop_of` and `walk_from` as the code has them: no rule of 01 of its own.
use Rattle.std.specs.Prelude.{Bool, not, ◌&&◌, cond, List, ℕ, eqb, ℤ, Option, Some}
use Rattle.clock.specs.declared.base.TimeBase.{TimeBase}
use Rattle.slots.specs.Words.{is_received}
use Rattle.slots.specs.declared.entry.Entry.{Entry}
use Rattle.slots.specs.declared.entry.Entry.TheVariants.{GivenUp}
use Rattle.window.specs.Window.{entry_in}
use Rattle.window.specs.declared.Window.{Window}
use Rattle.window_pop.specs.Pop.{is_late, walked_to}
use Rattle.window_pop.specs.declared.pop.Walk.{Walk}

-- an entry that ends the walk, and the walk after one that does not: entry i
unfoldable pub is_kept : TimeBase → ℤ → Entry → Bool
is_kept base limit e = is_received e && not (is_late base limit e)

unfoldable pub walk_past : Option Walk → ℕ → Entry → Option Walk
walk_past k i e = cond (is_received e) (Some (walked_to k i e)) k

-- the front, or given up where there is none: `pop_of` by one test, as the code has it
unfoldable pub front_in : Window → List ℕ → Entry
front_in w ws = cond (eqb w.held 0) GivenUp (entry_in w ws 0)
