use mathlib.Core.Path.{◌≡◌}
use Rattle.std.specs.Prelude.{None}
use Prim.Native.Nat.{◌-◌}
use Rattle.slots.specs.Ring.{slot_of}
use Rattle.window_pop.specs.Pop.{walk_from}
use Rattle.window_pop.proofs.pop.walk_late.Given as goal

abbrev pub invariant-loop-i : goal.invariant-loop-i
invariant-loop-i l =
    (l.s ≡ slot_of l.capacity l.start l.i) × (walk_from l.base l.limit l.capacity l.start l.words 0 None l.held ≡ walk_from l.base l.limit l.capacity l.start l.words l.i l.k (l.held - l.i))
