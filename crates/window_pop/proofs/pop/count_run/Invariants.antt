use mathlib.Core.Path.{◌≡◌}
use Prim.Native.Nat.{◌-◌, ◌*◌, ◌≤◌}
use Rattle.slots.specs.Ring.{slot_of}
use Rattle.window_pop.specs.Pop.{run_from}
use Rattle.window_pop.proofs.pop.count_run.Given as goal

abbrev pub invariant-loop-i : goal.invariant-loop-i
invariant-loop-i l =
    (l.s ≡ slot_of l.capacity l.start l.i) × (l.total ≤ 1456 * l.i) × (run_from l.capacity l.start l.words l.message 0 0 l.held ≡ run_from l.capacity l.start l.words l.message l.i l.total (l.held - l.i))
