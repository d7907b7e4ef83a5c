use mathlib.Core.Path.{◌≡◌}
use Prim.Native.Nat.{◌-◌, ◌≤◌}
use Rattle.slots.specs.Ring.{slot_of}
use Rattle.window.specs.Window.{first_gap}
use Rattle.window.proofs.first_gap.Given as goal

abbrev pub invariant-loop-i : goal.invariant-loop-i
invariant-loop-i l =
    (l.from ≤ l.i) × (l.i ≤ l.held) × (l.s ≡ slot_of l.capacity l.start l.i) × (first_gap l.capacity l.start l.words l.from (l.held - l.from) ≡ first_gap l.capacity l.start l.words l.i (l.held - l.i))
