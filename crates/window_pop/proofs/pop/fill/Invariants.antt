use mathlib.Core.Path.{◌≡◌}
use Prim.Native.Nat.{◌*◌, ◌≤◌}
use Rattle.slots.specs.Ring.{slot_of}
use Rattle.window_pop.specs.Pop.{filled}
use Rattle.window_pop.proofs.pop.fill.Given as goal

abbrev pub invariant-loop : goal.invariant-loop
invariant-loop l =
    (l.s ≡ slot_of l.capacity l.start l.counter) × (l.at ≤ 1456 * l.counter) × (l.at ≡ (filled l.capacity l.start l.words l.bytes l.initial.out l.counter).at) × (l.out ≡ (filled l.capacity l.start l.words l.bytes l.initial.out l.counter).out)
