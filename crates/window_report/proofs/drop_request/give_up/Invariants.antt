use mathlib.Core.Path.{◌≡◌}
use Prim.Native.Nat.{◌-◌, ◌≤◌}
use Rattle.slots.specs.Ring.{slot_of}
use Rattle.window_report.specs.Drop.{drop_ended, sweep}
use Rattle.window_report.proofs.drop_request.give_up.Given as goal

abbrev pub invariant-loop : goal.invariant-loop
invariant-loop l =
    (l.from ≤ l.counter) × (l.s ≡ slot_of l.capacity l.start l.counter) × (drop_ended l.n l.words ≡ sweep l.capacity l.start l.initial.words l.from (l.counter - l.from))
