use mathlib.Core.Path.{◌≡◌}
use Prim.Native.Nat.{◌+◌}
use lib.ListN.{length}
use Rattle.slots.specs.Ring.{slot_of}
use Rattle.window.specs.Push.{with_lost}
use Rattle.window.proofs.push.append_lost.Given as goal

abbrev pub invariant-loop : goal.invariant-loop
invariant-loop l =
    (l.s ≡ slot_of l.capacity l.start (l.from + l.counter)) × (length l.words ≡ length l.initial.words) × (l.words ≡ with_lost l.capacity l.start l.initial.words l.time l.from l.counter)
