use mathlib.Core.Path.{◌≡◌}
use Prim.Native.Nat.{◌-◌}
use Rattle.acks.specs.History.{first_kept}
use Rattle.acks.proofs.history.first_kept.Given as goal

abbrev pub invariant-loop-i : goal.invariant-loop-i
invariant-loop-i l =
    first_kept l.area l.start l.time l.wait 0 l.newest ≡ first_kept l.area l.start l.time l.wait l.i (l.newest - l.i)
