use mathlib.Core.Path.{◌≡◌}
use Prim.Native.Nat.{◌-◌, ◌≤◌}
use Rattle.intervals.specs.Median.{median_of}
use Rattle.intervals.specs.Inner.{pick}
use Rattle.intervals.proofs.median.median.Given as goal

abbrev pub invariant-loop-i : goal.invariant-loop-i
invariant-loop-i l = (l.i ≤ 15) × (median_of l.values l.k ≡ pick l.values l.k l.i (15 - l.i))
