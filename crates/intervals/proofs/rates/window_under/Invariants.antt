use mathlib.Core.Path.{◌≡◌}
use Prim.Native.Nat.{◌≤◌}
use Rattle.intervals.specs.Rates.{window_of, all_under}
use Rattle.intervals.proofs.rates.window_under.Given as goal

abbrev pub invariant-loop-n : goal.invariant-loop-n
invariant-loop-n l = (l.n ≤ l.count) × (l.ok ≡ all_under l.bound (window_of l.values l.at l.n))
