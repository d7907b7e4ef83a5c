-- `spell` meets its contract. Assumes nothing.
use mathlib.Core.Path.{◌≡◌}
use mathlib.Core.List.{◌++◌}
use Prim.Native.Nat.{◌≤◌}
use lib.ListN.{length, drop}
use Rattle.text.specs.Decimal.{decimal}
use Rattle.text.proofs.spell.Given as goal

abbrev pub invariant-loop-rest : goal.invariant-loop-rest
invariant-loop-rest l = (l.i ≤ 20) × (length l.area ≡ 20) × (length (decimal l.rest) ≤ l.i) × (decimal l.rest ++ drop l.i l.area ≡ decimal l.n)

abbrev pub decreases-loop-rest : goal.decreases-loop-rest
decreases-loop-rest l = l.rest
