use mathlib.Core.Path.{◌≡◌}
use Prim.Native.Nat.{◌*◌, ◌≤◌}
use Rattle.intervals.specs.Rates.{kept_of}
use Rattle.intervals.proofs.rates.keep.Given as goal

abbrev pub invariant-loop-i : goal.invariant-loop-i
invariant-loop-i l =
    (l.i ≤ 16) × (l.k.count ≤ l.i) × (l.k.sum ≤ l.i * 4294967296) × (l.k.bytes ≤ l.i * 4294967296) × (l.k ≡ kept_of l.gaps l.sizes l.ai l.i)
