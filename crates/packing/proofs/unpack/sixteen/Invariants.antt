use mathlib.Core.Path.{◌≡◌}
use Rattle.packing.specs.Puts.{read_numbers}
use Rattle.packing.proofs.unpack.sixteen.Given as goal

abbrev pub invariant-loop-i : goal.invariant-loop-i
invariant-loop-i l = l.n-items ≡ read_numbers l.ws l.at l.i
