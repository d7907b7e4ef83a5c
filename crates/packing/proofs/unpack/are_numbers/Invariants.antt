use mathlib.Core.Path.{◌≡◌}
use Rattle.packing.specs.Packed.{numbers_formed}
use Rattle.packing.proofs.unpack.are_numbers.Given as goal

abbrev pub invariant-loop-i : goal.invariant-loop-i
invariant-loop-i l = l.ok ≡ numbers_formed l.ws l.at l.i
