use mathlib.Core.Path.{◌≡◌}
use Rattle.sound.specs.Sound.{bits_to}
use Rattle.sound.proofs.bits.Given as goal

abbrev pub invariant-loop-i : goal.invariant-loop-i
invariant-loop-i l = l.all ≡ bits_to l.ws l.at l.i
