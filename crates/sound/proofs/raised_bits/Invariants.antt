use mathlib.Core.Path.{◌≡◌}
use Rattle.sound.specs.Sound.{raised_to}
use Rattle.sound.proofs.raised_bits.Given as goal

abbrev pub invariant-loop-i : goal.invariant-loop-i
invariant-loop-i l = l.all ≡ raised_to l.ws l.i
