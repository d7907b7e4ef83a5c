use mathlib.Core.Path.{◌≡◌}
use mathlib.Core.Bool.{true}
use Rattle.packing.specs.Packed.{numbers_formed}
use Rattle.packing.specs.Puts.{put_numbers}
use Rattle.packing.proofs.pack.put_sixteen.Given as goal

abbrev pub invariant-loop-i : goal.invariant-loop-i
invariant-loop-i l = (l.n-items ≡ l.fn.numbers) × (l.ws ≡ put_numbers l.initial.ws l.at l.n-items l.i) × (numbers_formed l.n-items 0 l.i ≡ true)
