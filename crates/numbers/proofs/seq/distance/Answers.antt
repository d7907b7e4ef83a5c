use Rattle.std.proofs.Common.{rules}
use Rattle.numbers.specs.Circular.{distance}
use Rattle.numbers.proofs.seq.distance.Goals as goal

pub returns : goal.returns
unfolding distance
returns c = search rules
