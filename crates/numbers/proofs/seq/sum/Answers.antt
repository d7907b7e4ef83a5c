use Rattle.std.proofs.Common.{rules}
use Rattle.numbers.specs.Circular.{sum}
use Rattle.numbers.proofs.seq.sum.Goals as goal

pub returns : goal.returns
unfolding sum
returns c = search rules
