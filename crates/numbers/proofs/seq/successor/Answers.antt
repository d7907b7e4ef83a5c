-- `seq::successor` meets its contract. Assumes nothing.
use Rattle.numbers.specs.Circular.{successor}
use Rattle.numbers.proofs.seq.successor.Goals as goal

pub returns : goal.returns
unfolding successor
returns c = c.sum.ensures
