use Rattle.numbers.proofs.Steps.{steps}
use Rattle.numbers.proofs.stamp.difference.Goals as goal

pub returns : goal.returns
returns c = search steps
