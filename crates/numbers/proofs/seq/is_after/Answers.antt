use Rattle.numbers.proofs.Steps.{steps}
use Rattle.numbers.proofs.seq.is_after.Goals as goal

pub returns : goal.returns
returns c = search steps
