use Rattle.numbers.proofs.Steps.{steps}
use Rattle.numbers.proofs.seq.is_before.Goals as goal

pub returns : goal.returns
returns c = search steps
