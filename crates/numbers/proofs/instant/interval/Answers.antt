use Rattle.numbers.proofs.Steps.{steps}
use Rattle.numbers.proofs.instant.interval.Goals as goal

pub returns : goal.returns
returns c = search steps
