use Rattle.trace.proofs.Steps.{runs}
use Rattle.trace.proofs.end.Goals as goal

pub returns : goal.returns
returns c = search runs
