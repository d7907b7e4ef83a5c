use Rattle.trace.proofs.Steps.{runs}
use Rattle.trace.proofs.advance.Goals as goal

pub returns : goal.returns
returns c = search runs
