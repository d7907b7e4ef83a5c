use Rattle.step.proofs.Left.{leaving}
use Rattle.step.proofs.pop.Goals as goal

pub returns : goal.returns
returns c = search leaving
