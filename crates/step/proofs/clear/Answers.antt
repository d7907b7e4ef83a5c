use Rattle.step.proofs.Left.{leaving}
use Rattle.step.proofs.clear.Goals as goal

pub returns : goal.returns
returns c = search leaving
