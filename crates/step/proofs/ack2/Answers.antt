use Rattle.step.proofs.Left.{leaving}
use Rattle.step.proofs.ack2.Goals as goal

pub returns : goal.returns
returns c = search leaving
