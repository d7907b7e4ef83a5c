use Rattle.acks.proofs.RttSteps.{rttSteps}
use Rattle.acks.proofs.rtt.Rtt.update.Goals as goal

pub returns : goal.returns
returns c = search rttSteps
