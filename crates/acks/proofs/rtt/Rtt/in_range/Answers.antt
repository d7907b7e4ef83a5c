use Rattle.acks.proofs.RttSteps.{rttSteps}
use Rattle.acks.proofs.rtt.Rtt.in_range.Goals as goal

pub returns : goal.returns
returns c = search rttSteps
