use Rattle.clock.proofs.Steps.{steps}
use Rattle.clock.proofs.time.SynchronizedRemoteClock.in_range.Goals as goal

pub returns : goal.returns
returns c = search steps
