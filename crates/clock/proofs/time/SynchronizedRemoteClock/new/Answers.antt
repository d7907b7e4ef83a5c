use Rattle.clock.proofs.Steps.{steps}
use Rattle.clock.proofs.time.SynchronizedRemoteClock.new.Goals as goal

pub returns : goal.returns
returns c = search steps
