use Rattle.clock.proofs.Steps.{steps}
use Rattle.clock.proofs.time.SynchronizedRemoteClock.synchronize.Goals as goal

pub returns-then-self : goal.returns-then-self
returns-then-self c = search steps

pub returns : goal.returns
returns c = search steps
