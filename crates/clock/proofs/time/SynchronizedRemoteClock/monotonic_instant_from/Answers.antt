use Rattle.clock.proofs.Steps.{steps}
use Rattle.clock.proofs.time.SynchronizedRemoteClock.monotonic_instant_from.Goals as goal

pub returns : goal.returns
returns c = search steps
