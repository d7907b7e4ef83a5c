use Rattle.clock.proofs.Steps.{steps}
use Rattle.clock.proofs.time.SynchronizedRemoteClock.take_sample.Goals as goal

pub returns-then-stats-lt-MAX_SAMPLES : goal.returns-then-stats-lt-MAX_SAMPLES
returns-then-stats-lt-MAX_SAMPLES c = search steps

pub returns : goal.returns
returns c = search steps
