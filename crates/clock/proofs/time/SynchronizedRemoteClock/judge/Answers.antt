use Rattle.clock.proofs.Steps.{steps}
use Rattle.clock.proofs.time.SynchronizedRemoteClock.judge.Goals as goal

pub returns-then-deviation-gt-DRIFT_DEVIATION_TOLERANCE : goal.returns-then-deviation-gt-DRIFT_DEVIATION_TOLERANCE
returns-then-deviation-gt-DRIFT_DEVIATION_TOLERANCE c = search steps

pub returns : goal.returns
returns c = search steps
