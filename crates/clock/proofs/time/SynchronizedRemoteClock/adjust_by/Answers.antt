use Rattle.std.proofs.Common.{rules}
use Rattle.clock.specs.Sync.{adjusted_by}
use Rattle.clock.proofs.time.SynchronizedRemoteClock.adjust_by.Goals as goal

pub returns-in_err-base : goal.returns-in_err-base
unfolding adjusted_by
returns-in_err-base c = search rules

pub returns : goal.returns
unfolding adjusted_by
returns c = search rules
