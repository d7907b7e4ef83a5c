use Rattle.std.proofs.Common.{rules}
use Rattle.clock.specs.Samples.{deviation_of}
use Rattle.clock.proofs.stats.deviation.Goals as goal

pub returns : goal.returns
unfolding deviation_of
returns c = search rules
