use Rattle.std.proofs.Common.{rules}
use Rattle.clock.specs.Samples.{truncated_of}
use Rattle.clock.proofs.stats.truncated.Goals as goal

pub returns : goal.returns
unfolding truncated_of
returns c = search rules
