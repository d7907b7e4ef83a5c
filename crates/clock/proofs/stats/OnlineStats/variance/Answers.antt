-- `OnlineStats::variance` meets its contract. Assumes nothing.
use Rattle.std.proofs.Common.{refl, rules}
use Rattle.clock.specs.Samples.{variance_of}
use Rattle.clock.proofs.stats.OnlineStats.variance.Goals as goal

pub int_to_float-result : goal.int_to_float-result
int_to_float-result c = search rules

pub returns : goal.returns
unfolding variance_of
returns c = refl
