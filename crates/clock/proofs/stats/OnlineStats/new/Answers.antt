-- `OnlineStats::new` meets its contract: the pattern 0 is +0. Assumes nothing.
use Rattle.std.proofs.Common.{refl}
use lib.Ieee.{of_bits}
use Rattle.clock.specs.Samples.{no_samples}
use Rattle.clock.proofs.stats.OnlineStats.new.Goals as goal

pub returns : goal.returns
unfolding no_samples of_bits
returns c = refl
