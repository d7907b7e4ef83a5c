-- `OnlineStats::add` meets its contract: the machine reads x back from its bits. Assumes nothing.
use Rattle.std.proofs.Common.{to_z-of_z, rules}
use Rattle.clock.specs.Samples.{sampled, mean_with, squares_with, distance_of}
use Rattle.clock.proofs.stats.OnlineStats.add.Goals as goal

pub overflow_add-n : goal.overflow_add-n
overflow_add-n c = search rules

pub int_to_float-v : goal.int_to_float-v
int_to_float-v c = search rules

pub int_to_float-mean : goal.int_to_float-mean
int_to_float-mean c = search rules

pub returns : goal.returns
unfolding sampled mean_with squares_with distance_of
returns c = rw (to_z-of_z c.before.before.before.before.ranges.x)
