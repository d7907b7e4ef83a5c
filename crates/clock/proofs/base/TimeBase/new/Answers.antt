-- `TimeBase::new` meets its contract. Assumes nothing.
use Rattle.std.proofs.Common.{to_z-of_z}
use Rattle.clock.specs.Base.{fresh_base}
use Rattle.clock.proofs.base.TimeBase.new.Goals as goal

pub returns : goal.returns
unfolding fresh_base
returns c = rw (to_z-of_z c.ranges.start)
