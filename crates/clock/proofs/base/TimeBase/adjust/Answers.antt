use Rattle.clock.proofs.Adjusting.{adjusting}
use Rattle.clock.proofs.base.TimeBase.adjust.Goals as goal

pub timestamp_from-requires : goal.timestamp_from-requires
timestamp_from-requires c = search adjusting

pub returns-then-shifted-now : goal.returns-then-shifted-now
returns-then-shifted-now c = search adjusting

pub returns-then-in_reference : goal.returns-then-in_reference
returns-then-in_reference c = search adjusting

pub returns : goal.returns
returns c = search adjusting
