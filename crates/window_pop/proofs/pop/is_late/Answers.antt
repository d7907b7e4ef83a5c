use Rattle.window_pop.proofs.Lates.{lates}
use Rattle.window_pop.proofs.pop.is_late.Goals as goal

pub is_first-requires : goal.is_first-requires
is_first-requires c = search lates

pub stamp_in-requires : goal.stamp_in-requires
stamp_in-requires c = search lates

pub instant_from-requires : goal.instant_from-requires
instant_from-requires c = search lates

pub returns-then-is_first : goal.returns-then-is_first
returns-then-is_first c = search lates

pub returns : goal.returns
returns c = search lates
