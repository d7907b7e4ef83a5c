use Rattle.window_pop.proofs.Lates.{lates}
use Rattle.window_pop.proofs.pop.due.Goals as goal

pub instant_from-requires : goal.instant_from-requires
instant_from-requires c = search lates

pub overflow_cast-result : goal.overflow_cast-result
overflow_cast-result c = search lates

pub overflow_add-result : goal.overflow_add-result
overflow_add-result c = search lates

pub returns : goal.returns
returns c = search lates
