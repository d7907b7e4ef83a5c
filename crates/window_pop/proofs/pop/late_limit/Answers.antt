use Rattle.window_pop.proofs.Lates.{lates}
use Rattle.window_pop.proofs.pop.late_limit.Goals as goal

pub overflow_cast-result : goal.overflow_cast-result
overflow_cast-result c = search lates

pub overflow_sub-result : goal.overflow_sub-result
overflow_sub-result c = search lates

pub overflow_sub-result-2 : goal.overflow_sub-result-2
overflow_sub-result-2 c = search lates

pub returns : goal.returns
returns c = search lates
