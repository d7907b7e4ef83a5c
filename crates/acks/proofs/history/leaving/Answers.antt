use Rattle.acks.proofs.HistorySteps.{histories}
use Rattle.acks.proofs.history.leaving.Goals as goal

pub overflow_sub-count : goal.overflow_sub-count
overflow_sub-count c = search histories

pub returns-then-count-gone-eq1024 : goal.returns-then-count-gone-eq1024
returns-then-count-gone-eq1024 c = search histories

pub returns-else-count-gone-eq1024 : goal.returns-else-count-gone-eq1024
returns-else-count-gone-eq1024 c = search histories
