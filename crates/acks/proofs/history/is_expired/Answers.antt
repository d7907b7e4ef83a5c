use Rattle.acks.proofs.HistorySteps.{expiries}
use Rattle.acks.proofs.history.is_expired.Goals as goal

pub overflow_add-result : goal.overflow_add-result
overflow_add-result c = search expiries

pub returns : goal.returns
returns c = search expiries
