use Rattle.acks.proofs.HistorySteps.{histories}
use Rattle.acks.proofs.history.History.is_worn.Goals as goal

pub returns : goal.returns
returns c = search histories
