use Rattle.acks.proofs.HistorySteps.{histories}
use Rattle.acks.proofs.history.is_recent.Goals as goal

pub returns : goal.returns
returns c = search histories
