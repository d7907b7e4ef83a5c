use Rattle.acks.proofs.HistorySteps.{histories}
use Rattle.acks.proofs.history.write_ack.Goals as goal

pub returns : goal.returns
returns c = search histories
