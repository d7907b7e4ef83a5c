use Rattle.acks.proofs.HistorySteps.{histories}
use Rattle.acks.proofs.history.History.in_range.Goals as goal

pub returns-then-self-gt1024 : goal.returns-then-self-gt1024
returns-then-self-gt1024 c = search histories

pub returns : goal.returns
returns c = search histories
