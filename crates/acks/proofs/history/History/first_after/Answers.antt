use Rattle.acks.proofs.HistorySteps.{histories}
use Rattle.acks.proofs.history.History.first_after.Goals as goal

pub returns-then-self-eq0 : goal.returns-then-self-eq0
returns-then-self-eq0 c = search histories

pub returns : goal.returns
returns c = search histories
