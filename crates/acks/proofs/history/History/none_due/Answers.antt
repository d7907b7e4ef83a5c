use Rattle.acks.proofs.HistorySteps.{histories}
use Rattle.acks.proofs.history.History.none_due.Goals as goal

pub returns-then-self-lrsn : goal.returns-then-self-lrsn
returns-then-self-lrsn c = search histories

pub returns-then-self-eq0 : goal.returns-then-self-eq0
returns-then-self-eq0 c = search histories

pub returns : goal.returns
returns c = search histories
