use Rattle.acks.proofs.HistorySteps.{histories}
use Rattle.acks.proofs.history.History.calculate_ack2.Goals as goal

pub returns-then-number-self : goal.returns-then-number-self
returns-then-number-self c = search histories

pub returns-then-self-i : goal.returns-then-self-i
returns-then-self-i c = search histories

pub returns : goal.returns
returns c = search histories
