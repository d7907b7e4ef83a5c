use Rattle.acks.proofs.HistorySteps.{histories}
use Rattle.acks.proofs.history.History.next_light_ack.Goals as goal

pub returns-then-is_before : goal.returns-then-is_before
returns-then-is_before c = search histories

pub returns : goal.returns
returns c = search histories
