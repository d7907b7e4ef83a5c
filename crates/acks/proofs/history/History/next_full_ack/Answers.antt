use Rattle.acks.proofs.HistorySteps.{histories}
use Rattle.acks.proofs.history.History.next_full_ack.Goals as goal

pub returns-then-none_due : goal.returns-then-none_due
returns-then-none_due c = search histories

pub returns-then-is_worn : goal.returns-then-is_worn
returns-then-is_worn c = search histories

pub append-requires : goal.append-requires
append-requires c = search histories

pub returns : goal.returns
returns c = search histories
