use Rattle.acks.proofs.HistorySteps.{histories}
use Rattle.acks.proofs.history.first_kept.Goals as goal

pub returns-then-not-is_expired : goal.returns-then-not-is_expired
returns-then-not-is_expired c = search histories

pub loop-i-preserved : goal.loop-i-preserved
loop-i-preserved c = search histories

pub returns : goal.returns
returns c = search histories
