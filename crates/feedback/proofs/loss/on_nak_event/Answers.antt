use Rattle.feedback.proofs.Losses.{losses}
use Rattle.feedback.proofs.loss.on_nak_event.Goals as goal

pub returns-in-Err : goal.returns-in-Err
returns-in-Err c = search losses

pub report-requires-2 : goal.report-requires-2
report-requires-2 c = search losses

pub returns : goal.returns
returns c = search losses
