use Rattle.feedback.proofs.Losses.{losses}
use Rattle.feedback.proofs.loss.report.Goals as goal

pub returns : goal.returns
returns c = search losses
