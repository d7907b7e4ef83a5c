use Rattle.dlt.proofs.Steps.{steps}
use Rattle.dlt.proofs.record.read.Goals as goal

pub returns-in_err-ok_or : goal.returns-in_err-ok_or
returns-in_err-ok_or c = search steps
