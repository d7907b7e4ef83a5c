use Rattle.dlt.proofs.Steps.{steps}
use Rattle.dlt.proofs.record.data.Goals as goal

pub returns-then-n-gt1456 : goal.returns-then-n-gt1456
returns-then-n-gt1456 c = search steps

pub returns-then-rest-from : goal.returns-then-rest-from
returns-then-rest-from c = search steps

pub returns : goal.returns
returns c = search steps
