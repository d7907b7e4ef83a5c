use Rattle.dlt.proofs.Steps.{steps}
use Rattle.dlt.proofs.record.first.Goals as goal

pub returns-in_err-ok_or : goal.returns-in_err-ok_or
returns-in_err-ok_or c = search steps

pub returns-in_err-kind : goal.returns-in_err-kind
returns-in_err-kind c = search steps

pub returns-then-rest-fixed : goal.returns-then-rest-fixed
returns-then-rest-fixed c = search steps

pub returns : goal.returns
returns c = search steps
