use Rattle.window_report.proofs.Reports.{reports}
use Rattle.window_report.proofs.report.due_between.Goals as goal

pub loop-s-init : goal.loop-s-init
loop-s-init c = search reports

pub read_at-requires : goal.read_at-requires
read_at-requires c = search reports

pub is_due-requires : goal.is_due-requires
is_due-requires c = search reports

pub returns-then-is_due : goal.returns-then-is_due
returns-then-is_due c = search reports

pub loop-s-preserved : goal.loop-s-preserved
loop-s-preserved c = search reports

pub returns : goal.returns
returns c = search reports
