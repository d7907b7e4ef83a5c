use Rattle.window_report.proofs.Reports.{reports}
use Rattle.window_report.proofs.report.run_put.Goals as goal

pub returns-in_default : goal.returns-in_default
returns-in_default c = search reports

pub returns-then-begun-i : goal.returns-then-begun-i
returns-then-begun-i c = search reports

pub overflow_add-list : goal.overflow_add-list
overflow_add-list c = search reports

pub returns : goal.returns
returns c = search reports
