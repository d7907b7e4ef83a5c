use Rattle.window_report.proofs.Reports.{reports}
use Rattle.window_report.proofs.report.loss_report.Goals as goal

pub any_due-requires : goal.any_due-requires
any_due-requires c = search reports

pub returns-then-not-any_due : goal.returns-then-not-any_due
returns-then-not-any_due c = search reports

pub report_in-requires : goal.report_in-requires
report_in-requires c = search reports

pub returns-then-w-list : goal.returns-then-w-list
returns-then-w-list c = search reports

pub report_counted-requires : goal.report_counted-requires
report_counted-requires c = search reports

pub returns : goal.returns
returns c = search reports
