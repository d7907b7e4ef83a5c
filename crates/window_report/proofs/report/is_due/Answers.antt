use Rattle.window_report.proofs.Reports.{reports}
use Rattle.window_report.proofs.report.is_due.Goals as goal

pub overflow_mul-result : goal.overflow_mul-result
overflow_mul-result c = search reports

pub overflow_add-result : goal.overflow_add-result
overflow_add-result c = search reports

pub returns-in-Lost : goal.returns-in-Lost
returns-in-Lost c = search reports

pub returns-in_default : goal.returns-in_default
returns-in_default c = search reports
