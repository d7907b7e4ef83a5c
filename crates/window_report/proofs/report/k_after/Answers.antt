use Rattle.window_report.proofs.Reports.{reports}
use Rattle.window_report.proofs.report.k_after.Goals as goal

pub overflow_add-k : goal.overflow_add-k
overflow_add-k c = search reports

pub returns-in-Lost : goal.returns-in-Lost
returns-in-Lost c = search reports

pub returns-in_default : goal.returns-in_default
returns-in_default c = search reports
