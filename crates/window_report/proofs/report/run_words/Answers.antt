use Rattle.window_report.proofs.Reports.{reports}
use Rattle.window_report.proofs.report.run_words.Goals as goal

pub overflow_add-first : goal.overflow_add-first
overflow_add-first c = search reports

pub returns-then-first-i : goal.returns-then-first-i
returns-then-first-i c = search reports

pub returns-else-first-i : goal.returns-else-first-i
returns-else-first-i c = search reports

pub returns-in-None : goal.returns-in-None
returns-in-None c = search reports
