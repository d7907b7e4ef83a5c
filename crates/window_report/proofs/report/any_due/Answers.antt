use Rattle.window_report.proofs.Reports.{reports}
use Rattle.window_report.proofs.report.any_due.Goals as goal

pub overflow_add-end : goal.overflow_add-end
overflow_add-end c = search reports

pub due_between-requires : goal.due_between-requires
due_between-requires c = search reports

pub returns-then-end-w : goal.returns-then-end-w
returns-then-end-w c = search reports

pub due_between-requires-2 : goal.due_between-requires-2
due_between-requires-2 c = search reports

pub returns-then-due_between : goal.returns-then-due_between
returns-then-due_between c = search reports

pub overflow_sub-end : goal.overflow_sub-end
overflow_sub-end c = search reports

pub due_between-requires-3 : goal.due_between-requires-3
due_between-requires-3 c = search reports

pub returns : goal.returns
returns c = search reports
