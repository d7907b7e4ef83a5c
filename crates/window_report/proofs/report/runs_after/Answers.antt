use Rattle.window_report.proofs.Reports.{reports}
use Rattle.window_report.proofs.report.runs_after.Goals as goal

pub runs_closed-requires : goal.runs_closed-requires
runs_closed-requires c = search reports

pub returns-then-not-due : goal.returns-then-not-due
returns-then-not-due c = search reports

pub returns-in-Some : goal.returns-in-Some
returns-in-Some c = search reports

pub returns-in-None : goal.returns-in-None
returns-in-None c = search reports
