use Rattle.window_report.proofs.Reports.{reports}
use Rattle.window_report.proofs.report.run_end.Goals as goal

pub run_put-requires : goal.run_put-requires
run_put-requires c = search reports

pub runs_closed-requires : goal.runs_closed-requires
runs_closed-requires c = search reports

pub returns-in-Some : goal.returns-in-Some
returns-in-Some c = search reports

pub returns-in-None : goal.returns-in-None
returns-in-None c = search reports
