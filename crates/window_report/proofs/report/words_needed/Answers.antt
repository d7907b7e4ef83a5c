use Rattle.window_report.proofs.Reports.{reports}
use Rattle.window_report.proofs.report.words_needed.Goals as goal

pub count_runs-requires : goal.count_runs-requires
count_runs-requires c = search reports

pub runs_closed-requires : goal.runs_closed-requires
runs_closed-requires c = search reports

pub returns : goal.returns
returns c = search reports
