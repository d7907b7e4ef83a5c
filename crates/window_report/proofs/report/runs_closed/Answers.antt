use Rattle.window_report.proofs.Reports.{reports}
use Rattle.window_report.proofs.report.runs_closed.Goals as goal

pub run_words-requires : goal.run_words-requires
run_words-requires c = search reports

pub overflow_add-result : goal.overflow_add-result
overflow_add-result c = search reports

pub returns : goal.returns
returns c = search reports
