use Rattle.window_report.proofs.Reports.{reports}
use Rattle.window_report.proofs.report.report_counted.Goals as goal

pub words_needed-n-requires : goal.words_needed-n-requires
words_needed-n-requires c = search reports

pub returns-then-n-eq0 : goal.returns-then-n-eq0
returns-then-n-eq0 c = search reports

pub returns-then-list-n : goal.returns-then-list-n
returns-then-list-n c = search reports

pub report_in-requires : goal.report_in-requires
report_in-requires c = search reports

pub returns : goal.returns
returns c = search reports
