use Rattle.window_report.proofs.Reports.{reports}
use Rattle.window_report.proofs.report.report_in.Goals as goal

pub report_entries-r-requires : goal.report_entries-r-requires
report_entries-r-requires c = search reports

pub run_end-q-requires : goal.run_end-q-requires
run_end-q-requires c = search reports

pub returns-then-q-eq0 : goal.returns-then-q-eq0
returns-then-q-eq0 c = search reports

pub returns : goal.returns
returns c = search reports
