use Rattle.window_report.proofs.Reports.{reports}
use Rattle.window_report.proofs.report.report_one.Goals as goal

pub read_at-e-requires : goal.read_at-e-requires
read_at-e-requires c = search reports

pub is_due-requires : goal.is_due-requires
is_due-requires c = search reports

pub k_after-k-requires : goal.k_after-k-requires
k_after-k-requires c = search reports

pub write_report-requires : goal.write_report-requires
write_report-requires c = search reports

pub runs_after-requires : goal.runs_after-requires
runs_after-requires c = search reports

pub shape_of-words-then-is_due : goal.shape_of-words-then-is_due
shape_of-words-then-is_due c = search reports

pub returns-then-is_due : goal.returns-then-is_due
returns-then-is_due c = search reports

pub run_end-requires : goal.run_end-requires
run_end-requires c = search reports

pub shape_of-words : goal.shape_of-words
shape_of-words c = search reports

pub shape_of-list : goal.shape_of-list
shape_of-list c = search reports

pub returns : goal.returns
returns c = search reports
