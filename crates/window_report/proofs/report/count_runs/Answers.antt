use Rattle.window_report.proofs.Reports.{reports}
use Rattle.window_report.proofs.report.count_runs.Goals as goal

pub loop-i-init : goal.loop-i-init
loop-i-init c = search reports

pub read_at-requires : goal.read_at-requires
read_at-requires c = search reports

pub is_due-due-requires : goal.is_due-due-requires
is_due-due-requires c = search reports

pub runs_after-r-requires : goal.runs_after-r-requires
runs_after-r-requires c = search reports

pub next_slot-s-requires : goal.next_slot-s-requires
next_slot-s-requires c = search reports

pub loop-i-preserved : goal.loop-i-preserved
loop-i-preserved c = search reports

pub returns : goal.returns
returns c = search reports
