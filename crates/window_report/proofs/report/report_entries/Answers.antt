use Rattle.window_report.proofs.Reports.{reports}
use Rattle.window_report.proofs.report.report_entries.Goals as goal

pub loop-i-init : goal.loop-i-init
loop-i-init c = search reports

pub report_one-r-requires : goal.report_one-r-requires
report_one-r-requires c = search reports

pub next_slot-s-requires : goal.next_slot-s-requires
next_slot-s-requires c = search reports

pub loop-i-preserved : goal.loop-i-preserved
loop-i-preserved c = search reports

pub returns : goal.returns
returns c = search reports
