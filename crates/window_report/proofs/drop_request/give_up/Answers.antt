use Rattle.window_report.proofs.Drops.{drops}
use Rattle.window_report.proofs.drop_request.give_up.Goals as goal

pub slot-s-requires : goal.slot-s-requires
slot-s-requires c = search drops

pub loop-init : goal.loop-init
loop-init c = search drops

pub next_slot-s-requires : goal.next_slot-s-requires
next_slot-s-requires c = search drops

pub give_up_one-n-requires : goal.give_up_one-n-requires
give_up_one-n-requires c = search drops

pub loop-preserved : goal.loop-preserved
loop-preserved c = search drops

pub returns : goal.returns
returns c = search drops
