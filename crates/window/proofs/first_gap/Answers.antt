use Rattle.window.proofs.Walks.{walks}
use Rattle.window.proofs.first_gap.Goals as goal

pub slot-s-requires : goal.slot-s-requires
slot-s-requires c = search walks

pub loop-i-init : goal.loop-i-init
loop-i-init c = search walks

pub read_at-requires : goal.read_at-requires
read_at-requires c = search walks

pub is_received-requires : goal.is_received-requires
is_received-requires c = search walks

pub next_slot-s-requires : goal.next_slot-s-requires
next_slot-s-requires c = search walks

pub loop-i-preserved : goal.loop-i-preserved
loop-i-preserved c = search walks

pub returns-then-not-is_received : goal.returns-then-not-is_received
returns-then-not-is_received c = search walks

pub returns : goal.returns
returns c = search walks
