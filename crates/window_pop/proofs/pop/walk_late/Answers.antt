use Rattle.window_pop.proofs.Lates.{lates}
use Rattle.window_pop.proofs.pop.walk_late.Goals as goal

pub loop-i-init : goal.loop-i-init
loop-i-init c = search lates

pub read_at-e-requires : goal.read_at-e-requires
read_at-e-requires c = search lates

pub is_kept-requires : goal.is_kept-requires
is_kept-requires c = search lates

pub returns-then-is_kept : goal.returns-then-is_kept
returns-then-is_kept c = search lates

pub walk_past-k-requires : goal.walk_past-k-requires
walk_past-k-requires c = search lates

pub next_slot-s-requires : goal.next_slot-s-requires
next_slot-s-requires c = search lates

pub loop-i-preserved : goal.loop-i-preserved
loop-i-preserved c = search lates

pub returns : goal.returns
returns c = search lates
