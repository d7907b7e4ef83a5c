use Rattle.window.proofs.Pushes.{pushes}
use Rattle.window.proofs.push.append_lost.Goals as goal

pub loop-init : goal.loop-init
loop-init c = search pushes

pub write_lost-requires : goal.write_lost-requires
write_lost-requires c = search pushes

pub next_slot-s-requires : goal.next_slot-s-requires
next_slot-s-requires c = search pushes

pub loop-preserved : goal.loop-preserved
loop-preserved c = search pushes

pub returns : goal.returns
returns c = search pushes
