use Rattle.window_pop.proofs.Fills.{fills}
use Rattle.window_pop.proofs.pop.fill.Goals as goal

pub loop-init : goal.loop-init
loop-init c = search fills

pub read_at-requires : goal.read_at-requires
read_at-requires c = search fills

pub put_payload-requires : goal.put_payload-requires
put_payload-requires c = search fills

pub overflow_add-at : goal.overflow_add-at
overflow_add-at c = search fills

pub next_slot-s-requires : goal.next_slot-s-requires
next_slot-s-requires c = search fills

pub loop-preserved : goal.loop-preserved
loop-preserved c = search fills

pub returns : goal.returns
returns c = search fills
