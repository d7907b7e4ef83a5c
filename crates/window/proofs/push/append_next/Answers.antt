use Rattle.window.proofs.Pushes.{pushes}
use Rattle.window.proofs.push.append_next.Goals as goal

pub returns-then-w : goal.returns-then-w
returns-then-w c = search pushes

pub moved_past-lrsn-requires : goal.moved_past-lrsn-requires
moved_past-lrsn-requires c = search pushes

pub slot-s-requires : goal.slot-s-requires
slot-s-requires c = search pushes

pub put_packet-requires : goal.put_packet-requires
put_packet-requires c = search pushes

pub overflow_add-result : goal.overflow_add-result
overflow_add-result c = search pushes

pub shape_of-words : goal.shape_of-words
shape_of-words c = search pushes

pub shape_of-bytes : goal.shape_of-bytes
shape_of-bytes c = search pushes

pub returns : goal.returns
returns c = search pushes
