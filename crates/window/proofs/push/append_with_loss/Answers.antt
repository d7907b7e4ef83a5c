use Rattle.window.proofs.Pushes.{pushes}
use Rattle.window.proofs.push.append_with_loss.Goals as goal

pub room-room-requires : goal.room-room-requires
room-room-requires c = search pushes

pub overflow_add-need : goal.overflow_add-need
overflow_add-need c = search pushes

pub returns-then-room-need : goal.returns-then-room-need
returns-then-room-need c = search pushes

pub moved_past-lrsn-requires : goal.moved_past-lrsn-requires
moved_past-lrsn-requires c = search pushes

pub number-first-requires : goal.number-first-requires
number-first-requires c = search pushes

pub sum-last-requires : goal.sum-last-requires
sum-last-requires c = search pushes

pub overflow_add-w : goal.overflow_add-w
overflow_add-w c = search pushes

pub slot-s-requires : goal.slot-s-requires
slot-s-requires c = search pushes

pub append_lost-requires : goal.append_lost-requires
append_lost-requires c = search pushes

pub put_packet-requires : goal.put_packet-requires
put_packet-requires c = search pushes

pub overflow_add-result : goal.overflow_add-result
overflow_add-result c = search pushes

pub shape_of-words : goal.shape_of-words
shape_of-words c = search pushes

pub shape_of-bytes : goal.shape_of-bytes
shape_of-bytes c = search pushes

pub returns : goal.returns
returns c = search pushes
