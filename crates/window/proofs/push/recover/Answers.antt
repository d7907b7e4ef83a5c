use Rattle.window.proofs.Pushes.{pushes}
use Rattle.window.proofs.push.recover.Goals as goal

pub distance-past-requires : goal.distance-past-requires
distance-past-requires c = search pushes

pub returns-then-past-ge1073741824 : goal.returns-then-past-ge1073741824
returns-then-past-ge1073741824 c = search pushes

pub overflow_cast-i : goal.overflow_cast-i
overflow_cast-i c = search pushes

pub slot-s-requires : goal.slot-s-requires
slot-s-requires c = search pushes

pub read_at-requires : goal.read_at-requires
read_at-requires c = search pushes

pub is_lost-requires : goal.is_lost-requires
is_lost-requires c = search pushes

pub returns-then-not-is_lost : goal.returns-then-not-is_lost
returns-then-not-is_lost c = search pushes

pub take_recovered-requires : goal.take_recovered-requires
take_recovered-requires c = search pushes

pub returns : goal.returns
returns c = search pushes
