use Rattle.window.proofs.Pushes.{pushes}
use Rattle.window.proofs.push.push.Goals as goal

pub number-next-requires : goal.number-next-requires
number-next-requires c = search pushes

pub compare-order-requires : goal.compare-order-requires
compare-order-requires c = search pushes

pub distance-gap-requires : goal.distance-gap-requires
distance-gap-requires c = search pushes

pub enum_told-1 : goal.enum_told-1
enum_told-1 c = search pushes

pub append_next-requires : goal.append_next-requires
append_next-requires c = search pushes

pub enum_told-in-Greater : goal.enum_told-in-Greater
enum_told-in-Greater c = search pushes

pub overflow_cast-gap : goal.overflow_cast-gap
overflow_cast-gap c = search pushes

pub append_with_loss-requires : goal.append_with_loss-requires
append_with_loss-requires c = search pushes

pub enum_told-in-Less : goal.enum_told-in-Less
enum_told-in-Less c = search pushes

pub recover-requires : goal.recover-requires
recover-requires c = search pushes

pub shape_of-words-in-Equal : goal.shape_of-words-in-Equal
shape_of-words-in-Equal c = search pushes

pub shape_of-bytes-in-Equal : goal.shape_of-bytes-in-Equal
shape_of-bytes-in-Equal c = search pushes

pub returns-in-Equal : goal.returns-in-Equal
returns-in-Equal c = search pushes

pub shape_of-words-in-Greater : goal.shape_of-words-in-Greater
shape_of-words-in-Greater c = search pushes

pub shape_of-bytes-in-Greater : goal.shape_of-bytes-in-Greater
shape_of-bytes-in-Greater c = search pushes

pub returns-in-Greater : goal.returns-in-Greater
returns-in-Greater c = search pushes

pub shape_of-words-in-Less : goal.shape_of-words-in-Less
shape_of-words-in-Less c = search pushes

pub shape_of-bytes-in-Less : goal.shape_of-bytes-in-Less
shape_of-bytes-in-Less c = search pushes

pub returns-in-Less : goal.returns-in-Less
returns-in-Less c = search pushes
