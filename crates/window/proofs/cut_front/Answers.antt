use Rattle.window.proofs.Walks.{walks}
use Rattle.window.proofs.cut_front.Goals as goal

pub slot-requires : goal.slot-requires
slot-requires c = search walks

pub overflow_sub-result : goal.overflow_sub-result
overflow_sub-result c = search walks

pub number-requires : goal.number-requires
number-requires c = search walks

pub returns : goal.returns
returns c = search walks
