use Rattle.window.proofs.Walks.{walks}
use Rattle.window.proofs.search_lrsn.Goals as goal

pub first_gap-requires : goal.first_gap-requires
first_gap-requires c = search walks

pub number-requires : goal.number-requires
number-requires c = search walks

pub returns : goal.returns
returns c = search walks
