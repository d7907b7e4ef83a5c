use Rattle.window.proofs.Pushes.{pushes}
use Rattle.window.proofs.push.recovered_lrsn.Goals as goal

pub search_lrsn-requires : goal.search_lrsn-requires
search_lrsn-requires c = search pushes

pub returns-then-w-number : goal.returns-then-w-number
returns-then-w-number c = search pushes

pub returns : goal.returns
returns c = search pushes
