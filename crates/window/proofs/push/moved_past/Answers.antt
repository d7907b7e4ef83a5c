use Rattle.window.proofs.Pushes.{pushes}
use Rattle.window.proofs.push.moved_past.Goals as goal

pub successor-requires : goal.successor-requires
successor-requires c = search pushes

pub returns-then-lrsn-number : goal.returns-then-lrsn-number
returns-then-lrsn-number c = search pushes

pub returns : goal.returns
returns c = search pushes
