use Rattle.inplace.proofs.Singles.{usuals}
use Rattle.inplace.proofs.message.release_usual.Goals as goal

pub returns : goal.returns
returns c = search usuals
