use Rattle.inplace.proofs.Singles.{usuals}
use Rattle.inplace.proofs.message.is_usual.Goals as goal

pub returns : goal.returns
returns c = search usuals
