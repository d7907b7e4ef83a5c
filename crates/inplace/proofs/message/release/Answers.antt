use Rattle.inplace.proofs.Messages.{pops-in}
use Rattle.inplace.proofs.message.release.Goals as goal

pub returns : goal.returns
returns c = search pops-in
