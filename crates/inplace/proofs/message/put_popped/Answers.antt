use Rattle.inplace.proofs.Messages.{pops-in}
use Rattle.inplace.proofs.message.put_popped.Goals as goal

pub returns : goal.returns
returns c = search pops-in
