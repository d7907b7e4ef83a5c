use Rattle.receiver.proofs.Messages.{messages}
use Rattle.receiver.proofs.message.release.Goals as goal

pub returns : goal.returns
returns c = search messages
