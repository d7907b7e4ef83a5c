use Rattle.receiver.proofs.Messages.{messages}
use Rattle.receiver.proofs.message.pop_next_message.Goals as goal

pub returns-in-Err : goal.returns-in-Err
returns-in-Err c = search messages

pub release-requires : goal.release-requires
release-requires c = search messages

pub returns : goal.returns
returns c = search messages
