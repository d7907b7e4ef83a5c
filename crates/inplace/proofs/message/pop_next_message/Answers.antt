use Rattle.inplace.proofs.Messages.{pop-calls}
use Rattle.inplace.proofs.message.pop_next_message.Goals as goal

pub returns-in_err-refusal : goal.returns-in_err-refusal
returns-in_err-refusal c = search pop-calls

pub take-requires : goal.take-requires
take-requires c = search pop-calls

pub returns : goal.returns
returns c = search pop-calls
