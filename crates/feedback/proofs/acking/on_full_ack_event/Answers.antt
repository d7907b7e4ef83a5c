use Rattle.feedback.proofs.Ackings.{ackings}
use Rattle.feedback.proofs.acking.on_full_ack_event.Goals as goal

pub returns-in-Err : goal.returns-in-Err
returns-in-Err c = search ackings

pub due_ack-requires : goal.due_ack-requires
due_ack-requires c = search ackings

pub returns : goal.returns
returns c = search ackings
