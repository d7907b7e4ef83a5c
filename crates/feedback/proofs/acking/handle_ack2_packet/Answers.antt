use Rattle.feedback.proofs.Ackings.{ackings}
use Rattle.feedback.proofs.acking.handle_ack2_packet.Goals as goal

pub returns-in-Err : goal.returns-in-Err
returns-in-Err c = search ackings

pub held_ack2-requires : goal.held_ack2-requires
held_ack2-requires c = search ackings

pub returns : goal.returns
returns c = search ackings
