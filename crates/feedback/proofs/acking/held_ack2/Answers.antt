use Rattle.feedback.proofs.Ackings.{ackings}
use Rattle.feedback.proofs.acking.held_ack2.Goals as goal

pub calculate_ack2-requires : goal.calculate_ack2-requires
calculate_ack2-requires c = search ackings

pub returns : goal.returns
returns c = search ackings
