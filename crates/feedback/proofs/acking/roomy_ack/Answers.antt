use Rattle.feedback.proofs.Ackings.{ackings}
use Rattle.feedback.proofs.acking.roomy_ack.Goals as goal

pub next_full_ack-acked-requires : goal.next_full_ack-acked-requires
next_full_ack-acked-requires c = search ackings

pub returns : goal.returns
returns c = search ackings
