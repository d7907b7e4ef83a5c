use Rattle.feedback.proofs.Ackings.{ackings}
use Rattle.feedback.proofs.acking.due_ack.Goals as goal

pub returns-then-room-eq0 : goal.returns-then-room-eq0
returns-then-room-eq0 c = search ackings

pub returns : goal.returns
returns c = search ackings
