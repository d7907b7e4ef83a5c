use Rattle.exports.proofs.Boundary.{boundary}
use Rattle.exports.proofs.acking.pt_on_full_ack_event.Goals as goal

pub returns : goal.returns
returns c = search boundary
