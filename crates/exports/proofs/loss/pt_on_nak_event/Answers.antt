use Rattle.exports.proofs.Boundary.{boundary}
use Rattle.exports.proofs.loss.pt_on_nak_event.Goals as goal

pub returns : goal.returns
returns c = search boundary
