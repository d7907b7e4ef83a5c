use Rattle.exports.proofs.Boundary.{boundary}
use Rattle.exports.proofs.request.pt_clear.Goals as goal

pub returns : goal.returns
returns c = search boundary
