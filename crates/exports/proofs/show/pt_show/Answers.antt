use Rattle.exports.proofs.Boundary.{boundary}
use Rattle.exports.proofs.show.pt_show.Goals as goal

pub returns : goal.returns
returns c = search boundary
