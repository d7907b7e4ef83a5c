use Rattle.exports.proofs.Boundary.{boundary}
use Rattle.exports.proofs.making.pt_new.Goals as goal

pub returns : goal.returns
returns c = search boundary
