use Rattle.exports.proofs.Boundary.{boundary}
use Rattle.exports.proofs.sync.pt_synchronize_clock.Goals as goal

pub returns : goal.returns
returns c = search boundary
