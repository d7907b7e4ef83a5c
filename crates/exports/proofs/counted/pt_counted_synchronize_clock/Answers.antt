use Rattle.exports.proofs.Boundary.{boundary}
use Rattle.exports.proofs.counted.pt_counted_synchronize_clock.Goals as goal

pub returns : goal.returns
returns c = search boundary
