use Rattle.exports.proofs.Boundary.{boundary}
use Rattle.exports.proofs.message.pt_pop_next_message.Goals as goal

pub returns : goal.returns
returns c = search boundary
