use Rattle.exports.proofs.Boundary.{boundary}
use Rattle.exports.proofs.counted.pt_counted_handle_ack2_packet.Goals as goal

pub returns : goal.returns
returns c = search boundary
