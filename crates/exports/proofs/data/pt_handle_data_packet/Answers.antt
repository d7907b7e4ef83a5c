use Rattle.exports.proofs.Boundary.{boundary}
use Rattle.exports.proofs.data.pt_handle_data_packet.Goals as goal

pub returns : goal.returns
returns c = search boundary
