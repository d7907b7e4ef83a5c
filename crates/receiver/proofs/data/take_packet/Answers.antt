use Rattle.receiver.proofs.Datas.{datas}
use Rattle.receiver.proofs.data.take_packet.Goals as goal

pub returns : goal.returns
returns c = search datas
