use Rattle.receiver.proofs.Datas.{datas}
use Rattle.receiver.proofs.data.handle_data_packet.Goals as goal

pub returns-in-Err : goal.returns-in-Err
returns-in-Err c = search datas

pub take_packet-requires : goal.take_packet-requires
take_packet-requires c = search datas

pub returns : goal.returns
returns c = search datas
