use Rattle.inplace.proofs.Datas.{push-calls}
use Rattle.inplace.proofs.data.handle_data_packet.Goals as goal

pub returns-in_err-refusal : goal.returns-in_err-refusal
returns-in_err-refusal c = search push-calls

pub take-requires : goal.take-requires
take-requires c = search push-calls

pub returns : goal.returns
returns c = search push-calls
