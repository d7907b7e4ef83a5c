use Rattle.receiver.proofs.Datas.{datas}
use Rattle.receiver.proofs.data.rate.Goals as goal

pub record-arrivals-requires : goal.record-arrivals-requires
record-arrivals-requires c = search datas

pub record-links-requires : goal.record-links-requires
record-links-requires c = search datas

pub returns : goal.returns
returns c = search datas
