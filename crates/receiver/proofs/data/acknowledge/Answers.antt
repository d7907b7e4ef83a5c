use Rattle.receiver.proofs.Datas.{datas}
use Rattle.receiver.proofs.data.acknowledge.Goals as goal

pub returns-in-Some : goal.returns-in-Some
returns-in-Some c = search datas

pub returns-in-None : goal.returns-in-None
returns-in-None c = search datas
