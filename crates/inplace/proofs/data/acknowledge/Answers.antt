use Rattle.inplace.proofs.Datas.{rates-in}
use Rattle.inplace.proofs.data.acknowledge.Goals as goal

pub returns-in-Some : goal.returns-in-Some
returns-in-Some c = search rates-in

pub returns-in-None : goal.returns-in-None
returns-in-None c = search rates-in
