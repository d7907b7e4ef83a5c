use Rattle.inplace.proofs.Datas.{puts-in}
use Rattle.inplace.proofs.data.put_arrival.Goals as goal

pub returns-in_default : goal.returns-in_default
returns-in_default c = search puts-in

pub returns : goal.returns
returns c = search puts-in
