use Rattle.inplace.proofs.Datas.{puts-in}
use Rattle.inplace.proofs.data.put_last.Goals as goal

pub returns : goal.returns
returns c = search puts-in
