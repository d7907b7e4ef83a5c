use Rattle.inplace.proofs.Datas.{rates-in}
use Rattle.inplace.proofs.data.recovered.Goals as goal

pub returns : goal.returns
returns c = search rates-in
