use Rattle.inplace.proofs.Nexts.{nexts}
use Rattle.inplace.proofs.data.put_next.Goals as goal

pub returns : goal.returns
returns c = search nexts
