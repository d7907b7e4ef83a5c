use Rattle.inplace.proofs.Singles.{singles}
use Rattle.inplace.proofs.message.put_single.Goals as goal

pub returns : goal.returns
returns c = search singles
