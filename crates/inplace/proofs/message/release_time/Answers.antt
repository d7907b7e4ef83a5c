use Rattle.inplace.proofs.Singles.{singles}
use Rattle.inplace.proofs.message.release_time.Goals as goal

pub returns : goal.returns
returns c = search singles
