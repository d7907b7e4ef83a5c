use Rattle.inplace.proofs.Singles.{singles}
use Rattle.inplace.proofs.message.is_single.Goals as goal

pub returns-then-w-eq0 : goal.returns-then-w-eq0
returns-then-w-eq0 c = search singles

pub returns : goal.returns
returns c = search singles
