use Rattle.inplace.proofs.Singles.{singles}
use Rattle.inplace.proofs.message.release_single.Goals as goal

pub put_payload-requires : goal.put_payload-requires
put_payload-requires c = search singles

pub returns : goal.returns
returns c = search singles
