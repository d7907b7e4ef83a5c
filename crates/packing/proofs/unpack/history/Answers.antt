use Rattle.packing.proofs.Says.{says_all}
use Rattle.packing.proofs.unpack.history.Goals as goal

pub returns : goal.returns
returns c = search says_all
