use Rattle.packing.proofs.Says.{says_all}
use Rattle.packing.proofs.unpack.clock.Goals as goal

pub returns : goal.returns
returns c = search says_all
