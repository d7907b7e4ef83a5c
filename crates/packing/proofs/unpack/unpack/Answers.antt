use Rattle.packing.proofs.Says.{says_all}
use Rattle.packing.proofs.unpack.unpack.Goals as goal

pub returns-then-formed : goal.returns-then-formed
returns-then-formed c = search says_all

pub returns : goal.returns
returns c = search says_all
