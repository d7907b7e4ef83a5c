use Rattle.packing.proofs.Says.{says_all}
use Rattle.packing.proofs.unpack.are_numbers.Goals as goal

pub loop-i-init : goal.loop-i-init
loop-i-init c = search says_all

pub loop-i-preserved : goal.loop-i-preserved
loop-i-preserved c = search says_all

pub returns : goal.returns
returns c = search says_all
