use Rattle.packing.proofs.Puts.{puts}
use Rattle.packing.proofs.pack.put_sixteen.Goals as goal

pub loop-i-init : goal.loop-i-init
loop-i-init c = search puts

pub loop-i-preserved : goal.loop-i-preserved
loop-i-preserved c = search puts

pub returns : goal.returns
returns c = search puts
