use Rattle.packing.proofs.Puts.{puts}
use Rattle.packing.proofs.pack.put_arrivals.Goals as goal

pub returns : goal.returns
returns c = search puts
