use Rattle.packing.proofs.Puts.{puts}
use Rattle.packing.proofs.pack.put_settings.Goals as goal

pub returns : goal.returns
returns c = search puts
