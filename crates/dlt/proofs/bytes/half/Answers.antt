use Rattle.dlt.proofs.Numbers.{numbering}
use Rattle.dlt.proofs.bytes.half.Goals as goal

pub returns : goal.returns
returns c = search numbering
