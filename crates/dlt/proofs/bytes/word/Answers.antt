use Rattle.dlt.proofs.Numbers.{numbering}
use Rattle.dlt.proofs.bytes.word.Goals as goal

pub returns : goal.returns
returns c = search numbering
