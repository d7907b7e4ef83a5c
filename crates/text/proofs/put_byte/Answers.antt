use Rattle.text.proofs.Steps.{copies}
use Rattle.text.proofs.put_byte.Goals as goal

pub returns : goal.returns
returns c = search copies
