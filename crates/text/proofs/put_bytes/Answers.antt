use Rattle.text.proofs.Steps.{copies}
use Rattle.text.proofs.put_bytes.Goals as goal

pub returns : goal.returns
returns c = search copies
