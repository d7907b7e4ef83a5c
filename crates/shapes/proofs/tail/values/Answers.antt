use Rattle.shapes.proofs.Tails.{tails}
use Rattle.shapes.proofs.tail.values.Goals as goal

pub returns : goal.returns
returns c = search tails
