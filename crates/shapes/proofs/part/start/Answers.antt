use Rattle.shapes.proofs.Parts.{parts}
use Rattle.shapes.proofs.part.start.Goals as goal

pub returns : goal.returns
returns c = search parts
