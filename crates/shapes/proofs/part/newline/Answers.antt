use Rattle.shapes.proofs.Parts.{parts}
use Rattle.shapes.proofs.part.newline.Goals as goal

pub returns : goal.returns
returns c = search parts
