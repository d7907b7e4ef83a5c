use Rattle.shapes.proofs.Parts.{parts}
use Rattle.shapes.proofs.part.open.Goals as goal

pub word-requires : goal.word-requires
word-requires c = search parts

pub returns : goal.returns
returns c = search parts
