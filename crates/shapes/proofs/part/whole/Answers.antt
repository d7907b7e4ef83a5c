use Rattle.shapes.proofs.Parts.{parts}
use Rattle.shapes.proofs.part.whole.Goals as goal

pub put_signed-requires : goal.put_signed-requires
put_signed-requires c = search parts

pub returns : goal.returns
returns c = search parts
