use Rattle.shapes.proofs.Parts.{parts}
use Rattle.shapes.proofs.part.number.Goals as goal

pub put_decimal-requires : goal.put_decimal-requires
put_decimal-requires c = search parts

pub returns : goal.returns
returns c = search parts
