use Rattle.shapes.proofs.Parts.{parts}
use Rattle.shapes.proofs.part.word.Goals as goal

pub put_bytes-requires : goal.put_bytes-requires
put_bytes-requires c = search parts

pub returns : goal.returns
returns c = search parts
