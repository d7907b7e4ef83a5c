use Rattle.packing.proofs.Steps.{steps}
use Rattle.packing.proofs.words.float.Goals as goal

pub float_from_bits-result : goal.float_from_bits-result
float_from_bits-result c = search steps

pub returns-then-w-le9218868437227405312 : goal.returns-then-w-le9218868437227405312
returns-then-w-le9218868437227405312 c = search steps

pub returns : goal.returns
returns c = search steps
