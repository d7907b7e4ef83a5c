use Rattle.packing.proofs.Steps.{steps}
use Rattle.packing.proofs.words.of_float.Goals as goal

pub returns-then-x : goal.returns-then-x
returns-then-x c = search steps

pub returns : goal.returns
returns c = search steps
