use Rattle.packing.proofs.Steps.{steps}
use Rattle.packing.proofs.words.moment.Goals as goal

pub returns-then-set-eq1 : goal.returns-then-set-eq1
returns-then-set-eq1 c = search steps

pub returns : goal.returns
returns c = search steps
