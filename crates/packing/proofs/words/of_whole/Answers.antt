use Rattle.packing.proofs.Steps.{steps}
use Rattle.packing.proofs.words.of_whole.Goals as goal

pub returns : goal.returns
returns c = search steps
