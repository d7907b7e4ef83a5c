use Rattle.packing.proofs.Steps.{steps}
use Rattle.packing.proofs.words.of_time.Goals as goal

pub returns-in-None : goal.returns-in-None
returns-in-None c = search steps

pub returns-in-Some : goal.returns-in-Some
returns-in-Some c = search steps
