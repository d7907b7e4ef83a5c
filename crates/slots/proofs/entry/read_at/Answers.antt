use Rattle.slots.proofs.Steps.{steps}
use Rattle.slots.proofs.entry.read_at.Goals as goal

pub returns : goal.returns
returns c = search steps
