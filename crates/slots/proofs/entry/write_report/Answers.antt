use Rattle.slots.proofs.Steps.{steps}
use Rattle.slots.proofs.entry.write_report.Goals as goal

pub returns : goal.returns
returns c = search steps
