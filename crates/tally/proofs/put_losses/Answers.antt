use Rattle.tally.proofs.Laws.{rows}
use Rattle.tally.proofs.put_losses.Goals as goal

pub returns : goal.returns
returns c = search rows
