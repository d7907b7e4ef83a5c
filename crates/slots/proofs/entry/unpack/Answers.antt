use Rattle.slots.proofs.Steps.{steps}
use Rattle.slots.proofs.entry.unpack.Goals as goal

pub returns-then-mark-eq0 : goal.returns-then-mark-eq0
returns-then-mark-eq0 c = search steps

pub returns-then-mark-eq1 : goal.returns-then-mark-eq1
returns-then-mark-eq1 c = search steps

pub returns : goal.returns
returns c = search steps
