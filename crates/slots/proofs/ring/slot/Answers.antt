use Rattle.slots.proofs.Steps.{steps}
use Rattle.slots.proofs.ring.slot.Goals as goal

pub returns-then-s-capacity : goal.returns-then-s-capacity
returns-then-s-capacity c = search steps

pub returns-else-s-capacity : goal.returns-else-s-capacity
returns-else-s-capacity c = search steps
