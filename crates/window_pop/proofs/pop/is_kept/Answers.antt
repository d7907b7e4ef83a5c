use Rattle.window_pop.proofs.Lates.{lates}
use Rattle.window_pop.proofs.pop.is_kept.Goals as goal

pub returns-then-is_received : goal.returns-then-is_received
returns-then-is_received c = search lates

pub returns-else-is_received : goal.returns-else-is_received
returns-else-is_received c = search lates
