use Rattle.window_pop.proofs.Lates.{lates}
use Rattle.window_pop.proofs.pop.walk_past.Goals as goal

pub returns-then-not-is_received : goal.returns-then-not-is_received
returns-then-not-is_received c = search lates

pub returns-in-Some : goal.returns-in-Some
returns-in-Some c = search lates

pub returns-in-None : goal.returns-in-None
returns-in-None c = search lates
