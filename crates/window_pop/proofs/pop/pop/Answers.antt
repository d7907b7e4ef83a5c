use Rattle.window_pop.proofs.Pops.{pops}
use Rattle.window_pop.proofs.pop.pop.Goals as goal

pub front-e-requires : goal.front-e-requires
front-e-requires c = search pops

pub pop_front-requires : goal.pop_front-requires
pop_front-requires c = search pops

pub returns-then-is_received : goal.returns-then-is_received
returns-then-is_received c = search pops

pub drop_late-requires : goal.drop_late-requires
drop_late-requires c = search pops

pub returns : goal.returns
returns c = search pops
