use Rattle.window_pop.proofs.Pops.{pops}
use Rattle.window_pop.proofs.pop.pop_front.Goals as goal

pub due-requires : goal.due-requires
due-requires c = search pops

pub returns-then-time-due : goal.returns-then-time-due
returns-then-time-due c = search pops

pub message_in_front-requires : goal.message_in_front-requires
message_in_front-requires c = search pops

pub release-requires : goal.release-requires
release-requires c = search pops

pub drop_late-requires : goal.drop_late-requires
drop_late-requires c = search pops

pub returns-in-Some : goal.returns-in-Some
returns-in-Some c = search pops

pub returns-in-None : goal.returns-in-None
returns-in-None c = search pops
