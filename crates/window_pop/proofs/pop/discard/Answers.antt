use Rattle.window_pop.proofs.Pops.{pops}
use Rattle.window_pop.proofs.pop.discard.Goals as goal

pub due-requires : goal.due-requires
due-requires c = search pops

pub interval-delay-requires : goal.interval-delay-requires
interval-delay-requires c = search pops

pub discard_front-window-requires : goal.discard_front-window-requires
discard_front-window-requires c = search pops

pub returns : goal.returns
returns c = search pops
