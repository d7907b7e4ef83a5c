use Rattle.window_pop.proofs.Pops.{pops}
use Rattle.window_pop.proofs.pop.drop_late.Goals as goal

pub late_limit-limit-requires : goal.late_limit-limit-requires
late_limit-limit-requires c = search pops

pub walk_late-requires : goal.walk_late-requires
walk_late-requires c = search pops

pub discard-requires : goal.discard-requires
discard-requires c = search pops

pub returns-then-not-late_drop : goal.returns-then-not-late_drop
returns-then-not-late_drop c = search pops

pub returns-in-Some : goal.returns-in-Some
returns-in-Some c = search pops

pub returns-in-None : goal.returns-in-None
returns-in-None c = search pops
