use Rattle.window_pop.proofs.Pops.{pops}
use Rattle.window_pop.proofs.pop.release.Goals as goal

pub returns-then-out-m : goal.returns-then-out-m
returns-then-out-m c = search pops

pub fill-requires : goal.fill-requires
fill-requires c = search pops

pub cut_front-requires : goal.cut_front-requires
cut_front-requires c = search pops

pub returns : goal.returns
returns c = search pops
