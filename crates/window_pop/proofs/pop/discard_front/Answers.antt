use Rattle.window_pop.proofs.Pops.{pops}
use Rattle.window_pop.proofs.pop.discard_front.Goals as goal

pub cut_front-c-requires : goal.cut_front-c-requires
cut_front-c-requires c = search pops

pub search_lrsn-lrsn-requires : goal.search_lrsn-lrsn-requires
search_lrsn-lrsn-requires c = search pops

pub returns : goal.returns
returns c = search pops
