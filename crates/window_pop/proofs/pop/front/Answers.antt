use Rattle.window_pop.proofs.Pops.{pops}
use Rattle.window_pop.proofs.pop.front.Goals as goal

pub returns-then-w-eq0 : goal.returns-then-w-eq0
returns-then-w-eq0 c = search pops

pub read_at-requires : goal.read_at-requires
read_at-requires c = search pops

pub returns : goal.returns
returns c = search pops
