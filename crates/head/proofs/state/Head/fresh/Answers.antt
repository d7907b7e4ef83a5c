use Rattle.head.proofs.Heads.{heads}
use Rattle.head.proofs.state.Head.fresh.Goals as goal

pub returns : goal.returns
returns c = search heads
