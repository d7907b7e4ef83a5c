use Rattle.head.proofs.Heads.{heads}
use Rattle.head.proofs.state.Head.in_range.Goals as goal

pub returns : goal.returns
returns c = search heads
