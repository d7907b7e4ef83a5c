use Rattle.head.proofs.Heads.{heads}
use Rattle.head.proofs.state.Head.nowhere.Goals as goal

pub returns-clause-refused : goal.returns-clause-refused
returns-clause-refused c = search heads
