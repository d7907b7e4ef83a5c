use Rattle.trace.proofs.Steps.{made-is}
use Rattle.trace.proofs.make.Goals as goal

pub returns : goal.returns
returns c = made-is _ _ _ _ _ _ _ _ _ c.requires c.size-size.ensures c.call_of-call.ensures c.length_of-n.ensures c.advance.ensures
