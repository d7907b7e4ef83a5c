use Rattle.head.proofs.Heads.{heads}
use Rattle.head.proofs.state.Head.new.Goals as goal

pub returns-in_err-refuse_make : goal.returns-in_err-refuse_make
returns-in_err-refuse_make c = search heads

pub returns : goal.returns
returns c = search heads
