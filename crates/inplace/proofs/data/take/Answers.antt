use Rattle.inplace.proofs.Nexts.{takes-next}
use Rattle.inplace.proofs.data.take.Goals as goal

pub returns-then-is_next : goal.returns-then-is_next
returns-then-is_next c = search takes-next

pub returns : goal.returns
returns c = search takes-next
