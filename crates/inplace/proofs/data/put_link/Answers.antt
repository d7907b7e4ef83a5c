use Rattle.inplace.proofs.Datas.{puts-in}
use Rattle.inplace.proofs.data.put_link.Goals as goal

pub returns-then-place-eq0 : goal.returns-then-place-eq0
returns-then-place-eq0 c = search puts-in

pub returns-then-place-eq1 : goal.returns-then-place-eq1
returns-then-place-eq1 c = search puts-in

pub returns-else-place-eq1 : goal.returns-else-place-eq1
returns-else-place-eq1 c = search puts-in
