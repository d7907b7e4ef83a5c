use Rattle.receiver.proofs.Datas.{datas}
use Rattle.receiver.proofs.data.got.Goals as goal

pub returns-then-recovered : goal.returns-then-recovered
returns-then-recovered c = search datas

pub returns : goal.returns
returns c = search datas
