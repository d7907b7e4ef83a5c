use Rattle.inplace.proofs.Nexts.{nexts}
use Rattle.inplace.proofs.data.take_next.Goals as goal

pub put_packet-requires : goal.put_packet-requires
put_packet-requires c = search nexts

pub returns-then-w : goal.returns-then-w
returns-then-w c = search nexts

pub returns : goal.returns
returns c = search nexts
