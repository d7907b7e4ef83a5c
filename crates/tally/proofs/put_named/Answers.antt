use Rattle.tally.proofs.Laws.{names}
use Rattle.tally.proofs.put_named.Goals as goal

pub put_bytes-q-requires : goal.put_bytes-q-requires
put_bytes-q-requires c = search names

pub put_byte-s-requires : goal.put_byte-s-requires
put_byte-s-requires c = search names

pub put_decimal-requires : goal.put_decimal-requires
put_decimal-requires c = search names

pub returns : goal.returns
returns c = search names
