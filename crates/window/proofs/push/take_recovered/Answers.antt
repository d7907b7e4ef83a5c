use Rattle.window.proofs.Pushes.{pushes}
use Rattle.window.proofs.push.take_recovered.Goals as goal

pub slot-s-requires : goal.slot-s-requires
slot-s-requires c = search pushes

pub put_packet-requires : goal.put_packet-requires
put_packet-requires c = search pushes

pub recovered_lrsn-lrsn-requires : goal.recovered_lrsn-lrsn-requires
recovered_lrsn-lrsn-requires c = search pushes

pub shape_of-words : goal.shape_of-words
shape_of-words c = search pushes

pub shape_of-bytes : goal.shape_of-bytes
shape_of-bytes c = search pushes

pub returns : goal.returns
returns c = search pushes
