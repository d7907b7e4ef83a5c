use Rattle.std.proofs.Common.{to_z-of_z}
use Rattle.dlt.proofs.Numbers.{time-is}
use Rattle.dlt.proofs.bytes.time.Goals as goal

pub returns : goal.returns
returns c = rw (to_z-of_z (record { sfits = c.from_be_bytes.type_inv })) (time-is c.args.piece.now c.args.at c.type_inv.piece c.requires c.from_be_bytes.ensures)
