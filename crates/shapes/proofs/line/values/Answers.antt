use Rattle.std.proofs.Common.{arith}
use Rattle.shapes.proofs.Wholes.{shapes, widths-few}
use Rattle.shapes.proofs.line.values.Goals as goal

pub values-requires : goal.values-requires
values-requires c = omega (arith, widths-few c.args.list.now c.requires.few)

pub returns : goal.returns
returns c = search shapes
