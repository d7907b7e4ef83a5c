use Rattle.shapes.proofs.Wholes.{shapes}
use Rattle.shapes.proofs.line.report.Goals as goal

pub returns : goal.returns
returns c = search shapes
