use Rattle.shapes.proofs.Tails.{tails}
use Rattle.shapes.proofs.tail.value.Goals as goal

pub returns-in-Dash : goal.returns-in-Dash
returns-in-Dash c = search tails
