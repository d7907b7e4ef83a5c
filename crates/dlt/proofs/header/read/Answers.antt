use Rattle.dlt.proofs.Steps.{steps}
use Rattle.dlt.proofs.header.read.Goals as goal

pub returns-then-piece-lt24 : goal.returns-then-piece-lt24
returns-then-piece-lt24 c = search steps

pub returns-then-not-marked : goal.returns-then-not-marked
returns-then-not-marked c = search steps

pub returns : goal.returns
returns c = search steps
