use Rattle.numbers.proofs.Steps.{steps}
use Rattle.numbers.proofs.seq.saturating.Goals as goal

pub returns-then-d-lt1073741824 : goal.returns-then-d-lt1073741824
returns-then-d-lt1073741824 c = search steps

pub returns-else-d-lt1073741824 : goal.returns-else-d-lt1073741824
returns-else-d-lt1073741824 c = search steps
