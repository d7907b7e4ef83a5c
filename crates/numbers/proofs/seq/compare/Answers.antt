use Rattle.numbers.proofs.Steps.{steps}
use Rattle.numbers.proofs.seq.compare.Goals as goal

pub returns-then-ahead-eq0 : goal.returns-then-ahead-eq0
returns-then-ahead-eq0 c = search steps

pub returns-then-ahead-lt1073741824 : goal.returns-then-ahead-lt1073741824
returns-then-ahead-lt1073741824 c = search steps

pub returns : goal.returns
returns c = search steps
