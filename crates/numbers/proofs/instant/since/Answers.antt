use Rattle.numbers.proofs.Steps.{sinces}
use Rattle.numbers.proofs.instant.since.Goals as goal

pub returns-then-now-time : goal.returns-then-now-time
returns-then-now-time c = search sinces

pub overflow_cast-result : goal.overflow_cast-result
overflow_cast-result c = search sinces

pub returns : goal.returns
returns c = search sinces
