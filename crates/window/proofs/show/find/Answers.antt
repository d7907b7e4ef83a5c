use Rattle.window.proofs.Shows.{showing}
use Rattle.window.proofs.show.find.Goals as goal

pub returns-then-w-i : goal.returns-then-w-i
returns-then-w-i c = search showing

pub read_at-e-requires : goal.read_at-e-requires
read_at-e-requires c = search showing

pub overflow_mul-result : goal.overflow_mul-result
overflow_mul-result c = search showing

pub returns-in-Received : goal.returns-in-Received
returns-in-Received c = search showing

pub returns-in_default : goal.returns-in_default
returns-in_default c = search showing
