use Rattle.trace.proofs.Steps.{turns}
use Rattle.trace.proofs.next.Goals as goal

pub returns-then-has_room : goal.returns-then-has_room
returns-then-has_room c = search turns

pub returns : goal.returns
returns c = search turns
