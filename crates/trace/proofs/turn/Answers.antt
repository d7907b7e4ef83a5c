use Rattle.trace.proofs.Steps.{turns}
use Rattle.trace.proofs.turn.Goals as goal

pub make-requires : goal.make-requires
make-requires c = search turns
