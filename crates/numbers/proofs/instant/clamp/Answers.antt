use Rattle.std.proofs.Common.{rules}
use Rattle.numbers.specs.Instants.{clamp}
use Rattle.numbers.proofs.instant.clamp.Goals as goal

pub returns : goal.returns
unfolding clamp
returns c = search rules
