use Rattle.sound.proofs.Sounds.{sounds}
use Rattle.sound.proofs.intervals_small.Goals as goal

pub returns : goal.returns
returns c = search sounds
