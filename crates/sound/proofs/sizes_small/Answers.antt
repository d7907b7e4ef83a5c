use Rattle.sound.proofs.Sounds.{sounds}
use Rattle.sound.proofs.sizes_small.Goals as goal

pub returns-then-together-le1456 : goal.returns-then-together-le1456
returns-then-together-le1456 c = search sounds

pub returns : goal.returns
returns c = search sounds
