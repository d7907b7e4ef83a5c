use Rattle.sound.proofs.Quick.{quick-sounds}
use Rattle.sound.proofs.quickly.Goals as goal

pub returns : goal.returns
returns c = search quick-sounds
