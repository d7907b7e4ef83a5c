use Rattle.sound.proofs.Quick.{quick-sounds}
use Rattle.sound.proofs.beside_all.Goals as goal

pub returns : goal.returns
returns c = search quick-sounds
