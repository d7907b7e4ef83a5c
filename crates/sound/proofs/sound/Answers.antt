use Rattle.sound.proofs.Quick.{quick-sounds}
use Rattle.sound.proofs.sound.Goals as goal

pub returns-then-sizes_small : goal.returns-then-sizes_small
returns-then-sizes_small c = search quick-sounds

pub returns : goal.returns
returns c = search quick-sounds
