use Rattle.sound.proofs.Sounds.{sounds}
use Rattle.sound.proofs.bits.Goals as goal

pub loop-i-init : goal.loop-i-init
loop-i-init c = search sounds

pub loop-i-preserved : goal.loop-i-preserved
loop-i-preserved c = search sounds

pub returns : goal.returns
returns c = search sounds
