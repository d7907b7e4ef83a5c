use Rattle.window.proofs.Pushes.{pushes}
use Rattle.window.proofs.push.write_lost.Goals as goal

pub write_at-requires : goal.write_at-requires
write_at-requires c = search pushes

pub shape_of-words : goal.shape_of-words
shape_of-words c = search pushes

pub returns : goal.returns
returns c = search pushes
