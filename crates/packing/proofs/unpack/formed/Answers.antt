use Rattle.packing.proofs.Says.{says_all}
use Rattle.packing.proofs.unpack.formed.Goals as goal

pub returns-then-first_formed-last_formed : goal.returns-then-first_formed-last_formed
returns-then-first_formed-last_formed c = search says_all

pub returns : goal.returns
returns c = search says_all
