use Rattle.inplace.proofs.Clears.{pop-clears}
use Rattle.inplace.proofs.message.refusal.Goals as goal

pub returns-then-areas_clear : goal.returns-then-areas_clear
returns-then-areas_clear c = search pop-clears

pub returns : goal.returns
returns c = search pop-clears
