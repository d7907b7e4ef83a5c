use Rattle.upkeep.proofs.Shows.{shows}
use Rattle.upkeep.proofs.show.shown.Goals as goal

pub returns-in_err-show : goal.returns-in_err-show
returns-in_err-show c = search shows

pub find-requires : goal.find-requires
find-requires c = search shows

pub returns : goal.returns
returns c = search shows
