use Rattle.upkeep.proofs.Shows.{shows}
use Rattle.upkeep.proofs.show.place_in.Goals as goal

pub find-requires : goal.find-requires
find-requires c = search shows

pub returns-in-Ok : goal.returns-in-Ok
returns-in-Ok c = search shows

pub returns-in-Err : goal.returns-in-Err
returns-in-Err c = search shows
