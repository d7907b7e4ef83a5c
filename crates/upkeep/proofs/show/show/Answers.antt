use Rattle.upkeep.proofs.Shows.{shows}
use Rattle.upkeep.proofs.show.show.Goals as goal

pub part_at-requires : goal.part_at-requires
part_at-requires c = search shows

pub returns-in-Some : goal.returns-in-Some
returns-in-Some c = search shows

pub returns-in-None : goal.returns-in-None
returns-in-None c = search shows
