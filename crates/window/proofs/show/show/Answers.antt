use Rattle.window.proofs.Shows.{showing}
use Rattle.window.proofs.show.show.Goals as goal

pub part_at-requires : goal.part_at-requires
part_at-requires c = search showing

pub part_at-requires-in-None : goal.part_at-requires-in-None
part_at-requires-in-None c = search showing

pub returns-in-Some : goal.returns-in-Some
returns-in-Some c = search showing

pub returns-in-None : goal.returns-in-None
returns-in-None c = search showing
