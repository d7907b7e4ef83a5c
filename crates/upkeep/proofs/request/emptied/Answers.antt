use Rattle.upkeep.proofs.Requests.{requests}
use Rattle.upkeep.proofs.request.emptied.Goals as goal

pub returns : goal.returns
returns c = search requests
