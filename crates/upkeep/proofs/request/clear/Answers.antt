use Rattle.upkeep.proofs.Requests.{requests}
use Rattle.upkeep.proofs.request.clear.Goals as goal

pub returns-in-Ok : goal.returns-in-Ok
returns-in-Ok c = search requests

pub returns-in-Err : goal.returns-in-Err
returns-in-Err c = search requests
