use Rattle.upkeep.proofs.Requests.{requests}
use Rattle.upkeep.proofs.request.buffer_available.Goals as goal

pub returns-in_err-head : goal.returns-in_err-head
returns-in_err-head c = search requests

pub room-requires : goal.room-requires
room-requires c = search requests

pub returns : goal.returns
returns c = search requests
