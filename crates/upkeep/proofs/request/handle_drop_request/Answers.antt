use Rattle.upkeep.proofs.Requests.{requests, drop-taken}
use Rattle.upkeep.proofs.request.handle_drop_request.Goals as goal

pub returns-in_err-drop : goal.returns-in_err-drop
returns-in_err-drop c = search requests

pub drop_packets-requires : goal.drop_packets-requires
drop_packets-requires c = search requests

pub returns : goal.returns
returns c = drop-taken _ _ _ _ c.drop.ensures c.in_ok-drop.was c.drop_packets.ensures
