use Rattle.acks.proofs.HistorySteps.{departures}
use Rattle.acks.proofs.history.departure_at.Goals as goal

pub returns : goal.returns
returns c = search departures
