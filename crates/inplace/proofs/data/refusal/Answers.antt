use Rattle.inplace.proofs.Clears.{push-clears}
use Rattle.inplace.proofs.data.refusal.Goals as goal

pub returns-then-packet_clear : goal.returns-then-packet_clear
returns-then-packet_clear c = search push-clears

pub returns : goal.returns
returns c = search push-clears
