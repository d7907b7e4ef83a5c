-- Every head that calls reach from new is in range, whatever the arguments and the lent contents: no run from new is ever refused 1. Assumes nothing.
use mathlib.Core.Path.{◌≡◌}
use mathlib.Core.Bool.{true}
use Rattle.head.specs.Head.{head_ok}
use Rattle.head.specs.declared.state.Head.{Head}
use Rattle.kept.specs.Runs.{Reached, made, pushed, popped, reported, acked, ack2ed, clocked, cleared}
use Rattle.kept.proofs.DataKept.{made_kept, data-kept, loss-kept, cleared-kept}
use Rattle.kept.proofs.TimedKept.{ack2-kept, full-ack-kept, clock-kept, message-kept}

pub reached-kept : (h : Head) → Reached h → head_ok h ≡ true
reached-kept _ (made start latency dropping first capacity e) = made_kept start latency dropping first capacity e
reached-kept _ (pushed h ws bs now p payload r) = data-kept h ws bs now p payload (reached-kept h r)
reached-kept _ (popped h ws bs out now r) = message-kept h ws bs out now (reached-kept h r)
reached-kept _ (reported h ws list now r) = loss-kept h ws list now (reached-kept h r)
reached-kept _ (acked h a now r) = full-ack-kept h a now (reached-kept h r)
reached-kept _ (ack2ed h a now number r) = ack2-kept h a now number (reached-kept h r)
reached-kept _ (clocked h now stamp r) = clock-kept h now stamp (reached-kept h r)
reached-kept _ (cleared h r) = cleared-kept h (reached-kept h r)
