-- Both tests passed, so the clock and the reading are in range.
use Rattle.std.proofs.Common.{rules}
use Rattle.clock.proofs.Ranges.{ready_by}
use Rattle.case_clock.proofs.call.Goals as goal

pub synchronize-requires : goal.synchronize-requires
synchronize-requires c = search (ready_by, rules)
