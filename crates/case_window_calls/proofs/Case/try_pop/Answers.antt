-- The tests passed: the window and its areas, the setting, the clock and the reading.
use Rattle.std.proofs.Common.{rules}
use Rattle.case_window_calls.specs.Ready.{Tested}
use Rattle.case_window_calls.proofs.Steps.{pop-by}
use Rattle.case_window_calls.proofs.Case.try_pop.Goals as goal

pub pop-requires : goal.pop-requires
pop-requires g c =
    let s = c.args.self.now in
    let t : Tested s.window s.words s.bytes = c.in_ok-test_areas.ensures in
    search (pop-by, rules)
