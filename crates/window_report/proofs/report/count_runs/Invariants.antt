use mathlib.Core.Path.{◌≡◌}
use Rattle.slots.specs.Ring.{slot_of}
use Rattle.window_report.specs.Report.{runs_to}
use Rattle.window_report.proofs.report.count_runs.Given as goal

abbrev pub invariant-loop-i : goal.invariant-loop-i
invariant-loop-i l =
    (l.s ≡ slot_of l.w.capacity l.w.start l.i) × (l.r ≡ runs_to l.w l.words l.time l.mean l.i)
