use mathlib.Core.Path.{◌≡◌}
use Rattle.slots.specs.Ring.{slot_of}
use Rattle.window_report.specs.Inner.{reporting, reported_to}
use Rattle.window_report.proofs.report.report_entries.Given as goal

abbrev pub invariant-loop-i : goal.invariant-loop-i
invariant-loop-i l =
    (l.s ≡ slot_of l.w.capacity l.w.start l.i) × (reporting l.words l.list l.r ≡ reported_to l.w l.initial.words l.time l.mean l.initial.list l.i)
