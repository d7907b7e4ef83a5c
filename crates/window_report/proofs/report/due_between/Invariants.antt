use mathlib.Core.Path.{◌≡◌}
use Prim.Native.Nat.{◌-◌}
use Rattle.window_report.specs.Inner.{due_from}
use Rattle.window_report.proofs.report.due_between.Given as goal

abbrev pub invariant-loop-s : goal.invariant-loop-s
invariant-loop-s l = due_from l.words l.time l.mean l.from (l.to - l.from) ≡ due_from l.words l.time l.mean l.s (l.to - l.s)
