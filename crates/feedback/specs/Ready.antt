-- The premises of what a report and the ACK calls do after their tests: no rule of 01 of its own.
use Rattle.std.specs.Prelude.{List, ℕ, ◌^◌, ◌<◌, ◌≤◌, length}
use Rattle.window.specs.Ready.{Good}
use Rattle.head.specs.Ready.{InRange}
use Rattle.head.specs.declared.state.Head.{Head}

-- what the tests of head and slot area have shown
pub record ReportReady (h : Head) (ws : List ℕ) : Type 0 where
  pub good : Good h.window ws
  pub mean : h.rtt.mean < 2 ^ 31

-- what the tests of head and history area have shown
pub record AckReady (h : Head) (a : List ℕ) : Type 0 where
  pub head : InRange h
  pub words : 2048 ≤ length a
