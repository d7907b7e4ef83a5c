-- The premises of the history's functions: no rule of 01 of its own.
use Rattle.std.specs.Prelude.{List, ℕ, ◌+◌, ◌^◌, ◌<◌, ◌≤◌, length}
use Rattle.acks.specs.declared.history.History.{History}

-- what the head's range test and the test of the area have shown
pub record HistoryReady (h : History) (a : List ℕ) : Type 0 where
  pub starts : h.start < 1024
  pub holds : h.count ≤ 1024
  pub first : 1 ≤ h.first
  pub newest : h.first + h.count ≤ 2 ^ 32
  pub words : 2048 ≤ length a
