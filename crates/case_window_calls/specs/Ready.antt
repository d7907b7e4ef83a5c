-- The premises of the window's calls here: no rule of 01 of its own.
use Rattle.std.specs.Prelude.{List, ℕ}
use Rattle.window.specs.Ready.{Good, Bytes}
use Rattle.window.specs.declared.Window.{Window}

-- what the tests of window and areas have shown
pub record Tested (w : Window) (ws bs : List ℕ) : Type 0 where
  pub good : Good w ws
  pub payloads : Bytes w bs
