-- The premises of a pop: no rule of 01 of its own.
use Rattle.std.specs.Prelude.{List, ℕ, ◌^◌, ◌<◌, ◌≤◌, ℤ, nat_abs}
use Rattle.clock.specs.declared.time.SynchronizedRemoteClock.{SynchronizedRemoteClock}
use Rattle.window.specs.Ready.{Good, Bytes}
use Rattle.window.specs.declared.Window.{Window}

-- what the tests of head, areas and reading have shown
pub record PopReady (k : SynchronizedRemoteClock) (latency : ℕ) (w : Window) (ws bs : List ℕ) (now : ℤ) : Type 0 where
  pub good : Good w ws
  pub payloads : Bytes w bs
  pub reference : nat_abs k.base.time ≤ 2 ^ 61
  pub reading : nat_abs now < 2 ^ 60
  pub setting : latency ≤ 65535000
