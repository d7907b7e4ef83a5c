-- The premises of the clock call: no rule of 01 of its own.
use Rattle.std.specs.Prelude.{◌^◌, ◌<◌, ◌≤◌, ℤ, unsigned_abs}
use Rattle.clock.specs.declared.time.SynchronizedRemoteClock.{SynchronizedRemoteClock}

-- what the head's range test and the test of a reading have shown
pub record Ready (k : SynchronizedRemoteClock) (now : ℤ) : Type 0 where
  pub reference : unsigned_abs k.base.time ≤ 2 ^ 61
  pub reading : unsigned_abs now < 2 ^ 60
  pub samples : k.stats.count < 1000
