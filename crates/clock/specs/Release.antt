-- The release time: 01, "Window", "(never before the last one)".
use Rattle.std.specs.Prelude.{ℕ, cond, ℤ, int_lt, Option, Some, None}
use Rattle.clock.specs.Base.{instant_of}
use Rattle.clock.specs.declared.time.SynchronizedRemoteClock.{SynchronizedRemoteClock}
use Rattle.clock.specs.declared.time.Release.{Release}

-- never before the last one
abbrev pub later_of : Option ℤ → ℤ → ℤ
later_of None t = t
later_of (Some l) t = cond (int_lt l t) t l

unfoldable pub released : SynchronizedRemoteClock → ℕ → ℤ
released k ts = later_of k.last (instant_of k.base ts)

-- and it is the last one from then on
unfoldable pub release_of : SynchronizedRemoteClock → ℕ → Release
release_of k ts =
    record {
      clock = record { base = k.base; last = Some (released k ts); seen = k.seen; stats = k.stats };
      time = released k ts;
    }
