-- The clock's part of the head's range test: 01, "Head and lent areas". Flags and the two f64 have no range.
use Rattle.std.specs.Prelude.{◌+◌, ◌-◌, ◌^◌, Bool, true, ◌&&◌, ℤ, pos, negsuc, int_le, nat_le, Option, Some, None}
use Rattle.clock.specs.Base.{in_reference}
use Rattle.clock.specs.declared.time.SynchronizedRemoteClock.{SynchronizedRemoteClock}

-- last released time within 2^61 + 2^31 of zero
abbrev pub last_ok : Option ℤ → Bool
last_ok None = true
last_ok (Some t) = int_le (negsuc (2 ^ 61 + 2 ^ 31 - 1)) t && int_le t (pos (2 ^ 61 + 2 ^ 31))

-- reference time, last released time, and drift samples 0..999
unfoldable pub clock_ok : SynchronizedRemoteClock → Bool
clock_ok k = in_reference k.base.time && last_ok k.last && nat_le k.stats.count 999
