-- The time base: 01, "Clock", as far as "both move to `now`".
use Rattle.std.specs.Prelude.{ℕ, ◌-◌, ◌^◌, Bool, cond, ◌&&◌, ℤ, pos, negsuc, ◌+ℤ◌, ◌-ℤ◌, int_le, int_lt, Result, Ok, Err}
use Rattle.numbers.specs.Circular.{difference, wrap}
use Rattle.clock.specs.declared.base.TimeBase.{TimeBase}
use Rattle.clock.specs.declared.base.DriftRange.{DriftRange}

-- reference time starts at the start time, reference stamp at 0
unfoldable pub fresh_base : ℤ → TimeBase
fresh_base start = record { time = start; stamp = 0 }

-- reference time lies in -2^61..2^61
abbrev pub in_reference : ℤ → Bool
in_reference t = int_le (negsuc (2 ^ 61 - 1)) t && int_le t (pos (2 ^ 61))

-- a stamp's time is reference + signed stamp difference
unfoldable pub instant_of : TimeBase → ℕ → ℤ
instant_of b ts = b.time +ℤ difference 32 ts b.stamp

-- reference stamp + now - reference: the stamp that stands for now
unfoldable pub stamp_of : TimeBase → ℤ → ℕ
stamp_of b now = wrap 32 (pos b.stamp +ℤ now -ℤ b.time)

-- drift = (reference stamp + now - reference) - ts
unfoldable pub drift_of : TimeBase → ℤ → ℕ → ℤ
drift_of b now ts = difference 32 (stamp_of b now) ts

-- adjusting subtracts the drift from the reference time
unfoldable pub shifted : TimeBase → ℤ → TimeBase
shifted b drift = record { time = b.time -ℤ drift; stamp = b.stamp }

-- if now is then after it, time and stamp both move to now
unfoldable pub moved : TimeBase → ℤ → TimeBase
moved b now = cond (int_lt b.time now) (record { time = now; stamp = stamp_of b now }) b

-- refusal 14: the adjusted reference time would end out of range
unfoldable pub adjusted : TimeBase → ℤ → ℤ → Result TimeBase DriftRange
adjusted b now drift =
    cond (in_reference (moved (shifted b drift) now).time) (Ok (moved (shifted b drift) now)) (Err (record {}))
