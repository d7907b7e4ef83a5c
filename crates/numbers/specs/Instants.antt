-- Instants and intervals, whole numbers of µs with a sign: 01, "Numbers".
use Rattle.std.specs.Prelude.{ℕ, ◌^◌, Bool, cond, ◌&&◌, ℤ, pos, negsuc, ◌-ℤ◌, int_le, int_lt, unsigned_abs}

-- a reading lies in 0..2^60-1
abbrev pub is_reading : ℤ → Bool
is_reading z = int_le (pos 0) z && int_lt z (pos (2 ^ 60))

-- the ends of the signed 32-bit range, -2^31 and 2^31-1
abbrev pub least : ℤ
least = negsuc 2147483647

abbrev pub most : ℤ
most = pos 2147483647

-- clamped to that range
unfoldable pub clamp : ℤ → ℤ
clamp z = cond (int_lt z least) least (cond (int_lt most z) most z)

-- an interval is the difference of two instants, clamped
unfoldable pub interval_of : ℤ → ℤ → ℤ
interval_of begin end = clamp (end -ℤ begin)

-- a departure, probe or arrival time after `now` is read as `now`
abbrev pub read_by : ℤ → ℤ → ℤ
read_by now t = cond (int_lt now t) now t

-- the interval since such a time, which is not negative
unfoldable pub since_time : ℤ → ℤ → ℕ
since_time now t = unsigned_abs (interval_of (read_by now t) now)
