-- The drift's samples, both figures f64: 01, "Clock", from "Then samples enter" to "that end)".
use Rattle.std.specs.Prelude.{ℕ, ◌+◌, min, false, ℤ, pos, Float}
use Rattle.std.specs.Float.{fin, binary64}
use Rattle.std.specs.Float.Ieee.{add, sub, mul, div, of_int, to_unsigned, to_signed}
use Rattle.clock.specs.Root.{root}
use Rattle.clock.specs.declared.stats.OnlineStats.{OnlineStats}

-- no sample yet: both figures +0.0
unfoldable pub no_samples : OnlineStats
no_samples = record { mean = fin false 0 (pos 0); squares = fin false 0 (pos 0); count = 0 }

-- d = x - mean
unfoldable pub distance_of : OnlineStats → ℤ → Float
distance_of s x = sub binary64 (of_int binary64 x) s.mean

-- mean += d / n
unfoldable pub mean_with : OnlineStats → ℤ → Float
mean_with s x = add binary64 s.mean (div binary64 (distance_of s x) (of_int binary64 (pos (s.count + 1))))

-- q += d × (x - mean), by the mean just made
unfoldable pub squares_with : OnlineStats → ℤ → Float
squares_with s x = add binary64 s.squares (mul binary64 (distance_of s x) (sub binary64 (of_int binary64 x) (mean_with s x)))

unfoldable pub sampled : OnlineStats → ℤ → OnlineStats
sampled s x = record { mean = mean_with s x; squares = squares_with s x; count = s.count + 1 }

-- v = q / n
unfoldable pub variance_of : OnlineStats → Float
variance_of s = div binary64 s.squares (of_int binary64 (pos s.count))

-- deviation = whole square root of v's whole part (v negative or NaN: 0, as `to_unsigned` has it; at most 2,147,483,647)
unfoldable pub deviation_of : Float → ℕ
deviation_of v = min (root (to_unsigned 64 v)) 2147483647

-- mean truncated to signed 32 bits, 31 beside the sign (NaN: 0; beyond an end: that end)
unfoldable pub truncated_of : Float → ℤ
truncated_of m = to_signed 31 m
