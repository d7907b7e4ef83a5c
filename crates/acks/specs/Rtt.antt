-- The round trip's figures: 01, "ACKs, RTT, rates", and their range, "Head and lent areas".
use Rattle.std.specs.Prelude.{Bool, ◌&&◌, ℕ, ◌+◌, ◌-◌, ◌*◌, ◌/◌, ◌^◌, ltb}
use Rattle.acks.specs.declared.rtt.Rtt.{Rtt}

-- RTT starts at 10,000 and 1,000 µs
unfoldable pub fresh_rtt : Rtt
fresh_rtt = record { mean = 10000; variance = 1000 }

-- mean' = (7 mean + r) / 8, truncated
abbrev pub mean_with : Rtt → ℕ → ℕ
mean_with t r = (7 * t.mean + r) / 8

-- |a - b|: one of the two differences is 0
abbrev pub apart : ℕ → ℕ → ℕ
apart a b = (a - b) + (b - a)

-- var' = (3 var + |mean' - r|) / 4, truncated
abbrev pub variance_with : Rtt → ℕ → ℕ
variance_with t r = (3 * t.variance + apart (mean_with t r) r) / 4

unfoldable pub updated : Rtt → ℕ → Rtt
updated t r = record { mean = mean_with t r; variance = variance_with t r }

-- both figures 0..2^31-1
unfoldable pub rtt_ok : Rtt → Bool
rtt_ok t = ltb t.mean (2 ^ 31) && ltb t.variance (2 ^ 31)
