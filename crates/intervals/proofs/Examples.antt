-- Worked examples of 01, "ACKs, RTT, rates", computed from the definitions. Assumes nothing.
use mathlib.Core.Path.{◌≡◌, refl}
use mathlib.Core.List.{List, ◌++◌}
use Prim.Native.Nat.{ℕ}
use lib.ListN.{replicate}
use lib.IntN.{pos}
use Rattle.numbers.specs.Instants as instants
use Rattle.std.specs.Prelude.{Some, None}
use Rattle.intervals.specs.Median.{insert, sort, median_of}
use Rattle.intervals.specs.Rates.{fresh_arrivals, fresh_links, arrival_of, take_in, kept_of, rate_of, no_speed, some_speed, speed_kept, speed_of, pair_of, link_of, link_rate, capacity_of}
use Rattle.intervals.specs.declared.rates.Arrivals.{Arrivals}
use Rattle.intervals.specs.declared.rates.Links.{Links}

-- eight intervals of 200 and eight of 100: index 8 of the sorted 16 is a 200, index 7 a 100
abbrev mixed : List ℕ
mixed = replicate 8 200 ++ replicate 8 100

abbrev arrivals : List ℕ → ℕ → Arrivals
arrivals gaps count = record { gaps = gaps; sizes = replicate 16 1456; at = 0; count = count; last = None }

abbrev pairs : List ℕ → ℕ → Links
pairs gaps count = record { gaps = gaps; at = 0; count = count; probe = None }

middle : median_of mixed 8 ≡ 200
unfolding median_of sort insert
middle = refl

below-middle : capacity_of (pairs mixed 16) ≡ Some 10000
unfolding capacity_of link_rate median_of sort insert
below-middle = refl

-- 16 packets of 1,456 bytes in 2,400 µs, truncated; one interval fewer, none
fast : speed_of (arrivals mixed 16) ≡ some_speed 6666 9706666
unfolding speed_of speed_kept kept_of take_in rate_of median_of sort insert
fast = refl

too_few : speed_of (arrivals mixed 15) ≡ no_speed
unfolding speed_of
too_few = refl

-- intervals far from the median are not kept: 9 are enough, 8 are not
nine : speed_of (arrivals (replicate 9 100 ++ replicate 7 800) 16) ≡ some_speed 10000 14560000
unfolding speed_of speed_kept kept_of take_in rate_of median_of sort insert
nine = refl

eight : speed_of (arrivals (replicate 8 800 ++ replicate 8 100) 16) ≡ no_speed
unfolding speed_of speed_kept kept_of take_in rate_of median_of sort insert
eight = refl

-- whole division (A4), and no time at all
whole-division : capacity_of (pairs (replicate 16 5) 16) ≡ Some 200000
unfolding capacity_of link_rate median_of sort insert
whole-division = refl

no-time : capacity_of (pairs (replicate 16 0) 16) ≡ Some 4294967295
unfolding capacity_of link_rate median_of sort insert
no-time = refl

-- 32 sets the probe, 33 records the interval since it and unsets it; a probe after `now` is read as `now`
abbrev probed : Links
probed = link_of fresh_links (pos 1000) 32

pair : link_of probed (pos 1700) 33 ≡ record { gaps = replicate 1 700 ++ replicate 15 0; at = 1; count = 1; probe = None }
unfolding link_of pair_of instants.since_time fresh_links instants.interval_of instants.clamp
pair = refl

from-later : (link_of probed (pos 900) 33).gaps ≡ replicate 16 0
unfolding link_of pair_of instants.since_time fresh_links instants.interval_of instants.clamp
from-later = refl

-- the first arrival only sets the time
first-arrival : arrival_of fresh_arrivals (pos 1000) 10 ≡ record { gaps = replicate 16 0; sizes = replicate 16 0; at = 0; count = 0; last = Some (pos 1000) }
unfolding arrival_of fresh_arrivals
first-arrival = refl
