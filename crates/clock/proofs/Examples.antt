-- Worked examples of 01, "Clock", computed from the definitions. Assumes nothing.
use Rattle.std.proofs.Common.{◌≡◌, ℕ, ◌-◌, ◌*◌, ◌^◌, true, false, ℤ, pos, negsuc, refl, lit<, lit≤}
use lib.Ieee.{nan, inf, fin, round, of_int, add, sub, mul, div, to_unsigned, to_signed}
use Rattle.numbers.specs.Circular.{distance, signed, difference, wrap}
use Rattle.std.specs.Prelude.{None, Ok, Err}
use Rattle.clock.specs.Base.{fresh_base, instant_of, stamp_of, drift_of, shifted, moved, adjusted}
use Rattle.clock.specs.Root.{root}
use Rattle.clock.specs.Samples.{no_samples, distance_of, mean_with, squares_with, sampled, variance_of, deviation_of, truncated_of}
use Rattle.clock.specs.Sync.{fresh_clock, adjusted_by, judged, sample_taken, synchronized}
use Rattle.clock.specs.Release.{released, release_of}
use Rattle.clock.specs.declared.base.TimeBase.{TimeBase}
use Rattle.clock.specs.declared.stats.OnlineStats.{OnlineStats}
use Rattle.clock.specs.declared.time.SynchronizedRemoteClock.{SynchronizedRemoteClock}
use Rattle.clock.specs.declared.time.Step.{Step}
use Rattle.clock.specs.declared.time.Synchronized.TheVariants as answers
use Rattle.clock.proofs.Roots.{root_is}

abbrev base : ℤ → ℕ → TimeBase
base t s = record { time = t; stamp = s }

abbrev clock : TimeBase → OnlineStats → SynchronizedRemoteClock
clock b s = record { base = b; last = None; seen = true; stats = s }

-- a stamp a turn ahead of the reference's is a microsecond before it
behind : instant_of (base (pos 1000) 0) 4294967295 ≡ pos 999
unfolding instant_of difference signed distance
behind = refl

-- half a turn ahead is half a turn before (A7)
half-turn : instant_of (base (pos 0) 0) 2147483648 ≡ negsuc 2147483647
unfolding instant_of difference signed distance
half-turn = refl

late : drift_of (base (pos 0) 0) (pos 1000000) 999000 ≡ pos 1000
unfolding drift_of stamp_of wrap difference signed distance
late = refl

-- a drift is a difference of stamps, not of instants: a whole turn is none (A59)
whole-turn : drift_of (base (pos 0) 0) (pos 4294967296) 0 ≡ pos 0
unfolding drift_of stamp_of wrap difference signed distance
whole-turn = refl

-- the first drift, 600, adjusts at once, answering none: the reference time is 600 less, then moves to 1,000, and the stamp by as much (A60)
after_first : Step
after_first = record { clock = clock (base (pos 1000) 1600) no_samples; answer = answers.Nothing }

first-drift : synchronized (fresh_clock (pos 0)) (pos 1000) 400 ≡ Ok after_first
unfolding after_first synchronized adjusted_by adjusted moved shifted drift_of stamp_of wrap difference signed distance fresh_clock fresh_base
first-drift = refl

-- the stamp of that packet now stands for -200, not for 1,000 (A1) ..
first-stamp : instant_of after_first.clock.base 400 ≡ negsuc 199
unfolding after_first instant_of difference signed distance
first-stamp = refl

-- .. and the next drift of the unchanged link is doubled: 1,200
doubled : drift_of after_first.clock.base (pos 2000) 1400 ≡ pos 1200
unfolding after_first drift_of stamp_of wrap difference signed distance
doubled = refl

-- refusal 14 at the upper end, 1 past 2^61; at the lower end the reading takes the time's place (A32)
too-high : synchronized (record { base = base (pos (2 ^ 61)) 0; last = None; seen = false; stats = no_samples }) (pos 0) 1 ≡ Err (record {})
unfolding synchronized adjusted_by adjusted moved shifted drift_of stamp_of wrap difference signed distance
too-high = refl

not-too-low : synchronized (record { base = base (negsuc (2 ^ 61 - 1)) 0; last = None; seen = false; stats = no_samples }) (pos 0) 4294967295 ≡ Ok (record { clock = clock (base (pos 0) 1) no_samples; answer = answers.Nothing })
unfolding synchronized adjusted_by adjusted moved shifted drift_of stamp_of wrap difference signed distance
not-too-low = refl

-- after the samples 3 and 6 the mean is 4.5 and the sum of squares 4.5; by the old mean it would be 9
two-means : (sampled (sampled no_samples (pos 3)) (pos 6)).mean ≡ fin false 9 (negsuc 0)
unfolding no_samples distance_of mean_with squares_with sampled round of_int add sub mul div
two-means = refl

two-squares : (sampled (sampled no_samples (pos 3)) (pos 6)).squares ≡ fin false 9 (negsuc 0)
unfolding no_samples distance_of mean_with squares_with sampled round of_int add sub mul div
two-squares = refl

-- the thousandth sample: 999 times 1,000, and once more. 1,000 is 125 × 2^3, as an f64 is written; after the first sample of 1,000 that is the mean, and the next leave it
abbrev steady : ℕ → OnlineStats
steady n = record { mean = fin false 125 (pos 3); squares = fin false 0 (pos 0); count = n }

one-thousand : sampled no_samples (pos 1000) ≡ steady 1
unfolding no_samples distance_of mean_with squares_with sampled round of_int add sub mul div
one-thousand = refl

once_more : sampled (steady 998) (pos 1000) ≡ steady 999
unfolding distance_of mean_with squares_with sampled round of_int add sub mul div
once_more = refl

thousandth : synchronized (clock (base (pos 0) 0) (steady 999)) (pos 9000) 8000 ≡ Ok (record { clock = clock (base (pos 9000) 10000) no_samples; answer = answers.Adjusted (pos 1000) 0 })
unfolding synchronized sample_taken judged adjusted_by adjusted moved shifted drift_of stamp_of wrap difference signed distance sampled distance_of mean_with squares_with variance_of deviation_of truncated_of root to_unsigned to_signed round of_int add sub mul div
thousandth = refl

-- the deviation of a variance: NaN, negative, infinite, and one step below 5,001 squared, where an f64 root rounds up (A5)
deviation-nan : deviation_of nan ≡ 0
unfolding deviation_of to_unsigned root
deviation-nan = refl

deviation-negative : (m : ℕ) (x : ℤ) → deviation_of (fin true m x) ≡ 0
unfolding deviation_of to_unsigned root
deviation-negative m x = refl

deviation-infinite : deviation_of (inf false) ≡ 2147483647
unfolding deviation_of to_unsigned
deviation-infinite = rw (root_is (2 ^ 64 - 1) (2 ^ 32 - 1) (lit≤ tt) (lit< tt))

deviation-below : deviation_of (fin false (25010001 * 2 ^ 28 - 1) (negsuc 27)) ≡ 5000
unfolding deviation_of to_unsigned
deviation-below = rw (root_is 25010000 5000 (lit≤ tt) (lit< tt))

-- the mean truncated: toward zero, NaN, and beyond an end
truncated-down : truncated_of (fin true 5 (negsuc 0)) ≡ negsuc 1
unfolding truncated_of to_signed
truncated-down = refl

truncated-nan : truncated_of nan ≡ pos 0
unfolding truncated_of to_signed
truncated-nan = refl

truncated-most : truncated_of (fin false 1 (pos 31)) ≡ pos 2147483647
unfolding truncated_of to_signed
truncated-most = refl

truncated-least : truncated_of (inf true) ≡ negsuc 2147483647
unfolding truncated_of to_signed
truncated-least = refl

-- a release never goes back: stamp 9 at start 5 is released at 14, and so is stamp 0 after it (A38)
one-release : (release_of (fresh_clock (pos 5)) 9).time ≡ pos 14
unfolding release_of released instant_of difference signed distance fresh_clock fresh_base
one-release = refl

no-earlier : (release_of (release_of (fresh_clock (pos 5)) 9).clock 0).time ≡ pos 14
unfolding release_of released instant_of difference signed distance fresh_clock fresh_base
no-earlier = refl
