-- The clock call: 01, "Clock". What it answers, and the clock after it.
use Rattle.std.specs.Prelude.{ℕ, true, false, cond, not, ℤ, nat_lt, None, Result, Ok, Err}
use Rattle.clock.specs.Base.{fresh_base, drift_of, adjusted}
use Rattle.clock.specs.Samples.{no_samples, sampled, variance_of, deviation_of, truncated_of}
use Rattle.clock.specs.declared.base.TimeBase.{TimeBase}
use Rattle.clock.specs.declared.base.DriftRange.{DriftRange}
use Rattle.clock.specs.declared.stats.OnlineStats.{OnlineStats}
use Rattle.clock.specs.declared.time.SynchronizedRemoteClock.{SynchronizedRemoteClock}
use Rattle.clock.specs.declared.time.Step.{Step}
use Rattle.clock.specs.declared.time.Synchronized.{Synchronized}
use Rattle.clock.specs.declared.time.Synchronized.TheVariants as answers

-- fresh: counts and sums 0, optional times unset, no drift seen
unfoldable pub fresh_clock : ℤ → SynchronizedRemoteClock
fresh_clock start = record { base = fresh_base start; last = None; seen = false; stats = no_samples }

-- the clock with this base and these samples, after a drift
abbrev pub settled : SynchronizedRemoteClock → TimeBase → OnlineStats → SynchronizedRemoteClock
settled k b s = record { base = b; last = k.last; seen = true; stats = s }

-- the adjusted clock, its samples emptied, and the answer; or refusal 14, and the clock stays
abbrev pub after_adjusting : SynchronizedRemoteClock → Synchronized → Result TimeBase DriftRange → Result Step DriftRange
after_adjusting k answer (Ok b) = Ok (record { clock = settled k b no_samples; answer = answer })
after_adjusting k answer (Err refusal) = Err refusal

unfoldable pub adjusted_by : SynchronizedRemoteClock → ℤ → ℤ → Synchronized → Result Step DriftRange
adjusted_by k now drift answer = after_adjusting k answer (adjusted k.base now drift)

-- samples are emptied; deviation over 5,000 answers unsteady, with v itself; else adjust, by the mean in the answer
unfoldable pub judged : SynchronizedRemoteClock → ℤ → OnlineStats → Result Step DriftRange
judged k now s =
    let v = variance_of s in
    let mean = truncated_of s.mean in
    cond (nat_lt 5000 (deviation_of v))
    (Ok (record { clock = settled k k.base no_samples; answer = answers.Unsteady (deviation_of v) v }))
    (adjusted_by k now mean (answers.Adjusted mean (deviation_of v)))

-- then samples enter; at 1,000 they are judged
unfoldable pub sample_taken : SynchronizedRemoteClock → ℤ → ℤ → Result Step DriftRange
sample_taken k now drift =
    cond (nat_lt (sampled k.stats drift).count 1000)
    (Ok (record { clock = settled k k.base (sampled k.stats drift); answer = answers.Nothing }))
    (judged k now (sampled k.stats drift))

-- the first drift adjusts at once, answering none
unfoldable pub synchronized : SynchronizedRemoteClock → ℤ → ℕ → Result Step DriftRange
synchronized k now ts =
    let drift = drift_of k.base now ts in
    cond (not k.seen) (adjusted_by k now drift answers.Nothing) (sample_taken k now drift)
