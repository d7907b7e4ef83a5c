-- What the clock call does, case by case: 01, "Clock". Assumes nothing.
use Rattle.std.proofs.Common.{◌≡◌, ℕ, ◌+◌, ◌^◌, ◌<◌, ◌≤◌, Bool, true, false, cond, not, ℤ, pos, ◌-ℤ◌, ap, ◌∙◌, arith, le-ltb, lt-ltb}
use lib.Signed.{lt_z}
use Rattle.std.specs.Prelude.{Result, Ok, Err}
use Rattle.numbers.specs.Instants.{is_reading}
use Rattle.numbers.proofs.Flags.{by_bool}
use Rattle.numbers.proofs.Halves.{apart, size, lt-false}
use Rattle.numbers.proofs.Signs.{reading-size}
use Rattle.clock.specs.Base.{drift_of, shifted, moved, adjusted}
use Rattle.clock.specs.Samples.{no_samples, sampled, variance_of, deviation_of, truncated_of}
use Rattle.clock.specs.Sync.{settled, adjusted_by, judged, sample_taken, synchronized}
use Rattle.clock.specs.declared.base.TimeBase.{TimeBase}
use Rattle.clock.specs.declared.base.DriftRange.{DriftRange}
use Rattle.clock.specs.declared.stats.OnlineStats.{OnlineStats}
use Rattle.clock.specs.declared.time.SynchronizedRemoteClock.{SynchronizedRemoteClock}
use Rattle.clock.specs.declared.time.Step.{Step}
use Rattle.clock.specs.declared.time.Synchronized.TheVariants as answers
use Rattle.clock.proofs.Ranges.{reference-near}
use Rattle.clock.proofs.Steps.{step}

-- the cases of `synchronized`, by the flag
pub not_seen : (k : SynchronizedRemoteClock) (now : ℤ) (ts : ℕ) → k.seen ≡ false → synchronized k now ts ≡ adjusted_by k now (drift_of k.base now ts) answers.Nothing
unfolding synchronized
not_seen k now ts e = ap (λ (t : Bool). cond (not t) (adjusted_by k now (drift_of k.base now ts) answers.Nothing) (sample_taken k now (drift_of k.base now ts))) e

pub was-seen : (k : SynchronizedRemoteClock) (now : ℤ) (ts : ℕ) → k.seen ≡ true → synchronized k now ts ≡ sample_taken k now (drift_of k.base now ts)
unfolding synchronized
was-seen k now ts e = ap (λ (t : Bool). cond (not t) (adjusted_by k now (drift_of k.base now ts) answers.Nothing) (sample_taken k now (drift_of k.base now ts))) e

module _ (k : SynchronizedRemoteClock) (now : ℤ) (ts : ℕ) where
  abbrev drift : ℤ
  drift = drift_of k.base now ts

  abbrev samples : OnlineStats
  samples = sampled k.stats drift

  -- the first drift adjusts at once, answering none
  pub first : (b : TimeBase) → k.seen ≡ false → adjusted k.base now drift ≡ Ok b → synchronized k now ts ≡ Ok (step (settled k b no_samples) answers.Nothing)
  unfolding adjusted_by
  first b e a = not_seen k now ts e ∙ rw a

  -- a sample before the thousandth
  pub sample : k.seen ≡ true → k.stats.count + 1 < 1000 → synchronized k now ts ≡ Ok (step (settled k k.base samples) answers.Nothing)
  unfolding sample_taken sampled
  sample e h = was-seen k now ts e ∙ rw (lt-ltb (k.stats.count + 1) 1000 h)

  module _ (e : k.seen ≡ true) (h : 1000 ≤ k.stats.count + 1) where
    judges : synchronized k now ts ≡ judged k now samples
    unfolding sample_taken sampled
    judges = was-seen k now ts e ∙ rw (le-ltb (k.stats.count + 1) 1000 h)

    -- the thousandth, over 5,000: unsteady, and nothing but the samples changes
    pub thousandth-unsteady : 5000 < deviation_of (variance_of samples)
        → synchronized k now ts ≡ Ok (step (settled k k.base no_samples) (answers.Unsteady (deviation_of (variance_of samples)) (variance_of samples)))
    unfolding judged
    thousandth-unsteady o = judges ∙ rw (lt-ltb 5000 (deviation_of (variance_of samples)) o)

    -- the thousandth, at most 5,000: adjusted by the truncated mean
    pub thousandth-steady : (b : TimeBase) → deviation_of (variance_of samples) ≤ 5000 → adjusted k.base now (truncated_of samples.mean) ≡ Ok b
        → synchronized k now ts ≡ Ok (step (settled k b no_samples) (answers.Adjusted (truncated_of samples.mean) (deviation_of (variance_of samples))))
    unfolding judged adjusted_by
    thousandth-steady b o a = judges ∙ rw (le-ltb 5000 (deviation_of (variance_of samples)) o, a)

-- refusal 14 changes nothing: the clock that a call leaves is its caller's own
abbrev pub left_by : SynchronizedRemoteClock → Result Step DriftRange → SynchronizedRemoteClock
left_by k (Ok s) = s.clock
left_by k (Err refusal) = k

pub refused-14 : (k : SynchronizedRemoteClock) (now : ℤ) (ts : ℕ) {refusal : DriftRange} → synchronized k now ts ≡ Err refusal → left_by k (synchronized k now ts) ≡ k
refused-14 k now ts e = rw e

-- only the upper end refuses: a time below it is replaced by the reading
pub upper-end : (b : TimeBase) (now drift : ℤ) {refusal : DriftRange} → is_reading now ≡ true → adjusted b now drift ≡ Err refusal → lt_z (pos (2 ^ 61)) (b.time -ℤ drift) ≡ true
unfolding adjusted moved shifted
upper-end b now drift r e =
    let t = b.time -ℤ drift in
    let near = reading-size now r in
    by_bool (lt_z t now)
    (λ (h : lt_z t now ≡ true). no-base (rw (h, reference-near now (omega arith)) at e))
    (λ (h : lt_z t now ≡ false).
    let o = lt-false t now h in
    by_bool (lt_z (pos (2 ^ 61)) t)
    (λ (f : lt_z (pos (2 ^ 61)) t ≡ true). f)
    (λ (f : lt_z (pos (2 ^ 61)) t ≡ false).
    let u = lt-false (pos (2 ^ 61)) t f in
    no-base (rw (h, reference-near t (omega (arith, size t, apart t, apart now))) at e)))
  where
    no-base : {P : Type 0} {x : TimeBase} {y : DriftRange} → ◌≡◌ {A = Result TimeBase DriftRange} (Ok x) (Err y) → P
    no-base e = absurd (let z : ◌≡◌ {A = ℕ} 0 1 = cc in omega arith)
