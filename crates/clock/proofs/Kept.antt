-- The clock's ranges are kept: a clock in range stays in range, so no run from a fresh one is ever refused 1 for it. Assumes nothing.
use Rattle.std.proofs.Common.{◌≡◌, ℕ, ◌+◌, ◌-◌, ◌^◌, ◌≤◌, true, not, ltb, ℤ, pos, negsuc, nat_abs, refl, arith, ltb-true, le-leb}
use lib.Signed.{lt_z, nat_abs-le}
use Rattle.numbers.specs.Instants.{is_reading}
use Rattle.numbers.specs.Circular.{difference}
use Rattle.std.specs.Prelude.{Option, Some, None, Result, Ok, Err, IfOk}
use Rattle.numbers.proofs.Flags.{by-test}
use Rattle.numbers.proofs.Halves.{size-+}
use Rattle.numbers.proofs.Signs.{reading-size}
use Rattle.numbers.proofs.Both.{stamp-range}
use Rattle.clock.specs.Base.{fresh_base, instant_of, drift_of, in_reference, shifted, moved, adjusted}
use Rattle.clock.specs.Samples.{no_samples, sampled, variance_of, deviation_of, truncated_of}
use Rattle.clock.specs.Sync.{fresh_clock, after_adjusting, adjusted_by, judged, sample_taken, synchronized}
use Rattle.clock.specs.Release.{later_of, released, release_of}
use Rattle.clock.specs.Ranges.{last_ok, clock_ok}
use Rattle.clock.specs.declared.base.TimeBase.{TimeBase}
use Rattle.clock.specs.declared.base.DriftRange.{DriftRange}
use Rattle.clock.specs.declared.stats.OnlineStats.{OnlineStats}
use Rattle.clock.specs.declared.time.SynchronizedRemoteClock.{SynchronizedRemoteClock}
use Rattle.clock.specs.declared.time.Step.{Step}
use Rattle.clock.specs.declared.time.Synchronized.{Synchronized}
use Rattle.clock.specs.declared.time.Synchronized.TheVariants as answers
use Rattle.clock.proofs.Ranges.{Ranges, reference-near, reference-size, ranges, clock-ok}

pub fresh_ok : (start : ℤ) → is_reading start ≡ true → clock_ok (fresh_clock start) ≡ true
unfolding fresh_clock fresh_base no_samples
fresh_ok start r =
    clock-ok (fresh_clock start)
    (record { reference = reference-near start (omega (arith, (reading-size start r).1)); last = refl; samples = refl })

-- an adjusted base is in range
abbrev InRange : Result TimeBase DriftRange → Type 0
InRange r = IfOk r (λ b. in_reference b.time ≡ true)

adjusted-ok : (b : TimeBase) (now drift : ℤ) → InRange (adjusted b now drift)
unfolding adjusted
adjusted-ok b now drift =
    by-test InRange (in_reference (moved (shifted b drift) now).time) (Ok (moved (shifted b drift) now)) (Err (record {})) (λ e. e) (λ e. tt)

abbrev Kept : Result Step DriftRange → Type 0
Kept r = IfOk r (λ s. Ranges s.clock)

module _ (k : SynchronizedRemoteClock) (now : ℤ) (r : Ranges k) where
  adjusting-kept : (drift : ℤ) (a : Synchronized) → Kept (adjusted_by k now drift a)
  unfolding adjusted_by no_samples
  adjusting-kept drift a = go (adjusted k.base now drift) (adjusted-ok k.base now drift)
    where
      go : (x : Result TimeBase DriftRange) → InRange x → Kept (after_adjusting k a x)
      go (Ok b) e = record { reference = e; last = r.last; samples = refl }
      go (Err x) e = tt

  judged-kept : (s : OnlineStats) → Kept (judged k now s)
  unfolding judged no_samples
  judged-kept s =
      by-test Kept (ltb 5000 (deviation_of (variance_of s))) _ _
      (λ t. record { reference = r.reference; last = r.last; samples = refl })
      (λ t. adjusting-kept (truncated_of s.mean) (answers.Adjusted (truncated_of s.mean) (deviation_of (variance_of s))))

  taken-kept : (drift : ℤ) → Kept (sample_taken k now drift)
  unfolding sample_taken
  taken-kept drift =
      let s = sampled k.stats drift in
      by-test Kept (ltb s.count 1000) _ _
      (λ t.
      record {
        reference = r.reference;
        last = r.last;
        samples = le-leb s.count 999 (omega (arith, ltb-true s.count 1000 t));
      })
      (λ t. judged-kept s)

  synchronizing-kept : (ts : ℕ) → Kept (synchronized k now ts)
  unfolding synchronized
  synchronizing-kept ts =
      by-test Kept (not k.seen) _ _
      (λ t. adjusting-kept (drift_of k.base now ts) answers.Nothing)
      (λ t. taken-kept (drift_of k.base now ts))

-- the clock call keeps the ranges
pub synchronized-kept : (k : SynchronizedRemoteClock) (now : ℤ) (ts : ℕ) → clock_ok k ≡ true → IfOk (synchronized k now ts) (λ s. clock_ok s.clock ≡ true)
synchronized-kept k now ts e = go (synchronized k now ts) (synchronizing-kept k now (ranges k e) ts)
  where
    go : (x : Result Step DriftRange) → Kept x → IfOk x (λ s. clock_ok s.clock ≡ true)
    go (Ok s) r = clock-ok s.clock r
    go (Err x) r = tt

-- a time within 2^61 + 2^31 of zero, and a stamp's time is one
last-near : (t : ℤ) → nat_abs t ≤ 2 ^ 61 + 2 ^ 31 → last_ok (Some t) ≡ true
last-near (pos n) h = le-leb n (2 ^ 61 + 2 ^ 31) h
last-near (negsuc n) h = rw (le-leb n (2 ^ 61 + 2 ^ 31 - 1) (omega arith))

pub instant-near : (b : TimeBase) (ts : ℕ) → in_reference b.time ≡ true → nat_abs (instant_of b ts) ≤ 2 ^ 61 + 2 ^ 31
unfolding instant_of
instant-near b ts e =
    let d = difference 32 ts b.stamp in
    let s : nat_abs d ≤ 2 ^ 31 = nat_abs-le d (stamp-range ts b.stamp) in
    omega (arith, size-+ b.time d, reference-size b.time e)

later-kept : (m : Option ℤ) (t : ℤ) → last_ok m ≡ true → last_ok (Some t) ≡ true → last_ok (Some (later_of m t)) ≡ true
later-kept None t a b = b
later-kept (Some l) t a b = by-test (λ (z : ℤ). last_ok (Some z) ≡ true) (lt_z l t) t l (λ e. b) (λ e. a)

-- a release keeps the ranges
pub release-kept : (k : SynchronizedRemoteClock) (ts : ℕ) → clock_ok k ≡ true → clock_ok (release_of k ts).clock ≡ true
unfolding release_of released
release-kept k ts e =
    let r = ranges k e in
    clock-ok (release_of k ts).clock
    (record {
      reference = r.reference;
      last = later-kept k.last (instant_of k.base ts) r.last (last-near (instant_of k.base ts) (instant-near k.base ts r.reference));
      samples = r.samples;
    })
