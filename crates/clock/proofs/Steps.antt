-- What the code of time.rt does at each return, as laws over plain values; the proof files hand them to `search`. A signed number stands twice, as
-- it is (`now`) and as the machine reads it back (`n`). Assumes nothing.
use Rattle.std.proofs.Common.{◌≡◌, ℕ, ◌<◌, ◌≤◌, Bool, true, false, cond, not, ◌&&◌, leb, ℤ, sym, ap, ◌∙◌, rules, le-ltb, lt-ltb}
use lib.Ieee.{Float}
use Rattle.std.specs.Int.{int_max}
use Rattle.std.specs.Prelude.{Option, Some, None, Result, Ok}
use Rattle.clock.specs.Base.{fresh_base, instant_of, drift_of, in_reference}
use Rattle.clock.specs.Samples.{no_samples, sampled, variance_of, deviation_of, truncated_of}
use Rattle.clock.specs.Sync.{fresh_clock, settled, adjusted_by, judged, sample_taken, synchronized}
use Rattle.clock.specs.Release.{later_of, released, release_of}
use Rattle.clock.specs.Ranges.{last_ok, clock_ok}
use Rattle.clock.specs.declared.base.TimeBase.{TimeBase}
use Rattle.clock.specs.declared.base.DriftRange.{DriftRange}
use Rattle.clock.specs.declared.stats.OnlineStats.{OnlineStats}
use Rattle.clock.specs.declared.time.SynchronizedRemoteClock.{SynchronizedRemoteClock}
use Rattle.clock.specs.declared.time.Step.{Step}
use Rattle.clock.specs.declared.time.Release.{Release}
use Rattle.clock.specs.declared.time.Synchronized.{Synchronized}
use Rattle.clock.specs.declared.time.Synchronized.TheVariants as answers

abbrev pub step : SynchronizedRemoteClock → Synchronized → Step
step k a = record { clock = k; answer = a }

module _ (k : SynchronizedRemoteClock) (now : ℤ) where
  -- judge
  pub unsteady : (s : OnlineStats) {v : Float} {d : ℕ} {t : OnlineStats} {k₁ : SynchronizedRemoteClock}
      → v ≡ variance_of s → d ≡ deviation_of v → 5000 < d → t ≡ no_samples → k₁ ≡ settled k k.base t
      → Ok (step k₁ (answers.Unsteady d v)) ≡ judged k now s
  unfolding judged
  unsteady s e f h g i = rw (← e, ← f, lt-ltb _ _ h, i, g)

  pub steady : (s : OnlineStats) {v : Float} {d : ℕ} {n m m₁ m₂ : ℤ} {r : Result Step DriftRange}
      → v ≡ variance_of s → d ≡ deviation_of v → d ≤ 5000 → m ≡ truncated_of s.mean
      → r ≡ adjusted_by k n m₁ (answers.Adjusted m₂ d) → n ≡ now → m₁ ≡ m → m₂ ≡ m
      → r ≡ judged k now s
  unfolding judged
  steady s e f h g i p q o = rw (← e, ← f, le-ltb _ _ h, ← g, i, p, q, o)

  -- take_sample
  pub sample-kept : (drift : ℤ) {d : ℤ} {s : OnlineStats} {k₁ : SynchronizedRemoteClock}
      → s ≡ sampled k.stats d → d ≡ drift → s.count < 1000 → k₁ ≡ settled k k.base s
      → Ok (step k₁ answers.Nothing) ≡ sample_taken k now drift
  unfolding sample_taken
  sample-kept drift e p h g = rw (← p, ← e, lt-ltb _ _ h, g)

  pub sample-last : (drift : ℤ) {d n : ℤ} {s : OnlineStats} {r : Result Step DriftRange}
      → s ≡ sampled k.stats d → d ≡ drift → 1000 ≤ s.count → r ≡ judged k n s → n ≡ now
      → r ≡ sample_taken k now drift
  unfolding sample_taken
  sample-last drift e p h g q = rw (← p, ← e, le-ltb _ _ h, g, q)

  -- synchronize
  pub first-drift : (ts : ℕ) {n n₁ d d₁ : ℤ} {t : Bool} {r : Result Step DriftRange}
      → d ≡ drift_of k.base n ts → n ≡ now → t ≡ k.seen → t ≡ false → r ≡ adjusted_by k n₁ d₁ answers.Nothing → n₁ ≡ now → d₁ ≡ d
      → r ≡ synchronized k now ts
  unfolding synchronized
  first-drift ts e p s f g q o =
      g
      ∙ rw (q, o, e, p)
      (ap (λ (t : Bool). cond (not t) (adjusted_by k now (drift_of k.base now ts) answers.Nothing) (sample_taken k now (drift_of k.base now ts))) (sym f ∙ s))

  pub later-drift : (ts : ℕ) {n n₁ d d₁ : ℤ} {t : Bool} {r : Result Step DriftRange}
      → d ≡ drift_of k.base n ts → n ≡ now → t ≡ k.seen → t ≡ true → r ≡ sample_taken k n₁ d₁ → n₁ ≡ now → d₁ ≡ d
      → r ≡ synchronized k now ts
  unfolding synchronized
  later-drift ts e p s f g q o =
      g
      ∙ rw (q, o, e, p)
      (ap (λ (t : Bool). cond (not t) (adjusted_by k now (drift_of k.base now ts) answers.Nothing) (sample_taken k now (drift_of k.base now ts))) (sym f ∙ s))

-- later: as `max` has it
pub no_last : {m : Option ℤ} {t n : ℤ} → m ≡ None → n ≡ t → n ≡ later_of m t
no_last e p = rw (e, p)

pub is_later : {m : Option ℤ} {l l₁ t n x x₁ : ℤ} → m ≡ Some l → x ≡ int_max n l₁ → l₁ ≡ l → n ≡ t → x₁ ≡ x → x₁ ≡ later_of m t
is_later e f q p g = rw (g, f, q, p, e)

-- last_in_range, in_range
pub last-test : {m : Option ℤ} {l l₁ : ℤ} → m ≡ Some l → l₁ ≡ l → last_ok (Some l₁) ≡ last_ok m
last-test e p = rw (e, p)

pub range-test : (k : SynchronizedRemoteClock) {r s : Bool} {t : ℤ}
    → r ≡ in_reference t → t ≡ k.base.time → s ≡ last_ok k.last
    → (r && s && leb k.stats.count 999) ≡ clock_ok k
unfolding clock_ok
range-test k e p f = rw (e, p, f)

-- monotonic_instant_from
pub release : (k : SynchronizedRemoteClock) (ts : ℕ) {i i₁ t t₁ : ℤ}
    → i ≡ instant_of k.base ts → i₁ ≡ i → t ≡ later_of k.last i₁ → t₁ ≡ t
    → ◌≡◌ {A = Release} (record { clock = record { base = k.base; last = Some t₁; seen = k.seen; stats = k.stats }; time = t₁ }) (release_of k ts)
unfolding release_of released
release k ts e p f q = rw (q, f, p, e)

-- new
pub fresh : (start : ℤ) {n : ℤ} {b : TimeBase} {s : OnlineStats}
    → b ≡ fresh_base n → n ≡ start → s ≡ no_samples
    → ◌≡◌ {A = SynchronizedRemoteClock} (record { base = b; last = None; seen = false; stats = s }) (fresh_clock start)
unfolding fresh_clock
fresh start e p f = rw (e, p, f)

pub ruleset steps = (
  unsteady,
  steady,
  sample-kept,
  sample-last,
  first-drift,
  later-drift,
  no_last,
  is_later,
  last-test,
  range-test,
  release,
  fresh,
  rules,
)
