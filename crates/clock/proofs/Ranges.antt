-- The clock's ranges as facts: what a passed test gives. Assumes nothing.
use Rattle.std.proofs.Common.{◌≡◌, ◌-◌, ◌^◌, ◌≤◌, Bool, true, ◌&&◌, leb, ℤ, pos, negsuc, nat_abs, sym, ◌∙◌, arith, le-leb, leb-true}
use Rattle.numbers.specs.Instants.{is_reading}
use Rattle.numbers.proofs.Flags.{and_left, and_right}
use Rattle.numbers.proofs.Signs.{reading-size}
use Rattle.clock.specs.Base.{in_reference}
use Rattle.clock.specs.Ready.{Ready}
use Rattle.clock.specs.Ranges.{last_ok, clock_ok}
use Rattle.clock.specs.declared.time.SynchronizedRemoteClock.{SynchronizedRemoteClock}

-- within 2^61 of zero
pub reference-near : (t : ℤ) → nat_abs t ≤ 2 ^ 61 → in_reference t ≡ true
reference-near (pos n) h = le-leb n (2 ^ 61) h
reference-near (negsuc n) h = rw (le-leb n (2 ^ 61 - 1) (omega arith))

pub reference-size : (t : ℤ) → in_reference t ≡ true → nat_abs t ≤ 2 ^ 61
reference-size (pos n) e = leb-true n (2 ^ 61) e
reference-size (negsuc n) e = omega (arith, leb-true n (2 ^ 61 - 1) (and_left _ _ e))

-- the three tests of a clock, taken apart and put together
pub record Ranges (k : SynchronizedRemoteClock) : Type 0 where
  pub reference : in_reference k.base.time ≡ true
  pub last : last_ok k.last ≡ true
  pub samples : leb k.stats.count 999 ≡ true

pub ranges : (k : SynchronizedRemoteClock) → clock_ok k ≡ true → Ranges k
unfolding clock_ok
ranges k e =
    let ab = and_left (in_reference k.base.time && last_ok k.last) _ e in
    record {
      reference = and_left (in_reference k.base.time) _ ab;
      last = and_right (in_reference k.base.time) _ ab;
      samples = and_right (in_reference k.base.time && last_ok k.last) _ e;
    }

pub clock-ok : (k : SynchronizedRemoteClock) → Ranges k → clock_ok k ≡ true
unfolding clock_ok
clock-ok k r = rw (r.reference, r.last, r.samples)

-- what a caller who tested the clock and the reading may call with
pub ready : (k : SynchronizedRemoteClock) (now : ℤ) → clock_ok k ≡ true → is_reading now ≡ true → Ready k now
ready k now e r =
    let o = ranges k e in
    record {
      reference = reference-size k.base.time o.reference;
      reading = (reading-size now r).1;
      samples = omega (arith, leb-true k.stats.count 999 o.samples);
    }

-- the same by two flags, as a program has them
pub ready_by : {k : SynchronizedRemoteClock} {now : ℤ} {a b : Bool} → a ≡ clock_ok k → a ≡ true → b ≡ is_reading now → b ≡ true → Ready k now
ready_by {k} {now} p e q f = ready k now (sym p ∙ e) (sym q ∙ f)
