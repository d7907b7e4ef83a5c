-- What `TimeBase::adjust` does at each return, as laws over plain values. A signed number stands twice, as it is (`now`) and as the machine reads
-- it back (`n`). Assumes nothing.
use Rattle.std.proofs.Common.{◌≡◌, ℕ, ◌+◌, ◌^◌, ◌<◌, ◌≤◌, Bool, true, false, ℤ, nat_abs, sym, ◌∙◌, arith, w32, SFits, rules}
use lib.Signed.{lt_z}
use Rattle.std.specs.Prelude.{Ok, Err}
use Rattle.numbers.proofs.Halves.{size--, size_fits}
use Rattle.clock.specs.Base.{stamp_of, in_reference, shifted, moved, adjusted}
use Rattle.clock.specs.declared.base.TimeBase.{TimeBase}
use Rattle.clock.proofs.Ranges.{reference-near}

-- a shifted time is within 2^61 + 2^31 of zero
pub shifted-size : (b : TimeBase) {x : TimeBase} {d drift : ℤ}
    → x ≡ shifted b d → d ≡ drift → nat_abs b.time ≤ 2 ^ 61 → SFits w32 drift
    → nat_abs x.time ≤ 2 ^ 61 + 2 ^ 31
unfolding shifted
shifted-size b {drift = drift} e p h f = rw (e, p) (omega (arith, size-- b.time drift, size_fits f))

module _ (b : TimeBase) (now drift : ℤ) where
  pub moves : {x : TimeBase} {d n n₁ n₂ t : ℤ} {p : ℕ}
      → x ≡ shifted b d → d ≡ drift → lt_z t n ≡ true → t ≡ x.time → n ≡ now → p ≡ stamp_of x n₁ → n₁ ≡ now → n₂ ≡ now → nat_abs now < 2 ^ 60
      → Ok (record { time = n₂; stamp = p }) ≡ adjusted b now drift
  unfolding adjusted moved
  moves e q h a c f i j l = rw (← q, ← e, rw (a, c) at h, reference-near now (omega arith), f, i, j)

  pub stays : {x : TimeBase} {d n t t₁ : ℤ} {r : Bool}
      → x ≡ shifted b d → d ≡ drift → lt_z t n ≡ false → t ≡ x.time → n ≡ now → r ≡ in_reference t₁ → t₁ ≡ x.time → r ≡ true
      → Ok x ≡ adjusted b now drift
  unfolding adjusted moved
  stays e q h a c f g i = rw (← q, ← e, rw (a, c) at h, ← g, sym f ∙ i)

  pub leaves : {x : TimeBase} {d n t t₁ : ℤ} {r : Bool}
      → x ≡ shifted b d → d ≡ drift → lt_z t n ≡ false → t ≡ x.time → n ≡ now → r ≡ in_reference t₁ → t₁ ≡ x.time → r ≡ false
      → Err (record {}) ≡ adjusted b now drift
  unfolding adjusted moved
  leaves e q h a c f g i = rw (← q, ← e, rw (a, c) at h, ← g, sym f ∙ i)

pub ruleset adjusting = (shifted-size, moves, stays, leaves, rules)
