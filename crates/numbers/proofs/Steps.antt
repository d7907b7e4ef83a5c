-- What the code of this crate does at each return, as laws over plain numbers; the proof files hand them to `search`. Assumes nothing.
use Rattle.std.proofs.Common.{◌≡◌, ℕ, ◌+◌, ◌-◌, ◌%◌, ◌^◌, ◌<◌, ◌≤◌, true, false, ◌&&◌, T, ltb, leb, ℤ, pos, negsuc, ◌-ℤ◌, nat_abs, sym, refl, ap, ◌∙◌, mod-lt, mod-eq_of_lt, arith, pow_pos, w32, w64, Fits, SFits, rules}
use lib.Signed.{lt_z, non_neg}
use mir.Val.{to_z}
use Rattle.std.specs.Int.{int_rem_euclid, saturate_signed}
use Rattle.numbers.specs.Circular.{distance, after, before, saturating, wrap, signed, difference}
use Rattle.numbers.specs.Order.{order}
use Rattle.numbers.specs.Instants.{clamp, interval_of, since_time}
use Rattle.std.specs.declared.cmp.Ordering.TheVariants.{Less, Equal, Greater}
use Rattle.numbers.proofs.Halves.{same, not_negative, above--, below--}
use Rattle.numbers.proofs.Signs.{machine-signed, clamp-saturated, clamp-in, interval-above}
use Rattle.numbers.proofs.Circle.{equal-at, equal-not, after-at, after-not, before-test, saturating-near, saturating-far}

pub is-equal : (w a b : ℕ) {d : ℕ} → d ≡ distance w a b → d ≡ 0 → Equal ≡ order w a b
unfolding order
is-equal w a b e z = rw (equal-at w a b (sym e ∙ z))

pub is-after : (w a b : ℕ) {d : ℕ} → d ≡ distance w a b → (d ≡ 0 → ⊥) → d < 2 ^ (w - 1) → Greater ≡ order w a b
unfolding order
is-after w a b e nz h =
    let p : 0 < distance w a b = omega (arith, nz) in
    rw (equal-not w a b p, after-at w a b p (omega arith))

pub is-before : (w a b : ℕ) {d : ℕ} → d ≡ distance w a b → (d ≡ 0 → ⊥) → 2 ^ (w - 1) ≤ d → Less ≡ order w a b
unfolding order
is-before w a b e nz h = rw (equal-not w a b (omega (arith, nz)), after-not w a b (omega arith))

pub after-flag : (w a b : ℕ) {d : ℕ} → d ≡ distance w a b → (ltb 0 d && ltb d (2 ^ (w - 1))) ≡ after w a b
unfolding after
after-flag w a b e = rw e

pub before-flag : (w a b : ℕ) {d : ℕ} → d ≡ distance w a b → leb (2 ^ (w - 1)) d ≡ before w a b
before-flag w a b e = rw e (sym (before-test w a b))

pub near : (w a b : ℕ) {d : ℕ} → d ≡ distance w a b → d < 2 ^ (w - 1) → d ≡ saturating w a b
near w a b e h = e ∙ sym (saturating-near w a b (omega arith))

pub far : (w a b : ℕ) {d : ℕ} → d ≡ distance w a b → 2 ^ (w - 1) ≤ d → 0 ≡ saturating w a b
far w a b e h = sym (saturating-far w a b (omega arith))

-- what a signed call answers, r, as the machine reads it back, r₁; so z₁ is z
pub difference-signed : (a b : ℕ) {d : ℕ} {r r₁ : ℤ} → d ≡ distance 32 a b → d < 2 ^ 32 → r ≡ to_z w32 d → r₁ ≡ r → r₁ ≡ difference 32 a b
unfolding difference
difference-signed a b {d} e h p q = q ∙ p ∙ machine-signed d h ∙ ap (signed 32) e

pub wrap-euclid : (z : ℤ) {z₁ r r₁ : ℤ} → r ≡ int_rem_euclid z₁ (pos 4294967296) → z₁ ≡ z → r₁ ≡ r → nat_abs r₁ ≡ wrap 32 z
unfolding wrap
wrap-euclid (pos n) e p q = rw (q, e, p)
wrap-euclid (negsuc n) e p q = rw (q, e, p)

pub interval-saturated : (begin end : ℤ) {b e s s₁ r r₁ : ℤ}
    → s ≡ saturate_signed w64 (e -ℤ b) → e ≡ end → b ≡ begin → r ≡ clamp s₁ → s₁ ≡ s → r₁ ≡ r
    → r₁ ≡ interval_of begin end
unfolding interval_of
interval-saturated begin end f p q g i j = rw (j, g, i, f, p, q) (clamp-saturated (end -ℤ begin))

-- since
interval-self : (z : ℤ) → nat_abs (interval_of z z) ≡ 0
unfolding interval_of
interval-self z =
    let e : z -ℤ z ≡ pos 0 = same (above-- z z ∙ omega arith) (below-- z z ∙ omega arith) in
    rw (e, clamp-in (pos 0) (omega arith) (omega arith))

pub since-later : (now t : ℤ) {n u : ℤ} → lt_z n u ≡ true → n ≡ now → u ≡ t → 0 ≡ since_time now t
unfolding since_time
since-later now t e p q = rw (rw (p, q) at e) (sym (interval-self now))

module _ (now t : ℤ) {n u n₁ u₁ r r₁ : ℤ} (e : lt_z n u ≡ false) (p : n ≡ now) (q : u ≡ t) (f : r ≡ interval_of u₁ n₁) (p₁ : n₁ ≡ now) (q₁ : u₁ ≡ t) (g : r₁ ≡ r) where
  pub since-on : nat_abs r₁ ≡ since_time now t
  unfolding since_time
  since-on = rw (rw (p, q) at e, g, f, p₁, q₁)

  pub since-sign : T (non_neg r₁)
  since-sign = rw (g, f, p₁, q₁) (not_negative (interval_of t now) (interval-above t now (rw (p, q) at e)).0)

  pub since-fits : Fits w32 (nat_abs r₁)
  since-fits = rw (g, f, p₁, q₁) (record { fits = omega (arith, (interval-above t now (rw (p, q) at e)).1) })

pub ruleset steps = (is-equal, is-after, is-before, after-flag, before-flag, near, far, difference-signed, wrap-euclid, interval-saturated, rules)

pub ruleset sinces = (since-later, since-on, since-sign, since-fits, rules)
