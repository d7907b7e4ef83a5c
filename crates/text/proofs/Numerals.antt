-- Decimal digits: by their last digit, how many there are, and that they can be read back. Assumes nothing.
use mathlib.Core.Path.{◌≡◌, refl, sym, ◌∙◌, ap}
use mathlib.Core.List.{List, [], ◌∷◌, ◌++◌}
use Prim.Native.Nat.{ℕ, zero, suc, ◌+◌, ◌-◌, ◌*◌, ◌/◌, ◌%◌, ◌^◌, ◌<◌, ◌≤◌}
use native.Mathlib.Nat.{div-lt_self, div-lt_iff_lt-mul, div-add-mod, pow-suc}
use native.Mathlib.Omega.{arith}
use borrow.Author.Tests.{lt-ltb, le-ltb}
use lib.ListN.{length, length-append}
use Rattle.numbers.proofs.Flags.{by-order}
use Rattle.text.specs.Decimal.{digits, decimal}

digits-one : (k n : ℕ) → n < 10 → digits (suc k) n ≡ (48 + n) ∷ []
unfolding digits
digits-one k n h = rw (lt-ltb _ _ h)

digits_more : (k n : ℕ) → 10 ≤ n → digits (suc k) n ≡ digits k (n / 10) ++ ((48 + n % 10) ∷ [])
unfolding digits
digits_more k n h = rw (le-ltb _ _ h)

shorter : (n : ℕ) → 10 ≤ n → n / 10 < n
shorter n h = div-lt_self (omega arith) (omega arith)

-- any number of digits that is enough gives the same
enough : (j k n : ℕ) → n < j → n < k → digits j n ≡ digits k n
enough zero k n h l = absurd (omega arith)
enough (suc j) zero n h l = absurd (omega arith)
enough (suc j) (suc k) n h l =
    by-order n 10
    (λ s. digits-one j n s ∙ sym (digits-one k n s))
    (λ s.
    let d = shorter n s in
    rw (digits_more j n s, digits_more k n s, enough j k (n / 10) (omega arith) (omega arith)))

pub decimal-one : (n : ℕ) → n < 10 → decimal n ≡ (48 + n) ∷ []
unfolding decimal
decimal-one n h = digits-one n n h

pub decimal-more : (n : ℕ) → 10 ≤ n → decimal n ≡ decimal (n / 10) ++ ((48 + n % 10) ∷ [])
unfolding decimal
decimal-more n h =
    let d = shorter n h in
    rw (digits_more n n h, enough n (suc (n / 10)) (n / 10) d (omega arith))

pub length_more : (n : ℕ) → 10 ≤ n → length (decimal n) ≡ length (decimal (n / 10)) + 1
length_more n h = rw (decimal-more n h, length-append (decimal (n / 10)) ((48 + n % 10) ∷ []))

pub decimal-some : (n : ℕ) → 1 ≤ length (decimal n)
decimal-some n =
    by-order n 10
    (λ s. rw (decimal-one n s) (omega arith))
    (λ s. rw (length_more n s) (omega arith))

-- a number below 10^(k+1) has at most k + 1 digits
pub decimal-within : (k n : ℕ) → n < 10 ^ suc k → length (decimal n) ≤ suc k
decimal-within zero n h = rw (decimal-one n (omega arith)) (omega arith)
decimal-within (suc k) n h =
    by-order n 10
    (λ s. rw (decimal-one n s) (omega arith))
    (λ s.
    let l : n / 10 < 10 ^ suc k = (div-lt_iff_lt-mul (omega arith)).1 (rw (← pow-suc 10 (suc k)) h) in
    let m = decimal-within k (n / 10) l in
    rw (length_more n s) (omega arith))

pub decimal-short : (n : ℕ) → n < 2 ^ 64 → length (decimal n) ≤ 20
decimal-short n h = decimal-within 19 n (omega arith)

-- read back
value_from : ℕ → List ℕ → ℕ
value_from n [] = n
value_from n (b ∷ bs) = value_from (10 * n + (b - 48)) bs

value-behind : (n : ℕ) (p q : List ℕ) → value_from n (p ++ q) ≡ value_from (value_from n p) q
unfolding value_from
value-behind n [] q = refl
value-behind n (b ∷ p) q = value-behind (10 * n + (b - 48)) p q

digits-back : (k n : ℕ) → n < k → value_from 0 (digits k n) ≡ n
unfolding value_from
digits-back zero n h = absurd (omega arith)
digits-back (suc k) n h =
    by-order n 10
    (λ s. rw (digits-one k n s) (omega arith))
    (λ s.
    let d = shorter n s in
    rw (digits_more k n s, value-behind 0 (digits k (n / 10)) ((48 + n % 10) ∷ []), digits-back k (n / 10) (omega arith))
    (omega (arith, div-add-mod n 10)))

pub decimal_injective : (m n : ℕ) → decimal m ≡ decimal n → m ≡ n
unfolding decimal
decimal_injective m n e = sym (digits-back (suc m) m (omega arith)) ∙ ap (value_from 0) e ∙ digits-back (suc n) n (omega arith)
