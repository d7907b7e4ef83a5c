-- Circular numbers at every width: distance, order, saturating difference and sum. Each law stands here once, over w; `Both` cites it at 31 and 32.
-- Two laws carry the rest: a lies D past b (`stepped`), and no other number below 2^w does that (`distance_is`). Assumes nothing.
use Rattle.std.proofs.Common.{◌≡◌, ℕ, zero, suc, ◌+◌, ◌-◌, ◌*◌, ◌/◌, ◌%◌, ◌^◌, ◌<◌, ◌≤◌, Bool, true, false, cond, not, ◌||◌, ltb, leb, sym, refl, ap, ◌∙◌, subst, mod-lt, mod-eq_of_lt, suc-mul, pow-suc, div-add-mod', arith, pow_pos, ltb-true, le-ltb, lt-ltb, eq-eqb, ne_eqb, eqb-true, le-leb, leb-false, leb-true}
use native.Mathlib.Nat.{mod-mod, add-mod-mod, mod-add-mod, add-mul-mod_self_right}
use borrow.Author.Tests.{lt-leb}
use Rattle.numbers.proofs.Flags.{and_left, and_right, by-order, and-false}
use Rattle.numbers.specs.Order.{OneOf, first, second, third, order}
use Rattle.std.specs.declared.cmp.Ordering.{Ordering}
use Rattle.std.specs.declared.cmp.Ordering.TheVariants.{Less, Equal, Greater}
use Rattle.numbers.specs.Circular.{distance, equal, after, before, saturating, sum}

-- b, then n, then what b lacks of a whole turn: n is left
back : (m b n : ℕ) → 0 < m → (b + n + (m - b % m)) % m ≡ n % m
back m b n h =
    let q : b / m * m + b % m ≡ b = div-add-mod' b m in
    let s : suc (b / m) * m ≡ b / m * m + m = suc-mul (b / m) m in
    let r : b % m < m = mod-lt b h in
    let e : b + n + (m - b % m) ≡ n + suc (b / m) * m = omega arith in
    rw e (add-mul-mod_self_right n (suc (b / m)) m)

-- a distance is a circular number
pub distance-below : (w a b : ℕ) → distance w a b < 2 ^ w
unfolding distance
distance-below w a b = mod-lt (a + (2 ^ w - b % 2 ^ w)) (pow_pos w)

-- a lies D past b
pub stepped : (w a b : ℕ) → (b + distance w a b) % 2 ^ w ≡ a % 2 ^ w
unfolding distance
stepped w a b =
    let e : b + (a + (2 ^ w - b % 2 ^ w)) ≡ b + a + (2 ^ w - b % 2 ^ w) = omega arith in
    add-mod-mod b (a + (2 ^ w - b % 2 ^ w)) (2 ^ w) ∙ rw e (back (2 ^ w) b a (pow_pos w))

-- and no other number below 2^w is as far
pub distance_is : (w a b d : ℕ) → d < 2 ^ w → (b + d) % 2 ^ w ≡ a % 2 ^ w → distance w a b ≡ d
unfolding distance
distance_is w a b d h e =
    sym (mod-add-mod a (2 ^ w) (2 ^ w - b % 2 ^ w))
    ∙ ap (λ (x : ℕ). (x + (2 ^ w - b % 2 ^ w)) % 2 ^ w) (sym e)
    ∙ mod-add-mod (b + d) (2 ^ w) (2 ^ w - b % 2 ^ w)
    ∙ back (2 ^ w) b d (pow_pos w)
    ∙ mod-eq_of_lt h

-- a number out of range is read mod 2^w
pub distance-reads : (w a b : ℕ) → distance w (a % 2 ^ w) (b % 2 ^ w) ≡ distance w a b
distance-reads w a b =
    distance_is w (a % 2 ^ w) (b % 2 ^ w) (distance w a b) (distance-below w a b)
    (mod-add-mod b (2 ^ w) (distance w a b) ∙ stepped w a b ∙ sym (mod-mod a (2 ^ w)))

pub distance_self : (w a : ℕ) → distance w a a ≡ 0
distance_self w a = distance_is w a a 0 (pow_pos w) (ap (λ (x : ℕ). x % 2 ^ w) (omega arith))

-- only equal numbers are at distance 0
pub distance-zero : (w : ℕ) {a b : ℕ} → a < 2 ^ w → b < 2 ^ w → distance w a b ≡ 0 → a ≡ b
distance-zero w {a} {b} ha hb e =
    let z : b + distance w a b ≡ b = omega arith in
    sym (mod-eq_of_lt ha) ∙ sym (stepped w a b) ∙ ap (λ (x : ℕ). x % 2 ^ w) z ∙ mod-eq_of_lt hb

-- the two distances of two numbers go once round
pub around : (w a b : ℕ) → 0 < distance w a b → distance w b a ≡ 2 ^ w - distance w a b
around w a b h =
    let d = distance w a b in
    let l : d < 2 ^ w = distance-below w a b in
    let e : b + d + (2 ^ w - d) ≡ b + 1 * 2 ^ w = omega arith in
    distance_is w b a (2 ^ w - d) (omega arith)
    (sym (mod-add-mod a (2 ^ w) (2 ^ w - d))
    ∙ ap (λ (x : ℕ). (x + (2 ^ w - d)) % 2 ^ w) (sym (stepped w a b))
    ∙ mod-add-mod (b + d) (2 ^ w) (2 ^ w - d)
    ∙ ap (λ (x : ℕ). x % 2 ^ w) e
    ∙ add-mul-mod_self_right b 1 (2 ^ w))

-- half a turn, twice, is a turn
pub half : (w : ℕ) → 0 < w → 2 ^ w ≡ 2 ^ (w - 1) + 2 ^ (w - 1)
half zero h = absurd (omega arith)
half (suc v) h =
    let e : suc v - 1 ≡ v = omega arith in
    rw e (omega (arith, pow-suc 2 v))

-- each order by the distance, both ways
pub equal-at : (w a b : ℕ) → distance w a b ≡ 0 → equal w a b ≡ true
unfolding equal
equal-at w a b h = eq-eqb (distance w a b) 0 h

pub equal-not : (w a b : ℕ) → 0 < distance w a b → equal w a b ≡ false
unfolding equal
equal-not w a b h = ne_eqb (distance w a b) 0 (λ e. omega arith)

pub after-at : (w a b : ℕ) → 0 < distance w a b → distance w a b < 2 ^ (w - 1) → after w a b ≡ true
unfolding after
after-at w a b h k = rw (lt-ltb 0 (distance w a b) h, lt-ltb (distance w a b) (2 ^ (w - 1)) k)

pub after_none : (w a b : ℕ) → distance w a b ≡ 0 → after w a b ≡ false
unfolding after
after_none w a b h = rw (le-ltb 0 (distance w a b) (omega arith))

pub after-not : (w a b : ℕ) → 2 ^ (w - 1) ≤ distance w a b → after w a b ≡ false
unfolding after
after-not w a b h = and-false (ltb 0 (distance w a b)) (le-ltb (distance w a b) (2 ^ (w - 1)) h)

pub before_at : (w a b : ℕ) → 2 ^ (w - 1) ≤ distance w a b → before w a b ≡ true
unfolding before
before_at w a b h = rw (equal-not w a b (omega (arith, pow_pos (w - 1))), after-not w a b h)

pub before-not : (w a b : ℕ) → distance w a b < 2 ^ (w - 1) → before w a b ≡ false
unfolding before
before-not w a b h =
    by-order 0 (distance w a b)
    (λ k. rw (after-at w a b k h) (or-true (equal w a b)))
    (λ k. rw (equal-at w a b (omega arith)))
  where
    or-true : (x : Bool) → not (x || true) ≡ false
    or-true true = refl
    or-true false = refl

-- before, as the one test that it is
pub before-test : (w a b : ℕ) → before w a b ≡ leb (2 ^ (w - 1)) (distance w a b)
before-test w a b =
    by-order (distance w a b) (2 ^ (w - 1))
    (λ h. before-not w a b h ∙ sym (lt-leb (2 ^ (w - 1)) (distance w a b) h))
    (λ h. before_at w a b h ∙ sym (le-leb (2 ^ (w - 1)) (distance w a b) h))

-- exactly one of equal, after and before holds for a against b
pub one-order : (w a b : ℕ) → OneOf (equal w a b) (after w a b) (before w a b)
one-order w a b =
    by-order 0 (distance w a b)
    (λ h.
    by-order (distance w a b) (2 ^ (w - 1))
    (λ k. rw (equal-not w a b h, after-at w a b h k, before-not w a b k) second)
    (λ k. rw (equal-not w a b h, after-not w a b k, before_at w a b k) third))
    (λ h.
    let z : distance w a b ≡ 0 = omega arith in
    rw (equal-at w a b z, after_none w a b z, before-not w a b (omega (arith, pow_pos (w - 1)))) first)

-- at a tie each is before the other
pub tie : (w a b : ℕ) → 0 < w → distance w a b ≡ 2 ^ (w - 1) → (before w a b ≡ true) × (before w b a ≡ true)
tie w a b hw e =
    let o = around w a b (omega (arith, pow_pos (w - 1))) in
    (before_at w a b (omega arith), before_at w b a (omega (arith, half w hw)))

-- off the tie a is after b exactly where b is before a
pub mirror : (w a b : ℕ) → 0 < w → (distance w a b ≡ 2 ^ (w - 1) → ⊥) → after w a b ≡ before w b a
mirror w a b hw ne =
    let l = distance-below w a b in
    by-order 0 (distance w a b)
    (λ h.
    let o = around w a b h in
    by-order (distance w a b) (2 ^ (w - 1))
    (λ k. after-at w a b h k ∙ sym (before_at w b a (omega (arith, half w hw))))
    (λ k. after-not w a b k ∙ sym (before-not w b a (omega (arith, half w hw, ne)))))
    (λ h.
    let z : distance w b a ≡ 0 = opposite (omega arith) in
    after_none w a b (omega arith) ∙ sym (before-not w b a (omega (arith, pow_pos (w - 1)))))
  where
    opposite : distance w a b ≡ 0 → distance w b a ≡ 0
    opposite e =
        distance_is w b a 0 (pow_pos w)
        (ap (λ (x : ℕ). x % 2 ^ w) (omega arith) ∙ sym (stepped w a b) ∙ ap (λ (x : ℕ). x % 2 ^ w) (omega arith))

-- a sum is a circular number; a sum of a sum is a sum
pub sum_below : (w a n : ℕ) → sum w a n < 2 ^ w
unfolding sum
sum_below w a n = mod-lt (a + n) (pow_pos w)

pub sum-zero : (w : ℕ) {a : ℕ} → a < 2 ^ w → sum w a 0 ≡ a
unfolding sum
sum-zero w {a} h = let e : a + 0 ≡ a = omega arith in rw e (mod-eq_of_lt h)

pub sum-sum : (w a m n : ℕ) → sum w (sum w a m) n ≡ sum w a (m + n)
unfolding sum
sum-sum w a m n =
    let e : a + m + n ≡ a + (m + n) = omega arith in
    mod-add-mod (a + m) (2 ^ w) n ∙ ap (λ (x : ℕ). x % 2 ^ w) e

-- n past b lies at n
pub distance-sum : (w b : ℕ) {n : ℕ} → n < 2 ^ w → distance w (sum w b n) b ≡ n
unfolding sum
distance-sum w b {n} h = distance_is w ((b + n) % 2 ^ w) b n h (sym (mod-mod (b + n) (2 ^ w)))

-- saturating difference and sum undo each other, up to half a turn
pub saturating-near : (w a b : ℕ) → distance w a b < 2 ^ (w - 1) → saturating w a b ≡ distance w a b
unfolding saturating
saturating-near w a b h = rw (before-not w a b h)

pub saturating-far : (w a b : ℕ) → 2 ^ (w - 1) ≤ distance w a b → saturating w a b ≡ 0
unfolding saturating
saturating-far w a b h = rw (before_at w a b h)

pub saturating-sum : (w b : ℕ) {n : ℕ} → 0 < w → n < 2 ^ (w - 1) → saturating w (sum w b n) b ≡ n
saturating-sum w b {n} hw h =
    let d = distance-sum w b {n = n} (omega (arith, half w hw)) in
    saturating-near w (sum w b n) b (omega arith) ∙ d

pub sum-saturating : (w : ℕ) {a : ℕ} (b : ℕ) → a < 2 ^ w → before w a b ≡ false → sum w b (saturating w a b) ≡ a
unfolding sum saturating
sum-saturating w {a} b ha e = rw e (stepped w a b ∙ mod-eq_of_lt ha)

sum_past : (w s h d : ℕ) → (sum w s h + d) % 2 ^ w ≡ (s + h + d) % 2 ^ w
unfolding sum
sum_past w s h d = mod-add-mod (s + h) (2 ^ w) d

-- a number that is not before s, and before the one h past s, lies less than h past s
pub within : (w n s h : ℕ) → before w n (sum w s h) ≡ true → before w n s ≡ false → distance w n s < h
within w n s h b f =
    let i = distance w n s in
    let far = leb-true (2 ^ (w - 1)) (distance w n (sum w s h)) (sym (before-test w n (sum w s h)) ∙ b) in
    let near = leb-false (2 ^ (w - 1)) i (sym (before-test w n s) ∙ f) in
    by-order i h
    (λ l. l)
    (λ l.
    let e : s + h + (i - h) ≡ s + i = omega arith in
    let d : distance w n (sum w s h) ≡ i - h = distance_is w n (sum w s h) (i - h) (omega (arith, distance-below w n s)) (sum_past w s h (i - h) ∙ ap (λ (x : ℕ). x % 2 ^ w) e ∙ stepped w n s) in
    absurd (omega arith))

-- an order tells its test
abbrev Told : Ordering → Bool → Bool → Type 0
Told Equal x y = x ≡ true
Told Greater x y = (x ≡ false) × (y ≡ true)
Told Less x y = not (x || y) ≡ true

order-tells : (x y : Bool) (o : Ordering) → cond x Equal (cond y Greater Less) ≡ o → Told o x y
order-tells true y o e = subst (λ (o : Ordering). Told o true y) e refl
order-tells false true o e = subst (λ (o : Ordering). Told o false true) e (refl, refl)
order-tells false false o e = subst (λ (o : Ordering). Told o false false) e refl

pub order-before : (w a b : ℕ) → order w a b ≡ Less → before w a b ≡ true
unfolding order before
order-before w a b e = order-tells (equal w a b) (after w a b) Less e

pub order-equal : (w a b : ℕ) → order w a b ≡ Equal → distance w a b ≡ 0
unfolding order equal
order-equal w a b e = eqb-true (distance w a b) 0 (order-tells (equal w a b) (after w a b) Equal e)

pub order-after : (w a b : ℕ) → order w a b ≡ Greater → (0 < distance w a b) × (distance w a b < 2 ^ (w - 1))
unfolding order after
order-after w a b e =
    let t = (order-tells (equal w a b) (after w a b) Greater e).1 in
    (ltb-true 0 (distance w a b) (and_left _ _ t), ltb-true (distance w a b) (2 ^ (w - 1)) (and_right (ltb 0 (distance w a b)) _ t))
