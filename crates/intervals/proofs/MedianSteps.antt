-- What the code of median.rt does at each return and each turn, as laws over plain values; the proof files hand them to `search`. Assumes nothing.
use mathlib.Core.Path.{◌≡◌, refl, ap, sym, ◌∙◌}
use mathlib.Core.Bool.{Bool, true, false, ◌&&◌, cond}
use mathlib.Core.List.{List, [], ◌∷◌, ◌++◌}
use Prim.Native.Nat.{ℕ, suc, ◌+◌, ◌-◌, ◌<◌, ◌≤◌}
use native.Mathlib.Omega.{arith}
use borrow.Author.Rules.{rules}
use lib.Dec.{ltb, leb}
use lib.ListN.{length, get_or, take}
use native.Mathlib.Numerals.{add-one}
use mir.Syntax.{w64}
use mir.Val.{Fits}
use lib.Seq.{take-suc, take_all}
use Rattle.numbers.proofs.Flags.{by_bool}
use Rattle.intervals.specs.Median.{median_of}
use Rattle.intervals.specs.Inner.{below, has_index, pick}
use Rattle.intervals.proofs.Sorted.{picked}

pub below-append : (l m : List ℕ) (b : ℕ) → below (l ++ m) b ≡ below l b + below m b
unfolding below
below-append [] m b = omega arith
below-append (x ∷ l) m b = let r = below-append l m b in omega arith

-- the loop of below
below_one : (x b : ℕ) → below (x ∷ []) b ≡ cond (ltb x b) 1 0
unfolding below
below_one x b = omega arith

pub below-start : (l : List ℕ) (b : ℕ) → 0 ≡ below (take 0 l) b
unfolding below
below-start l b = refl

pub below_again : (l : List ℕ) (b i : ℕ) {n x : ℕ}
    → n ≡ below (take i l) b → x ≡ cond (ltb (get_or l i 0) b) 1 0 → i < 16 → length l ≡ 16
    → n + x ≡ below (take (i + 1) l) b
below_again l b i e f h k =
    rw (add-one i, take-suc l i 0 (omega arith), below-append (take i l) (get_or l i 0 ∷ []) b, below_one (get_or l i 0) b, ← e, ← f)

pub below-done : (l : List ℕ) (b i : ℕ) {n : ℕ} → n ≡ below (take i l) b → 16 ≤ i → length l ≡ 16 → n ≡ below l b
below-done l b i e h k = e ∙ ap (λ (m : List ℕ). below m b) (take_all i l (omega arith))

pub one-le : (b : Bool) {x n i : ℕ} → x ≡ cond b 1 0 → n ≤ i → n + x ≤ i + 1
one-le b {x} e h = by_bool b (λ t. let f : x ≡ 1 = e ∙ rw t in omega arith) (λ t. let f : x ≡ 0 = e ∙ rw t in omega arith)

pub one-fits : (b : Bool) (i : ℕ) {x n : ℕ} → x ≡ cond b 1 0 → n ≤ i → i < 16 → Fits w64 (n + x)
one-fits b i e h k = let l = one-le b e h in record { fits = omega arith }

-- has_index
pub index-test : (l : List ℕ) (k v : ℕ) {m n : ℕ} → m ≡ below l v → n ≡ below l (v + 1) → (leb m k && ltb k n) ≡ has_index l k v
index-test l k v e f = rw (e, f)

-- the loop of median: its start, a turn, its way out in the middle, its end
pub pick-start : (l : List ℕ) (k : ℕ) → k < 16 → length l ≡ 16 → median_of l k ≡ pick l k 0 15
pick-start l k h e = picked l k 15 (omega arith) (omega arith)

module _ (l : List ℕ) (k i : ℕ) {r : ℕ} (e : r ≡ pick l k i (15 - i)) where
  module _ {b : Bool} (h : i < 15) (f : b ≡ has_index l k (get_or l i 0)) where
    left : 15 - i ≡ suc (15 - (i + 1))
    left = omega arith

    pub pick-again : b ≡ false → r ≡ pick l k (i + 1) (15 - (i + 1))
    unfolding pick
    pick-again t = e ∙ rw left (rw (← f, t))

    pub pick-found : b ≡ true → get_or l i 0 ≡ r
    unfolding pick
    pick-found t = sym (e ∙ rw left (rw (← f, t)))

  pub pick-done : i ≤ 15 → 15 ≤ i → get_or l 15 0 ≡ r
  unfolding pick
  pick-done g h = let p : i ≡ 15 = omega arith in sym (rw p at e)

pub ruleset medians = (
  below-start,
  below_again,
  below-done,
  one-le,
  one-fits,
  index-test,
  pick-start,
  pick-again,
  pick-found,
  pick-done,
  rules,
)
