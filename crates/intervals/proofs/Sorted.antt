-- The value that the code finds by counting is the one at that index of the sorted list. Assumes nothing.
use mathlib.Core.Path.{◌≡◌, refl, ap, sym, ◌∙◌}
use mathlib.Core.Bool.{true, cond}
use mathlib.Core.List.{List, [], ◌∷◌}
use Prim.Native.Nat.{ℕ, zero, suc, ◌+◌, ◌<◌, ◌≤◌}
use native.Mathlib.Omega.{arith}
use borrow.Author.Tests.{ltb-true, leb-true, leb-false, lt-ltb, le-ltb, le-leb}
use lib.Dec.{ltb, leb}
use lib.ListN.{length, get_or}
use Rattle.numbers.proofs.Flags.{impossible, and_left, and_right, by_bool, by-test, by-order}
use Rattle.intervals.specs.Median.{insert, sort, median_of}
use Rattle.intervals.specs.Inner.{below, has_index, pick}

-- every element is x or more; each element is at most those after it
abbrev AllFrom : ℕ → List ℕ → Type 0
AllFrom x [] = Unit
AllFrom x (y ∷ l) = (x ≤ y) × AllFrom x l

abbrev Sorted : List ℕ → Type 0
Sorted [] = Unit
Sorted (x ∷ l) = AllFrom x l × Sorted l

from_less : (x y : ℕ) (l : List ℕ) → x ≤ y → AllFrom y l → AllFrom x l
from_less x y [] h f = tt
from_less x y (z ∷ l) h f = (omega (arith, f.0), from_less x y l h f.1)

from-insert : (x y : ℕ) (l : List ℕ) → x ≤ y → AllFrom x l → AllFrom x (insert y l)
unfolding insert
from-insert x y [] h f = (h, tt)
from-insert x y (z ∷ l) h f =
    by-test (AllFrom x) (leb y z) _ _ (λ t. (h, f)) (λ t. (f.0, from-insert x y l h f.1))

sorted_insert : (x : ℕ) (l : List ℕ) → Sorted l → Sorted (insert x l)
unfolding insert
sorted_insert x [] s = (tt, tt)
sorted_insert x (y ∷ l) s =
    by-test Sorted (leb x y) _ _
    (λ t. let h = leb-true x y t in ((h, from_less x y l h s.0), s))
    (λ t. (from-insert y x l (omega (arith, leb-false x y t)) s.0, sorted_insert x l s.1))

pub sorted_sort : (l : List ℕ) → Sorted (sort l)
unfolding sort
sorted_sort [] = tt
sorted_sort (x ∷ l) = sorted_insert x (sort l) (sorted_sort l)

-- sorting keeps every count, and the length
below-insert : (x : ℕ) (l : List ℕ) (b : ℕ) → below (insert x l) b ≡ below (x ∷ l) b
unfolding insert below
below-insert x [] b = refl
below-insert x (y ∷ l) b =
    by-test (λ (m : List ℕ). below m b ≡ below (x ∷ y ∷ l) b) (leb x y) _ _
    (λ t. refl)
    (λ t. let r = below-insert x l b in omega arith)

pub below-sort : (l : List ℕ) (b : ℕ) → below (sort l) b ≡ below l b
unfolding sort below
below-sort [] b = refl
below-sort (x ∷ l) b = below-insert x (sort l) b ∙ ap (λ (n : ℕ). cond (ltb x b) 1 0 + n) (below-sort l b)

length-insert : (x : ℕ) (l : List ℕ) → length (insert x l) ≡ suc (length l)
unfolding insert
length-insert x [] = refl
length-insert x (y ∷ l) = by-test (λ (m : List ℕ). length m ≡ suc (suc (length l))) (leb x y) _ _ (λ t. refl) (λ t. ap suc (length-insert x l))

pub length-sort : (l : List ℕ) → length (sort l) ≡ length l
unfolding sort
length-sort [] = refl
length-sort (x ∷ l) = length-insert x (sort l) ∙ ap suc (length-sort l)

-- in a sorted list the element at k is below b just if more than k are
none_below : (x b : ℕ) (l : List ℕ) → b ≤ x → AllFrom x l → below l b ≡ 0
unfolding below
none_below x b [] h f = refl
none_below x b (y ∷ l) h f = rw (le-ltb y b (omega (arith, f.0)), none_below x b l h f.1)

from_at : (x : ℕ) (l : List ℕ) (k : ℕ) → AllFrom x l → k < length l → x ≤ get_or l k 0
from_at x [] k f h = absurd (omega arith)
from_at x (y ∷ l) zero f h = f.0
from_at x (y ∷ l) (suc k) f h = from_at x l k f.1 (omega arith)

at_least : (s : List ℕ) (k b : ℕ) → Sorted s → k < length s → b ≤ get_or s k 0 → below s b ≤ k
unfolding below
at_least [] k b o h e = absurd (omega arith)
at_least (x ∷ l) zero b o h e = rw (le-ltb x b e, none_below x b l e o.0) (omega arith)
at_least (x ∷ l) (suc k) b o h e =
    let r = at_least l k b o.1 (omega arith) e in
    by_bool (ltb x b) (λ t. rw t (omega arith)) (λ t. rw t (omega arith))

less-than : (s : List ℕ) (k b : ℕ) → Sorted s → k < length s → get_or s k 0 < b → k < below s b
unfolding below
less-than [] k b o h e = absurd (omega arith)
less-than (x ∷ l) zero b o h e = rw (lt-ltb x b e) (omega arith)
less-than (x ∷ l) (suc k) b o h e =
    let r = less-than l k b o.1 (omega arith) e in
    let f = from_at x l k o.0 (omega arith) in
    rw (lt-ltb x b (omega arith)) (omega arith)

-- a value that has index k is the one at k of the sorted list, and that one has it
module _ (l : List ℕ) (k : ℕ) (h : k < length l) where
  within : k < length (sort l)
  within = rw (length-sort l) h

  pub index_is : (v : ℕ) → has_index l k v ≡ true → v ≡ median_of l k
  unfolding median_of
  index_is v e =
      let p = leb-true (below l v) k (and_left (leb (below l v) k) _ e) in
      let q = ltb-true k (below l (v + 1)) (and_right (leb (below l v) k) _ e) in
      by-order (get_or (sort l) k 0) v
      (λ t. absurd (omega (arith, less-than (sort l) k v (sorted_sort l) within t, below-sort l v)))
      (λ t.
      by-order (get_or (sort l) k 0) (v + 1)
      (λ u. omega arith)
      (λ u. absurd (omega (arith, at_least (sort l) k (v + 1) (sorted_sort l) within u, below-sort l (v + 1)))))

  pub median-has : has_index l k (median_of l k) ≡ true
  unfolding median_of
  median-has =
      let v = get_or (sort l) k 0 in
      let p : below l v ≤ k = rw (below-sort l v) at (at_least (sort l) k v (sorted_sort l) within (omega arith)) in
      let q : k < below l (v + 1) = rw (below-sort l (v + 1)) at (less-than (sort l) k (v + 1) (sorted_sort l) within (omega arith)) in
      rw (le-leb _ _ p, lt-ltb _ _ q)

-- a value that more are not above than are below stands somewhere
pub record Place (l : List ℕ) (v : ℕ) : Type 0 where
  pub place : ℕ
  pub inside : place < length l
  pub is : get_or l place 0 ≡ v

further : (x : ℕ) (l : List ℕ) (v : ℕ) → Place l v → Place (x ∷ l) v
further x l v r = record { place = suc r.place; inside = omega (arith, r.inside); is = r.is }

stands : (l : List ℕ) (v : ℕ) → below l v < below l (v + 1) → Place l v
unfolding below
stands [] v h = absurd (omega arith)
stands (x ∷ l) v h =
    by-order x v
    (λ t.
    let g : 1 + below l v < 1 + below l (v + 1) = rw (lt-ltb x v t, lt-ltb x (v + 1) (omega arith)) at h in
    further x l v (stands l v (omega arith)))
    (λ t.
    by-order x (v + 1)
    (λ u. record { place = 0; inside = omega arith; is = omega arith })
    (λ u.
    let g : 0 + below l v < 0 + below l (v + 1) = rw (le-ltb x v t, le-ltb x (v + 1) u) at h in
    further x l v (stands l v (omega arith))))

-- so the search finds one that has the index
pick-has : (l : List ℕ) (k j n i : ℕ) → i ≤ j → j ≤ i + n → has_index l k (get_or l j 0) ≡ true → has_index l k (pick l k i n) ≡ true
unfolding pick
pick-has l k j zero i a b e = let q : j ≡ i = omega arith in rw q at e
pick-has l k j (suc n) i a b e =
    by-test (λ (v : ℕ). has_index l k v ≡ true) (has_index l k (get_or l i 0)) _ _
    (λ t. t)
    (λ t.
    by-order i j
    (λ u. pick-has l k j n (i + 1) (omega arith) (omega arith) e)
    (λ u. let q : j ≡ i = omega arith in impossible (sym (rw q at e) ∙ t)))

pub picked : (l : List ℕ) (k n : ℕ) → k < length l → length l ≡ n + 1 → median_of l k ≡ pick l k 0 n
picked l k n h e =
    let m = median-has l k h in
    let p = leb-true (below l (median_of l k)) k (and_left (leb (below l (median_of l k)) k) _ m) in
    let q = ltb-true k (below l (median_of l k + 1)) (and_right (leb (below l (median_of l k)) k) _ m) in
    let s = stands l (median_of l k) (omega arith) in
    sym (index_is l k h (pick l k 0 n) (pick-has l k s.place n 0 (omega arith) (omega (arith, s.inside)) (rw s.is m)))
