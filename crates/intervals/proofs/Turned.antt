-- The rates are those of the window as a list, oldest first: where the ring of places begins does not matter. Assumes nothing.
use mathlib.Core.Path.{◌≡◌, refl, ap, sym, ◌∙◌}
use mathlib.Core.Bool.{cond}
use mathlib.Core.List.{List, ◌∷◌, ◌++◌}
use Prim.Native.Nat.{ℕ, zero, suc, ◌+◌, ◌-◌, ◌<◌, ◌≤◌}
use native.Mathlib.Omega.{arith}
use borrow.Author.Tests.{le-ltb}
use lib.ListN.{length, get_or, take, drop, length-append, length-drop, take-append-drop, drop_of_length-le, get_or-append}
use lib.Seq.{drop-cons, get_or-take, get_or-drop, get_or-append-add, length-take-le}
use Rattle.numbers.specs.Ring.{place_in}
use Rattle.numbers.proofs.Flags.{by_bool, by-order}
use Rattle.intervals.specs.Median.{median_of}
use Rattle.intervals.specs.Inner.{below}
use Rattle.intervals.specs.Rates.{place_before, window_of, arrival_gaps, arrival_sizes, link_gaps, keeps, take_in, kept_of, speed_kept, speed_of, link_rate, capacity_of}
use Rattle.intervals.specs.declared.rates.Arrivals.{Arrivals}
use Rattle.intervals.specs.declared.rates.Links.{Links}
use Rattle.intervals.specs.declared.rates.Kept.{Kept}
use Rattle.std.specs.Prelude.{Some}
use Rattle.intervals.proofs.Sorted.{index_is, median-has}
use Rattle.intervals.proofs.MedianSteps.{below-append}

-- a whole window is the ring, cut at the next place to be written
module _ (l : List ℕ) (at : ℕ) (e : length l ≡ 16) (h : at < 16) where
  before_at : (n : ℕ) → n ≤ at → window_of l at n ≡ take n (drop (at - n) l)
  unfolding window_of
  before_at zero k = refl
  before_at (suc n) k =
      let p : place_before at (suc n) ≡ at - suc n = omega arith in
      let q : suc (at - suc n) ≡ at - n = omega arith in
      rw (p, before_at n (omega arith), drop-cons l (at - suc n) 0 (omega arith), q)

  one-before : (n : ℕ) → window_of l at (suc n) ≡ get_or l (place_before at (suc n)) 0 ∷ window_of l at n
  unfolding window_of
  one-before n = refl

  past-at : (n : ℕ) → at + n ≤ 16 → window_of l at (at + n) ≡ drop (16 - n) l ++ take at l
  past-at zero k =
      let p : at + 0 ≡ at = omega arith in
      let q : at - at ≡ 0 = omega arith in
      rw (p, before_at at (omega arith), q, drop_of_length-le l {i = 16} (omega arith))
  past-at (suc n) k =
      let p : at + suc n ≡ suc (at + n) = omega arith in
      let q : place_before at (suc (at + n)) ≡ 16 - suc n = omega arith in
      let r : suc (16 - suc n) ≡ 16 - n = omega arith in
      let s : drop (16 - suc n) l ≡ get_or l (16 - suc n) 0 ∷ drop (suc (16 - suc n)) l = drop-cons l (16 - suc n) 0 (omega arith) in
      ap (window_of l at) p
      ∙ one-before (at + n)
      ∙ ap (λ (i : ℕ). get_or l i 0 ∷ window_of l at (at + n)) q
      ∙ ap (λ (m : List ℕ). get_or l (16 - suc n) 0 ∷ m) (past-at n (omega arith))
      ∙ ap (λ (i : ℕ). get_or l (16 - suc n) 0 ∷ (drop i l ++ take at l)) (sym r)
      ∙ ap (λ (m : List ℕ). m ++ take at l) (sym s)

  pub turned : window_of l at 16 ≡ drop at l ++ take at l
  turned =
      let p : 16 ≡ at + (16 - at) = omega arith in
      let q : 16 - (16 - at) ≡ at = omega arith in
      rw p (rw q at (past-at (16 - at) (omega arith)))

  pub turned-at : (i : ℕ) → i < 16 → get_or (window_of l at 16) i 0 ≡ get_or l (place_in 16 at i) 0
  turned-at i k =
      let d : length (drop at l) ≡ 16 - at = rw (length-drop at l, e) in
      rw turned
      (by-order i (16 - at)
      (λ u.
      let p : place_in 16 at i ≡ at + i = omega arith in
      get_or-append (drop at l) (take at l) 0 i (omega arith) ∙ rw (get_or-drop at l i 0, p))
      (λ u.
      let p : place_in 16 at i ≡ i - (16 - at) = omega arith in
      let q : i ≡ length (drop at l) + (i - (16 - at)) = omega arith in
      ap (λ (j : ℕ). get_or (drop at l ++ take at l) j 0) q
      ∙ get_or-append-add (drop at l) (take at l) (i - (16 - at)) 0
      ∙ rw (get_or-take at l (i - (16 - at)) 0 (omega arith), p)))

  turned-below : (b : ℕ) → below (window_of l at 16) b ≡ below l b
  turned-below b =
      rw (turned, below-append (drop at l) (take at l) b)
      (let s : below (take at l ++ drop at l) b ≡ below l b = rw (take-append-drop at l) in
      let t = below-append (take at l) (drop at l) b in
      omega arith)

  turned-length : length (window_of l at 16) ≡ 16
  turned-length = rw (turned, length-append (drop at l) (take at l), length-drop at l, length-take-le at l (omega arith)) (omega arith)

  pub turned-median : (k : ℕ) → k < 16 → median_of l k ≡ median_of (window_of l at 16) k
  turned-median k u =
      let v = median_of l k in
      index_is (window_of l at 16) k (rw turned-length u) v
      (rw (turned-below v, turned-below (v + 1)) (median-has l k (omega arith)))

-- the sums of what is kept, as sums over places
unfoldable sum_to : (ℕ → ℕ) → ℕ → ℕ
sum_to f zero = 0
sum_to f (suc n) = sum_to f n + f n

sum_same : (f g : ℕ → ℕ) (n : ℕ) → ((i : ℕ) → i < n → f i ≡ g i) → sum_to f n ≡ sum_to g n
unfolding sum_to
sum_same f g zero s = refl
sum_same f g (suc n) s = let r = sum_same f g n (λ i k. s i (omega arith)) in omega (arith, s n (omega arith))

sum-split : (f : ℕ → ℕ) (m n : ℕ) → sum_to f (m + n) ≡ sum_to f m + sum_to (λ (i : ℕ). f (m + i)) n
unfolding sum_to
sum-split f m zero = let p : m + 0 ≡ m = omega arith in rw p (omega arith)
sum-split f m (suc n) =
    let p : m + suc n ≡ suc (m + n) = omega arith in
    let r = sum-split f m n in
    rw p (omega arith)

sum-turned : (f : ℕ → ℕ) (at : ℕ) → at < 16 → sum_to (λ (i : ℕ). f (place_in 16 at i)) 16 ≡ sum_to f 16
sum-turned f at h =
    let g : ℕ → ℕ = λ i. f (place_in 16 at i) in
    let p : 16 ≡ 16 - at + at = omega arith in
    let q : 16 ≡ at + (16 - at) = omega arith in
    let a : sum_to g 16 ≡ sum_to g (16 - at) + sum_to (λ (i : ℕ). g (16 - at + i)) at = ap (sum_to g) p ∙ sum-split g (16 - at) at in
    let b : sum_to f 16 ≡ sum_to f at + sum_to (λ (i : ℕ). f (at + i)) (16 - at) = ap (sum_to f) q ∙ sum-split f at (16 - at) in
    let c : sum_to g (16 - at) ≡ sum_to (λ (i : ℕ). f (at + i)) (16 - at) = sum_same g (λ (i : ℕ). f (at + i)) (16 - at) (λ i k. ap f (omega arith)) in
    let d : sum_to (λ (i : ℕ). g (16 - at + i)) at ≡ sum_to f at = sum_same (λ (i : ℕ). g (16 - at + i)) f at (λ i k. ap f (omega arith)) in
    omega arith

-- what place i adds, if it is kept
abbrev adds : List ℕ → ℕ → (ℕ → ℕ) → ℕ → ℕ
adds gaps ai v i = cond (keeps ai (get_or gaps i 0)) (v i) 0

same_kept : {a b c x y z : ℕ} → a ≡ x → b ≡ y → c ≡ z → ◌≡◌ {A = Kept} (record { count = a; sum = b; bytes = c }) (record { count = x; sum = y; bytes = z })
same_kept p q r = rw (p, q, r)

kept-sums : (gaps sizes : List ℕ) (ai n : ℕ)
    → kept_of gaps sizes ai n ≡ record { count = sum_to (adds gaps ai (λ (i : ℕ). 1)) n; sum = sum_to (adds gaps ai (λ (i : ℕ). get_or gaps i 0)) n; bytes = sum_to (adds gaps ai (λ (i : ℕ). get_or sizes i 0)) n }
unfolding kept_of take_in sum_to
kept-sums gaps sizes ai zero = refl
kept-sums gaps sizes ai (suc n) =
    rw (kept-sums gaps sizes ai n)
    (by_bool (keeps ai (get_or gaps n 0)) (λ t. rw t) (λ t. rw t (same_kept (omega arith) (omega arith) (omega arith))))

-- so what is kept of a whole window is what is kept of its places
module _ (a : Arrivals) (full : a.count ≡ 16) (h : a.at < 16) (e : length a.gaps ≡ 16) (f : length a.sizes ≡ 16) where
  module _ (ai : ℕ) where
    adds-turned : (v w : ℕ → ℕ) → ((i : ℕ) → i < 16 → v i ≡ w (place_in 16 a.at i)) → sum_to (adds (arrival_gaps a) ai v) 16 ≡ sum_to (adds a.gaps ai w) 16
    adds-turned v w s =
        sum_same (adds (arrival_gaps a) ai v) (λ (i : ℕ). adds a.gaps ai w (place_in 16 a.at i)) 16
        (λ i k.
        let p : get_or (arrival_gaps a) i 0 ≡ get_or a.gaps (place_in 16 a.at i) 0 = rw full (turned-at a.gaps a.at e h i k) in
        rw (p, s i k))
        ∙ sum-turned (adds a.gaps ai w) a.at h

    kept-turned : kept_of (arrival_gaps a) (arrival_sizes a) ai 16 ≡ kept_of a.gaps a.sizes ai 16
    kept-turned =
        kept-sums (arrival_gaps a) (arrival_sizes a) ai 16
        ∙ same_kept (adds-turned (λ (i : ℕ). 1) (λ (i : ℕ). 1) (λ i k. refl))
        (adds-turned (λ (i : ℕ). get_or (arrival_gaps a) i 0) (λ (i : ℕ). get_or a.gaps i 0) (λ i k. rw full (turned-at a.gaps a.at e h i k)))
        (adds-turned (λ (i : ℕ). get_or (arrival_sizes a) i 0) (λ (i : ℕ). get_or a.sizes i 0) (λ i k. rw full (turned-at a.sizes a.at f h i k)))
        ∙ sym (kept-sums a.gaps a.sizes ai 16)

  -- the speed is that of the newest 16, oldest first
  pub speed-window : speed_of a ≡ speed_kept (kept_of (arrival_gaps a) (arrival_sizes a) (median_of (arrival_gaps a) 8) 16)
  unfolding speed_of
  speed-window =
      let l : 16 ≤ a.count = omega arith in
      let m : median_of (arrival_gaps a) 8 ≡ median_of a.gaps 8 = rw full (sym (turned-median a.gaps a.at e h 8 (omega arith))) in
      rw (le-ltb _ _ l, m, kept-turned (median_of a.gaps 8))

-- and so is the capacity
pub capacity-window : (l : Links) → l.count ≡ 16 → l.at < 16 → length l.gaps ≡ 16 → capacity_of l ≡ Some (link_rate (median_of (link_gaps l) 7))
unfolding capacity_of
capacity-window l full h e =
    let k : 16 ≤ l.count = omega arith in
    let m : median_of (link_gaps l) 7 ≡ median_of l.gaps 7 = rw full (sym (turned-median l.gaps l.at e h 7 (omega arith))) in
    rw (le-ltb _ _ k, m)
