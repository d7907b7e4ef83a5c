-- The windows of intervals: as lists, oldest first, in which an interval enters at the end; their ranges; what is kept of one. Assumes nothing.
use mathlib.Core.Path.{◌≡◌, refl}
use mathlib.Core.Bool.{true, ◌&&◌}
use mathlib.Core.List.{List, [], ◌∷◌, ◌++◌}
use Prim.Native.Nat.{ℕ, zero, suc, ◌+◌, ◌-◌, ◌*◌, ◌/◌, ◌%◌, ◌^◌, ◌<◌, ◌≤◌}
use native.Mathlib.Nat.{mod-lt}
use native.Mathlib.Omega.{arith}
use borrow.Author.Tests.{lt-ltb, le-leb, ltb-true, leb-true}
use lib.Dec.{ltb, leb}
use lib.ListN.{length, get_or, set, drop, get_or-eq_default}
use lib.Seq.{get_or-set_same, get_or-set_other, set_out}
use Rattle.numbers.proofs.Flags.{and_left, and_right, by-test, by-order}
use Rattle.intervals.specs.Rates.{next_place, count_after, place_before, window_of, arrival_sizes, keeps, take_in, kept_of, all_under, time_ok, intervals_ok, arrivals_ok, links_ok}
use Rattle.intervals.specs.declared.rates.Arrivals.{Arrivals}
use Rattle.intervals.specs.declared.rates.Links.{Links}
use Rattle.intervals.specs.declared.rates.Kept.{Kept}

-- what is written at the next place is the newest: the places before it stay
module _ (l : List ℕ) (at x : ℕ) (h : at < 16) where
  entered : (n : ℕ) → n < 16 → window_of (set l at x) (next_place at) (suc n) ≡ window_of l at n ++ (get_or (set l at x) at 0 ∷ [])
  unfolding window_of
  entered zero k = let p : place_before (next_place at) 1 ≡ at = omega arith in rw p
  entered (suc n) k =
      let p : place_before (next_place at) (suc (suc n)) ≡ place_before at (suc n) = omega arith in
      let q : place_before at (suc n) ≡ at → ⊥ = λ f. omega arith in
      rw (p, get_or-set_other l at (place_before at (suc n)) x 0 q, entered n (omega arith))

  full : window_of (set l at x) (next_place at) 16 ≡ drop 1 (window_of l at 16) ++ (get_or (set l at x) at 0 ∷ [])
  unfolding window_of
  full = entered 15 (omega arith)

  written : (count : ℕ) → count ≤ 16 → window_of (set l at x) (next_place at) (count_after count) ≡ drop (count + 1 - 16) (window_of l at count) ++ (get_or (set l at x) at 0 ∷ [])
  written count k =
      by-order count 16
      (λ u.
      let p : count_after count ≡ suc count = omega arith in
      let q : count + 1 - 16 ≡ 0 = omega arith in
      rw (p, q) (entered count u))
      (λ u. let p : count ≡ 16 = omega arith in rw p full)

  -- the newest 16: an interval enters at the end, and of 16 the oldest goes
  pub enters : (count : ℕ) → count ≤ 16 → length l ≡ 16 → window_of (set l at x) (next_place at) (count_after count) ≡ drop (count + 1 - 16) (window_of l at count) ++ (x ∷ [])
  enters count k e = rw (get_or-set_same l at x 0 (omega arith)) at (written count k)

-- under a bound: the parts of a list, and its places
under-append : (b : ℕ) (l m : List ℕ) → all_under b l ≡ true → all_under b m ≡ true → all_under b (l ++ m) ≡ true
unfolding all_under
under-append b [] m e f = f
under-append b (x ∷ l) m e f = rw (and_left (ltb x b) _ e, under-append b l m (and_right (ltb x b) _ e) f)

under_drop : (b n : ℕ) (l : List ℕ) → all_under b l ≡ true → all_under b (drop n l) ≡ true
unfolding all_under
under_drop b zero l e = e
under_drop b (suc n) [] e = e
under_drop b (suc n) (x ∷ l) e = under_drop b n l (and_right (ltb x b) _ e)

under_one : (b x : ℕ) → x < b → all_under b (x ∷ []) ≡ true
unfolding all_under
under_one b x h = rw (lt-ltb x b h)

under-written : (b : ℕ) (l : List ℕ) (at x : ℕ) → x < b → get_or (set l at x) at 0 < b
under-written b l at x h =
    by-order at (length l)
    (λ k. rw (get_or-set_same l at x 0 k) h)
    (λ k. rw (set_out l at x k, get_or-eq_default l 0 k) (omega arith))

pub under-enters : (b : ℕ) (l : List ℕ) (at count x : ℕ) → at < 16 → count ≤ 16 → x < b
    → all_under b (window_of l at count) ≡ true → all_under b (window_of (set l at x) (next_place at) (count_after count)) ≡ true
under-enters b l at count x h k u f =
    let y = get_or (set l at x) at 0 in
    rw (written l at x h count k)
    (under-append b (drop (count + 1 - 16) (window_of l at count)) (y ∷ []) (under_drop b (count + 1 - 16) (window_of l at count) f)
    (under_one b y (under-written b l at x u)))

under-before : (b : ℕ) (l : List ℕ) (at count n : ℕ) → all_under b (window_of l at count) ≡ true → n < count → get_or l (place_before at (n + 1)) 0 < b
unfolding window_of all_under
under-before b l at zero n e h = absurd (omega arith)
under-before b l at (suc count) n e h =
    by-order n count
    (λ u. under-before b l at count n (and_right (ltb (get_or l (place_before at (suc count)) 0) b) _ e) u)
    (λ u.
    let p : place_before at (n + 1) ≡ place_before at (suc count) = omega arith in
    rw p (ltb-true (get_or l (place_before at (suc count)) 0) b (and_left (ltb (get_or l (place_before at (suc count)) 0) b) _ e)))

-- every place of a whole window is in it
pub under-place : (b : ℕ) (l : List ℕ) (at i : ℕ) → at < 16 → i < 16 → all_under b (window_of l at 16) ≡ true → get_or l i 0 < b
under-place b l at i h k e =
    let n = (at + 15 - i) % 16 in
    let p : place_before at (n + 1) ≡ i = omega arith in
    rw p at (under-before b l at 16 n e (omega arith))

-- a window has no other places than the sixteen
under_at : (b : ℕ) (l : List ℕ) (i : ℕ) → all_under b l ≡ true → i < length l → ltb (get_or l i 0) b ≡ true
unfolding all_under
under_at b [] i e h = absurd (omega arith)
under_at b (x ∷ l) zero e h = and_left (ltb x b) _ e
under_at b (x ∷ l) (suc i) e h = under_at b l i (and_right (ltb x b) _ e) (omega arith)

pub under-sixteen : (b : ℕ) (l : List ℕ) (at count : ℕ) → length l ≡ 16 → all_under b l ≡ true → all_under b (window_of l at count) ≡ true
unfolding window_of all_under
under-sixteen b l at zero k e = refl
under-sixteen b l at (suc n) k e = rw (under_at b l (place_before at (suc n)) e (omega arith)) (under-sixteen b l at n k e)

-- the test of a window's intervals, taken apart and put together
pub record IntervalRanges (gaps : List ℕ) (at count : ℕ) : Type 0 where
  pub holds : count ≤ 16
  pub place : at < 16
  pub under : all_under (2 ^ 31) (window_of gaps at count) ≡ true

module _ (gaps : List ℕ) (at count : ℕ) where
  pub interval-ranges : intervals_ok gaps at count ≡ true → IntervalRanges gaps at count
  interval-ranges e =
      let c = leb count 16 in
      let p = ltb at 16 in
      let g = all_under (2 ^ 31) (window_of gaps at count) in
      let f = and_left (c && p) g e in
      record { holds = leb-true count 16 (and_left c p f); place = ltb-true at 16 (and_right c p f); under = and_right (c && p) g e }

  pub intervals-ok : IntervalRanges gaps at count → intervals_ok gaps at count ≡ true
  intervals-ok r = rw (le-leb _ _ r.holds, lt-ltb _ _ r.place, r.under)

  -- one that enters keeps them
  pub ranges-enter : (x : ℕ) → x < 2 ^ 31 → IntervalRanges gaps at count → IntervalRanges (set gaps at x) (next_place at) (count_after count)
  ranges-enter x h r =
      record {
        holds = omega arith;
        place = mod-lt (at + 1) (omega arith);
        under = under-enters (2 ^ 31) gaps at count x r.place r.holds h r.under;
      }

-- the tests of the two windows: the intervals', and what each has beside
pub record ArrivalRanges (a : Arrivals) : Type 0 where
  pub intervals : IntervalRanges a.gaps a.at a.count
  pub sizes : all_under 1457 (arrival_sizes a) ≡ true
  pub last : time_ok a.last ≡ true

pub arrival-ranges : (a : Arrivals) → arrivals_ok a ≡ true → ArrivalRanges a
unfolding arrivals_ok
arrival-ranges a e =
    let i = intervals_ok a.gaps a.at a.count in
    let s = all_under 1457 (arrival_sizes a) in
    let f = and_left (i && s) (time_ok a.last) e in
    record {
      intervals = interval-ranges a.gaps a.at a.count (and_left i s f);
      sizes = and_right i s f;
      last = and_right (i && s) (time_ok a.last) e;
    }

pub arrivals-ok : (a : Arrivals) → ArrivalRanges a → arrivals_ok a ≡ true
unfolding arrivals_ok
arrivals-ok a r = rw (intervals-ok a.gaps a.at a.count r.intervals, r.sizes, r.last)

pub record LinkRanges (l : Links) : Type 0 where
  pub intervals : IntervalRanges l.gaps l.at l.count
  pub probe : time_ok l.probe ≡ true

pub link-ranges : (l : Links) → links_ok l ≡ true → LinkRanges l
unfolding links_ok
link-ranges l e =
    let i = intervals_ok l.gaps l.at l.count in
    record { intervals = interval-ranges l.gaps l.at l.count (and_left i (time_ok l.probe) e); probe = and_right i (time_ok l.probe) e }

pub links-ok : (l : Links) → LinkRanges l → links_ok l ≡ true
unfolding links_ok
links-ok l r = rw (intervals-ok l.gaps l.at l.count r.intervals, r.probe)

-- of what is kept each interval is 1 or more, and each size at most 1,456: so the rates fit 32 bits
module _ (gaps sizes : List ℕ) (ai : ℕ) where
  kept_at : (P : ℕ → Kept → Type 0) → P 0 (record { count = 0; sum = 0; bytes = 0 })
      → ((n : ℕ) (k : Kept) → P n k → P (suc n) k)
      → ((n : ℕ) (k : Kept) → P n k → 0 < get_or gaps n 0 → P (suc n) (record { count = k.count + 1; sum = k.sum + get_or gaps n 0; bytes = k.bytes + get_or sizes n 0 }))
      → (n : ℕ) → P n (kept_of gaps sizes ai n)
  unfolding kept_of take_in
  kept_at P z o s zero = z
  kept_at P z o s (suc n) =
      let k = kept_of gaps sizes ai n in
      by-test (P (suc n)) (keeps ai (get_or gaps n 0)) _ _
      (λ t.
      let h = ltb-true (ai / 8) (get_or gaps n 0) (and_right (ltb (get_or gaps n 0 / 8) ai) _ t) in
      s n k (kept_at P z o s n) (omega arith))
      (λ t. o n k (kept_at P z o s n))

  pub kept-count : (n : ℕ) → (kept_of gaps sizes ai n).count ≤ n
  kept-count = kept_at (λ (n : ℕ) (k : Kept). k.count ≤ n) (omega arith) (λ n k h. omega arith) (λ n k h p. omega arith)

  pub kept-sum : (n : ℕ) → (kept_of gaps sizes ai n).count ≤ (kept_of gaps sizes ai n).sum
  kept-sum = kept_at (λ (n : ℕ) (k : Kept). k.count ≤ k.sum) (omega arith) (λ n k h. h) (λ n k h p. omega arith)

  pub kept-bytes : ((i : ℕ) → i < 16 → get_or sizes i 0 < 1457) → (n : ℕ) → n ≤ 16 → (kept_of gaps sizes ai n).bytes ≤ 1456 * (kept_of gaps sizes ai n).count
  kept-bytes f =
      kept_at (λ (n : ℕ) (k : Kept). n ≤ 16 → k.bytes ≤ 1456 * k.count) (λ l. omega arith)
      (λ n k h l. h (omega arith))
      (λ n k h p l. let g = h (omega arith) in omega (arith, f n (omega arith)))
