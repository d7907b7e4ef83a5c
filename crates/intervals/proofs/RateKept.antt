-- The windows' ranges are kept, and what recording does to a window as a list, oldest first. Assumes nothing.
use mathlib.Core.Path.{◌≡◌, refl, ◌∙◌}
use mathlib.Core.Bool.{true}
use mathlib.Core.List.{[], ◌∷◌, ◌++◌}
use Prim.Native.Nat.{ℕ, ◌+◌, ◌-◌, ◌%◌, ◌<◌, ◌≤◌}
use native.Mathlib.Omega.{arith}
use lib.Dec.{eqb}
use lib.IntN.{ℤ}
use lib.ListN.{length, drop, length-set}
use Rattle.numbers.specs.Instants.{is_reading, since_time}
use Rattle.std.specs.Prelude.{Option, Some, None}
use Rattle.numbers.proofs.Flags.{by-test}
use Rattle.numbers.proofs.Signs.{since-under}
use Rattle.intervals.specs.Rates.{window_of, arrival_gaps, arrival_sizes, link_gaps, fresh_arrivals, fresh_links, arrived_since, arrival_of, with_probe, paired_since, pair_of, link_of, all_under, arrivals_ok, links_ok}
use Rattle.intervals.specs.declared.rates.Arrivals.{Arrivals}
use Rattle.intervals.specs.declared.rates.Links.{Links}
use Rattle.intervals.proofs.Windows.{enters, under-enters, ranges-enter, ArrivalRanges, arrival-ranges, arrivals-ok, LinkRanges, link-ranges, links-ok}

pub fresh-arrivals-ok : arrivals_ok fresh_arrivals ≡ true
unfolding arrivals_ok fresh_arrivals window_of all_under
fresh-arrivals-ok = refl

pub fresh-links-ok : links_ok fresh_links ≡ true
unfolding links_ok fresh_links window_of all_under
fresh-links-ok = refl

-- an arrival keeps the ranges
module _ (a : Arrivals) (now : ℤ) (size : ℕ) where
  since-kept : (m : Option ℤ) → ArrivalRanges a → is_reading now ≡ true → size ≤ 1456 → ArrivalRanges (arrived_since m a now size)
  since-kept None r n s = record { intervals = r.intervals; sizes = r.sizes; last = n }
  since-kept (Some t) r n s =
      record {
        intervals = ranges-enter a.gaps a.at a.count (since_time now t) (since-under now t) r.intervals;
        sizes = under-enters 1457 a.sizes a.at a.count size r.intervals.place r.intervals.holds (omega arith) r.sizes;
        last = n;
      }

  pub arrival-kept : arrivals_ok a ≡ true → is_reading now ≡ true → size ≤ 1456 → arrivals_ok (arrival_of a now size) ≡ true
  unfolding arrival_of
  arrival-kept e n s = arrivals-ok (arrival_of a now size) (since-kept a.last (arrival-ranges a e) n s)

  -- the interval since the last arrival and the size enter at the end; of 16 the oldest go
  module _ {t : ℤ} (m : a.last ≡ Some t) (h : a.at < 16) (k : a.count ≤ 16) where
    pub arrival-gaps : length a.gaps ≡ 16 → arrival_gaps (arrival_of a now size) ≡ drop (a.count + 1 - 16) (arrival_gaps a) ++ (since_time now t ∷ [])
    unfolding arrival_of
    arrival-gaps e = rw m (enters a.gaps a.at (since_time now t) h a.count k e)

    pub arrival-sizes : length a.sizes ≡ 16 → arrival_sizes (arrival_of a now size) ≡ drop (a.count + 1 - 16) (arrival_sizes a) ++ (size ∷ [])
    unfolding arrival_of
    arrival-sizes e = rw m (enters a.sizes a.at size h a.count k e)

  -- the arrays keep their length
  pub arrival-lengths : length a.gaps ≡ 16 → length a.sizes ≡ 16 → (length (arrival_of a now size).gaps ≡ 16) × (length (arrival_of a now size).sizes ≡ 16)
  unfolding arrival_of
  arrival-lengths e f = go a.last
    where
      go : (m : Option ℤ) → (length (arrived_since m a now size).gaps ≡ 16) × (length (arrived_since m a now size).sizes ≡ 16)
      go None = (e, f)
      go (Some t) = (length-set a.gaps a.at (since_time now t) ∙ e, length-set a.sizes a.at size ∙ f)

-- so does a link's append
module _ (l : Links) (now : ℤ) where
  pair-kept : (m : Option ℤ) → LinkRanges l → LinkRanges (paired_since m l now)
  pair-kept None r = record { intervals = r.intervals; probe = refl }
  pair-kept (Some t) r = record { intervals = ranges-enter l.gaps l.at l.count (since_time now t) (since-under now t) r.intervals; probe = refl }

  pub link-kept : (number : ℕ) → links_ok l ≡ true → is_reading now ≡ true → links_ok (link_of l now number) ≡ true
  unfolding link_of pair_of
  link-kept number e n =
      let r = link-ranges l e in
      by-test (λ (x : Links). links_ok x ≡ true) (eqb (number % 16) 0) _ _
      (λ t. links-ok (with_probe l (Some now)) (record { intervals = r.intervals; probe = n }))
      (λ t.
      by-test (λ (x : Links). links_ok x ≡ true) (eqb (number % 16) 1) _ _
      (λ u. links-ok (paired_since l.probe l now) (pair-kept l.probe r))
      (λ u. e))

  -- the interval since the probe enters at the end; of 16 the oldest goes
  pub link-gaps : {t : ℤ} → l.probe ≡ Some t → l.at < 16 → l.count ≤ 16 → length l.gaps ≡ 16 → link_gaps (pair_of l now) ≡ drop (l.count + 1 - 16) (link_gaps l) ++ (since_time now t ∷ [])
  unfolding pair_of
  link-gaps {t} m h k e = rw m (enters l.gaps l.at (since_time now t) h l.count k e)
