-- A drop request counts the places that it gives up: 01, "become given up (words 2, 0, 0) and are counted". Assumes nothing.
use mathlib.Core.Path.{◌≡◌, refl, ap, sym, ◌∙◌}
use mathlib.Core.Bool.{Bool, true, false, ◌&&◌, cond}
use mathlib.Core.List.{List, ◌∷◌, map}
use Prim.Native.Nat.{ℕ, zero, suc, ◌+◌, ◌-◌, ◌≤◌}
use native.Mathlib.Omega.{arith}
use borrow.Author.Tests.{le-leb, lt-leb, lt-ltb, le-ltb}
use lib.Dec.{ltb, leb}
use Rattle.numbers.proofs.Flags.{by_bool, by-order}
use Rattle.slots.specs.Words as words
use Rattle.slots.specs.Words.{entry_at}
use Rattle.slots.specs.Ring.{slot_of}
use Rattle.slots.specs.declared.entry.Entry.{Entry}
use Rattle.slots.specs.declared.entry.Entry.TheVariants.{Lost, Received, GivenUp}
use Rattle.window.specs.Ready.{Good}
use Rattle.window.specs.declared.Window.{Window}
use Rattle.window_report.specs.Drop as dropping
use Rattle.window_report.specs.Drop.{drop_from, drop_to, drop_of}
use Rattle.window_report.specs.Drop.{lost_among}
use Rattle.window_report.proofs.DropLaws.{drop-counts}
use Rattle.views.specs.Lists.{changed_in}
use Rattle.views.specs.View.{seen_of, entries_from, entries}
use Rattle.ledger.specs.Ledger.{Place, gave_up, given_in, lost_count}
use Rattle.ledger.specs.Runs.{place_of}

abbrev one : Bool → ℕ
one t = cond t 1 0

-- the lost entries from entry i on that are in the range
unfoldable lost_within : ℕ → ℕ → List ℕ → ℕ → ℕ → ℕ → ℕ → ℕ
lost_within capacity start ws from to i zero = 0
lost_within capacity start ws from to i (suc n) =
    cond (leb from i && ltb i to) (one (words.is_lost (entry_at ws (slot_of capacity start i)))) 0 + lost_within capacity start ws from to (suc i) n

module _ (capacity start : ℕ) (ws bs : List ℕ) (from to : ℕ) where
  abbrev mark : ℕ → Bool
  mark i = words.is_lost (entry_at ws (slot_of capacity start i))

  abbrev within : ℕ → ℕ → ℕ
  within i n = lost_within capacity start ws from to i n

  -- one place, in the range or not
  one-given : (t : Bool) (s : ℕ) (e : Entry) (xs ys : List Place) (m : ℕ) → lost_count xs ≡ lost_count ys + m
      → lost_count (place_of (seen_of bs s e) ∷ xs) ≡ lost_count (cond t (gave_up (place_of (seen_of bs s e))) (place_of (seen_of bs s e)) ∷ ys) + (cond t (one (words.is_lost e)) 0 + m)
  unfolding lost_count
  one-given true s (Lost k f) xs ys m h = omega arith
  one-given true s (Received n l u v) xs ys m h = omega arith
  one-given true s GivenUp xs ys m h = omega arith
  one-given false s (Lost k f) xs ys m h = omega arith
  one-given false s (Received n l u v) xs ys m h = omega arith
  one-given false s GivenUp xs ys m h = omega arith

  given-counts : (n i : ℕ) → lost_count (map place_of (entries_from capacity start ws bs i n)) ≡ lost_count (given_in from to i (map place_of (entries_from capacity start ws bs i n))) + within i n
  unfolding entries_from changed_in lost_within
  given-counts zero i = omega arith
  given-counts (suc n) i =
      one-given (leb from i && ltb i to) (slot_of capacity start i) (entry_at ws (slot_of capacity start i)) (map place_of (entries_from capacity start ws bs (suc i) n)) (given_in from to (suc i) (map place_of (entries_from capacity start ws bs (suc i) n))) (within (suc i) n) (given-counts n (suc i))

  -- out of the range, and in it
  none_below : (n i : ℕ) → i + n ≤ from → within i n ≡ 0
  unfolding lost_within
  none_below zero i h = refl
  none_below (suc n) i h =
      let a : leb from i ≡ false = lt-leb from i (omega arith) in
      let r = none_below n (suc i) (omega arith) in
      rw a (omega (arith, r))

  none_above : (n i : ℕ) → to ≤ i → within i n ≡ 0
  unfolding lost_within
  none_above zero i h = refl
  none_above (suc n) i h =
      let a : ltb i to ≡ false = le-ltb i to h in
      let r = none_above n (suc i) (omega arith) in
      by_bool (leb from i) (λ t. rw (t, a) (omega (arith, r))) (λ t. rw t (omega (arith, r)))

  among-front : (n i : ℕ) → lost_among capacity start ws i (suc n) ≡ one (mark i) + lost_among capacity start ws (suc i) n
  unfolding lost_among
  among-front zero i = let z : i + 0 ≡ i = omega arith in rw z (omega arith)
  among-front (suc n) i =
      let z : i + suc n ≡ suc i + n = omega arith in
      let r = among-front n i in
      rw z (omega (arith, r))

  all-within : (n i : ℕ) → from ≤ i → i + n ≤ to → within i n ≡ lost_among capacity start ws i n
  unfolding lost_within lost_among
  all-within zero i a b = refl
  all-within (suc n) i a b =
      rw (le-leb from i a, lt-ltb i to (omega arith)) (ap (λ (x : ℕ). one (mark i) + x) (all-within n (suc i) (omega arith) (omega arith)) ∙ sym (among-front n i))

  within-split : (n m i : ℕ) → within i (n + m) ≡ within i n + within (i + n) m
  unfolding lost_within
  within-split zero m i = let a : 0 + m ≡ m = omega arith in let b : i + 0 ≡ i = omega arith in rw (a, b) (omega arith)
  within-split (suc n) m i =
      let a : suc n + m ≡ suc (n + m) = omega arith in
      let b : i + suc n ≡ suc i + n = omega arith in
      let r = within-split n m (suc i) in
      rw (a, b) (omega (arith, r))

  -- all that are held
  in-range : (held : ℕ) → to ≤ held → from ≤ held → within 0 held ≡ lost_among capacity start ws from (to - from)
  unfolding lost_among
  in-range held h k =
      by-order to from
      (λ o.
      let a : from + (held - from) ≡ held = omega arith in
      let z : to - from ≡ 0 = omega arith in
      let b : 0 + from ≡ from = omega arith in
      ap (within 0) (sym a)
      ∙ within-split from (held - from) 0
      ∙ rw (z, none_below from 0 (omega arith), b, none_above (held - from) from (omega arith)) (omega arith))
      (λ o.
      let a : from + (to - from) + (held - to) ≡ held = omega arith in
      let b : 0 + from ≡ from = omega arith in
      let c : 0 + (from + (to - from)) ≡ to = omega arith in
      let x = within-split (from + (to - from)) (held - to) 0 in
      let y = within-split from (to - from) 0 in
      let u = none_below from 0 (omega arith) in
      let v : within (0 + (from + (to - from))) (held - to) ≡ 0 = none_above (held - to) (0 + (from + (to - from))) (omega arith) in
      let m : within (0 + from) (to - from) ≡ lost_among capacity start ws from (to - from) = rw b (all-within (to - from) from (omega arith) (omega arith)) in
      ap (within 0) (sym a) ∙ omega (arith, x, y, u, v, m))

module _ (w : Window) (ws bs : List ℕ) (g : Good w ws) (first last : ℕ) where
  -- the count of a drop request, by the places
  pub counts : lost_count (map place_of (entries w ws bs)) ≡ lost_count (given_in (drop_from w first) (drop_to w last) 0 (map place_of (entries w ws bs))) + (drop_of w ws first last).count
  unfolding dropping.end_in
  counts =
      given-counts w.capacity w.start ws bs (drop_from w first) (drop_to w last) w.held 0
      ∙ ap (λ (x : ℕ). lost_count (given_in (drop_from w first) (drop_to w last) 0 (map place_of (entries w ws bs))) + x)
      (in-range w.capacity w.start ws bs (drop_from w first) (drop_to w last) w.held (omega arith) (omega arith) ∙ sym (drop-counts w ws first last g))
