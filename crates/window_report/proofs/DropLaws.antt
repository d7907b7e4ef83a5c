-- Laws of a drop request: 01, "Window". Assumes nothing.
use mathlib.Core.Path.{◌≡◌, refl, ◌∙◌}
use mathlib.Core.Bool.{cond}
use mathlib.Core.List.{List}
use Prim.Native.Nat.{ℕ, zero, suc, ◌+◌, ◌-◌, ◌*◌, ◌<◌, ◌≤◌}
use native.Mathlib.Omega.{arith}
use lib.ListN.{length, drop}
use Rattle.numbers.proofs.Flags.{by-test, by_bool, by-order}
use Rattle.slots.specs.Words.{is_lost, entry_at}
use Rattle.slots.specs.Ring.{slot_of}
use Rattle.slots.specs.declared.entry.Entry.TheVariants.{GivenUp}
use Rattle.slots.proofs.Laws.{length-write, read_same, read-other, words-outside, slot_lt, slot-words, slot_apart}
use Rattle.window.specs.Window.{entry_in}
use Rattle.window.specs.Ready.{Good}
use Rattle.window_report.specs.Drop.{Dropped, give_up, sweep, end_in, drop_from, drop_to, drop_of, lost_among}
use Rattle.window.specs.declared.Window.{Window}

-- one slot: the count grows by one at most, the words keep their number, and no other slot changes
module _ (s : ℕ) (x : Dropped) where
  one-most : (give_up s x).count ≤ x.count + 1
  unfolding give_up
  one-most =
      by-test (λ (y : Dropped). y.count ≤ x.count + 1) (is_lost (entry_at x.slots s)) _ _
      (λ t. omega arith)
      (λ t. omega arith)

  one-long : length (give_up s x).slots ≡ length x.slots
  unfolding give_up
  one-long =
      by-test (λ (y : Dropped). length y.slots ≡ length x.slots) (is_lost (entry_at x.slots s)) _ _
      (λ t. length-write _ _ _)
      (λ t. refl)

  one-other : (t : ℕ) → (t ≡ s → ⊥) → entry_at (give_up s x).slots t ≡ entry_at x.slots t
  unfolding give_up
  one-other t n =
      by-test (λ (y : Dropped). entry_at y.slots t ≡ entry_at x.slots t) (is_lost (entry_at x.slots s)) _ _
      (λ u. read-other _ _ t n GivenUp)
      (λ u. refl)

  one_same : 3 * s + 3 ≤ length x.slots → entry_at (give_up s x).slots s ≡ cond (is_lost (entry_at x.slots s)) GivenUp (entry_at x.slots s)
  unfolding give_up
  one_same h =
      by_bool (is_lost (entry_at x.slots s))
      (λ t. rw t (read_same _ _ GivenUp h tt))
      (λ t. rw t)

  one-past : (capacity : ℕ) → s < capacity → drop (3 * capacity) (give_up s x).slots ≡ drop (3 * capacity) x.slots
  unfolding give_up
  one-past capacity h =
      by-test (λ (y : Dropped). drop (3 * capacity) y.slots ≡ drop (3 * capacity) x.slots) (is_lost (entry_at x.slots s)) _ _
      (λ t. words-outside _ _ capacity h GivenUp)
      (λ t. refl)

-- the n entries from entry i on
module _ (capacity start : ℕ) (ws : List ℕ) (i : ℕ) where
  pub sweep-most : (n : ℕ) → (sweep capacity start ws i n).count ≤ n
  unfolding sweep
  sweep-most zero = omega arith
  sweep-most (suc n) = omega (arith, one-most (slot_of capacity start (i + n)) (sweep capacity start ws i n), sweep-most n)

  pub sweep-long : (n : ℕ) → length (sweep capacity start ws i n).slots ≡ length ws
  unfolding sweep
  sweep-long zero = refl
  sweep-long (suc n) = one-long _ _ ∙ sweep-long n

  pub sweep-past : (n : ℕ) → 0 < capacity → drop (3 * capacity) (sweep capacity start ws i n).slots ≡ drop (3 * capacity) ws
  unfolding sweep
  sweep-past zero h = refl
  sweep-past (suc n) h = one-past _ _ capacity (slot_lt capacity start (i + n) h) ∙ sweep-past n h

  module _ (hs : start < capacity) (j : ℕ) (hj : j < capacity) where
    -- an entry out of the range stays
    sweep-out : (n : ℕ) → i + n ≤ capacity → ((m : ℕ) → m < n → j ≡ i + m → ⊥) → entry_at (sweep capacity start ws i n).slots (slot_of capacity start j) ≡ entry_at ws (slot_of capacity start j)
    unfolding sweep
    sweep-out zero h f = refl
    sweep-out (suc n) h f =
        one-other _ _ _ (slot_apart capacity start hs j (i + n) hj (omega arith) (f n (omega arith)))
        ∙ sweep-out n (omega arith) (λ m k. f m (omega arith))

    -- an entry in the range is given up if it was lost
    sweep-in : (n : ℕ) → 3 * capacity ≤ length ws → i + n ≤ capacity → i ≤ j → j < i + n
        → entry_at (sweep capacity start ws i n).slots (slot_of capacity start j) ≡ cond (is_lost (entry_at ws (slot_of capacity start j))) GivenUp (entry_at ws (slot_of capacity start j))
    unfolding sweep
    sweep-in zero w h k l = absurd (omega arith)
    sweep-in (suc n) w h k l =
        by-order j (i + n)
        (λ o.
        let ne : (j ≡ i + n → ⊥) = omega arith in
        one-other _ _ _ (slot_apart capacity start hs j (i + n) hj (omega arith) ne) ∙ sweep-in n w (omega arith) k o)
        (λ o.
        let e : i + n ≡ j = omega arith in
        let a = sweep-out n (omega arith) (λ m q p. omega arith) in
        rw e
        (one_same (slot_of capacity start j) (sweep capacity start ws i n) (rw sweep-long (slot-words capacity start j refl hs w)) ∙ rw a))

-- the count is the number of lost ones: what is given up on the way is not counted again
pub sweep-counts : (capacity start : ℕ) (ws : List ℕ) (i n : ℕ) → start < capacity → i + n ≤ capacity → (sweep capacity start ws i n).count ≡ lost_among capacity start ws i n
unfolding sweep give_up lost_among
sweep-counts capacity start ws i zero hs h = refl
sweep-counts capacity start ws i (suc n) hs h =
    let a = sweep-counts capacity start ws i n hs (omega arith) in
    let b = sweep-out capacity start ws i hs (i + n) (omega arith) n (omega arith) (λ m k p. omega arith) in
    rw b
    (by_bool (is_lost (entry_at ws (slot_of capacity start (i + n))))
    (λ t. rw (t, a))
    (λ t. rw t (omega arith)))

-- a drop request from first to last
module _ (w : Window) (ws : List ℕ) (first last : ℕ) where
  abbrev pub dropped : Dropped
  dropped = drop_of w ws first last

  pub drop-most : dropped.count ≤ drop_to w last - drop_from w first
  unfolding drop_of
  drop-most = sweep-most w.capacity w.start ws (drop_from w first) (drop_to w last - drop_from w first)

  pub drop-long : length dropped.slots ≡ length ws
  unfolding drop_of
  drop-long = sweep-long w.capacity w.start ws (drop_from w first) (drop_to w last - drop_from w first)

  pub drop_past : 0 < w.capacity → drop (3 * w.capacity) dropped.slots ≡ drop (3 * w.capacity) ws
  unfolding drop_of
  drop_past h = sweep-past w.capacity w.start ws (drop_from w first) (drop_to w last - drop_from w first) h

  module _ (g : Good w ws) where
    within : drop_from w first + (drop_to w last - drop_from w first) ≤ w.capacity
    unfolding end_in
    within = omega arith

    pub drop-counts : dropped.count ≡ lost_among w.capacity w.start ws (drop_from w first) (drop_to w last - drop_from w first)
    unfolding drop_of
    drop-counts = sweep-counts w.capacity w.start ws (drop_from w first) (drop_to w last - drop_from w first) g.ranges.starts within

    -- a lost entry in the range is given up, and every other entry is as it was
    pub drop-in : (j : ℕ) → drop_from w first ≤ j → j < drop_to w last → entry_in w dropped.slots j ≡ cond (is_lost (entry_in w ws j)) GivenUp (entry_in w ws j)
    unfolding drop_of
    drop-in j h k =
        sweep-in w.capacity w.start ws (drop_from w first) g.ranges.starts j (omega (arith, within)) (drop_to w last - drop_from w first) g.words within h
        (omega arith)

    drop-out : (j : ℕ) → j < w.capacity → ((m : ℕ) → m < drop_to w last - drop_from w first → j ≡ drop_from w first + m → ⊥) → entry_in w dropped.slots j ≡ entry_in w ws j
    unfolding drop_of
    drop-out j h f = sweep-out w.capacity w.start ws (drop_from w first) g.ranges.starts j h (drop_to w last - drop_from w first) within f

    pub drop-before : (j : ℕ) → j < w.capacity → j < drop_from w first → entry_in w dropped.slots j ≡ entry_in w ws j
    drop-before j h k = drop-out j h (λ m l e. omega arith)

    pub drop-after : (j : ℕ) → j < w.capacity → drop_to w last ≤ j → entry_in w dropped.slots j ≡ entry_in w ws j
    drop-after j h k = drop-out j h (λ m l e. omega arith)
