-- Laws for the loops that walk the ring, one entry a turn. Assumes nothing.
use mathlib.Core.Path.{◌≡◌, ap, sym, ◌∙◌}
use mathlib.Core.Bool.{Bool, true, false}
use mathlib.Core.List.{List}
use Prim.Native.Nat.{ℕ, zero, suc, ◌+◌, ◌-◌, ◌<◌, ◌≤◌}
use native.Mathlib.Omega.{arith}
use borrow.Author.Rules.{rules}
use Rattle.numbers.proofs.Flags.{by-test}
use Rattle.slots.specs.Words.{is_received, entry_at}
use Rattle.slots.specs.Ring.{slot_of}
use Rattle.slots.specs.Inner.{next_slot}
use Rattle.slots.specs.declared.entry.Entry.{Entry}
use Rattle.slots.proofs.Laws.{slot_lt, slot-zero, slot_next, slot-words, slot-words-kept, slot-bytes}
use Rattle.window.specs.Window.{slot_in, number_in, first_gap, lrsn_from, cut}
use Rattle.window.specs.Ready.{Good}
use Rattle.window.specs.declared.Window.{Window}

-- a walk begins in the start slot
pub walk_start : (capacity start : ℕ) → start < capacity → start ≡ slot_of capacity start 0
walk_start capacity start h = sym (slot-zero capacity start h)

-- a walk's slot is under the capacity, and the next one's is the next slot
pub walk-slot : (capacity start i : ℕ) {s : ℕ} → s ≡ slot_of capacity start i → start < capacity → s < capacity
walk-slot capacity start i e h = omega (arith, slot_lt capacity start i (omega arith))

pub walk-most : {i held capacity : ℕ} → i < held → held ≤ capacity → capacity ≤ 8192 → i ≤ 8192
walk-most h k l = omega arith

pub held-most : {held capacity : ℕ} → held ≤ capacity → capacity ≤ 8192 → held ≤ 8192
held-most k l = omega arith

pub walk-on : (capacity start i : ℕ) {s t held : ℕ} → s ≡ slot_of capacity start i → t ≡ next_slot capacity s → start < capacity → i < held → held ≤ capacity → t ≡ slot_of capacity start (i + 1)
walk-on capacity start i e f h k l = f ∙ rw e (sym (slot_next capacity start h i (omega arith)))

-- `cut_front` and `search_lrsn`
pub cuts : (w : Window) (n : ℕ) {s x : ℕ} → s ≡ slot_in w n → x ≡ number_in w n
    → ◌≡◌ {A = Window} (record { capacity = w.capacity; start = s; held = w.held - n; seqno0 = x; lrsn = w.lrsn }) (cut w n)
cuts w n e f = rw (e, f)

-- a turn less to go
pub one_less : {i held : ℕ} → i < held → held - i ≡ suc (held - (i + 1))
one_less h = omega arith

-- the search for the first entry not received
module _ (capacity start : ℕ) (ws : List ℕ) (i held : ℕ) where
  pub gap-end : held ≤ i → first_gap capacity start ws i (held - i) ≡ i
  unfolding first_gap
  gap-end h = let e : held - i ≡ 0 = omega arith in rw e

  module _ (h : i < held) where
    pub gap_here : is_received (entry_at ws (slot_of capacity start i)) ≡ false → first_gap capacity start ws i (held - i) ≡ i
    unfolding first_gap
    gap_here t = rw (one_less h) (rw t)

    pub gap-on : is_received (entry_at ws (slot_of capacity start i)) ≡ true → first_gap capacity start ws i (held - i) ≡ first_gap capacity start ws (i + 1) (held - (i + 1))
    unfolding first_gap
    gap-on t = rw (one_less h) (rw t)

-- it stays within the entries that it is given
pub gap-le : (capacity start : ℕ) (ws : List ℕ) (n i : ℕ) → first_gap capacity start ws i n ≤ i + n
unfolding first_gap
gap-le capacity start ws zero i = omega arith
gap-le capacity start ws (suc n) i =
    by-test (λ (x : ℕ). x ≤ i + suc n) (is_received (entry_at ws (slot_of capacity start i))) _ _
    (λ t. let r = gap-le capacity start ws n (i + 1) in omega arith)
    (λ t. omega arith)

-- a turn of the loop of `first_gap`, its way out in the middle, its end and its bound
module _ (capacity start : ℕ) (ws : List ℕ) (i held : ℕ) {r : ℕ} (a : r ≡ first_gap capacity start ws i (held - i)) where
  module _ {s : ℕ} {e : Entry} {t : Bool} (h : i < held) (b : s ≡ slot_of capacity start i) (c : e ≡ entry_at ws s) (d : t ≡ is_received e) where
    pub gap-again : t ≡ true → r ≡ first_gap capacity start ws (i + 1) (held - (i + 1))
    gap-again f = a ∙ gap-on capacity start ws i held h (rw (← b, ← c, ← d) f)

    pub gap-found : t ≡ false → i ≡ r
    gap-found f = sym (a ∙ gap_here capacity start ws i held h (rw (← b, ← c, ← d) f))

  pub gap-done : held ≤ i → i ≡ r
  gap-done h = sym (a ∙ gap-end capacity start ws i held h)

  pub gap-bound : i ≤ held → held ≤ 8192 → r ≤ 8192
  gap-bound h k = let l = gap-le capacity start ws (held - i) i in omega arith

pub searched : (w : Window) (ws : List ℕ) (i : ℕ) {g n : ℕ} → g ≡ first_gap w.capacity w.start ws i (w.held - i) → n ≡ number_in w g → n ≡ lrsn_from w ws i
searched w ws i e f = f ∙ ap (number_in w) e

pub gap-small : (w : Window) (ws : List ℕ) (i : ℕ) {g : ℕ} → g ≡ first_gap w.capacity w.start ws i (w.held - i) → Good w ws → i ≤ w.held → g ≤ 8192
gap-small w ws i e g h = gap-bound w.capacity w.start ws i w.held e h (omega arith)

pub ruleset walks = (slot-words, slot-words-kept, slot-bytes, walk-slot, walk-on, cuts, gap-again, gap-found, gap-done, searched, gap-small, rules)
