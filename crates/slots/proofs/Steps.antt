-- What the code of this crate does at each return, as laws over plain values; the proof files hand them to `search`. Assumes nothing.
use mathlib.Core.Path.{◌≡◌, refl}
use mathlib.Core.List.{List}
use Prim.Native.Nat.{ℕ, ◌+◌, ◌-◌, ◌*◌, ◌/◌, ◌%◌, ◌^◌, ◌<◌, ◌≤◌}
use native.Mathlib.Nat.{mod-eq_of_lt, mod-eq-sub-mod}
use native.Mathlib.Omega.{arith}
use borrow.Author.Rules.{rules}
use borrow.Author.Tests.{eq-eqb, ne_eqb, lt-ltb, le-ltb}
use lib.Dec.{eqb, leb}
use lib.ListN.{length, get_or, set, length-set}
use Rattle.slots.specs.Words.{length_read, entry_of, words_of, entry_at, write_at, write_report, is_first, is_last, in_message}
use Rattle.slots.specs.Ring.{slot_of}
use Rattle.slots.specs.Inner.{next_slot}
use Rattle.slots.specs.declared.entry.Entry.{Entry}
use Rattle.slots.specs.declared.entry.Entry.TheVariants.{Lost, Received, GivenUp}

-- unpack
module _ (a b c : ℕ) where
  pub lost-words : a % 4 ≡ 0 → Lost (b % 2 ^ 16) (c % 2 ^ 60) ≡ entry_of a b c
  unfolding entry_of
  lost-words h = rw (eq-eqb _ _ h)

  pub received-words : {n : ℕ} → (a % 4 ≡ 0 → ⊥) → a % 4 ≡ 1 → n ≡ length_read (a / 4 % 2048) → Received n (a / 8192 % 4) (a / 32768 % 2 ^ 26) (b % 2 ^ 32) ≡ entry_of a b c
  unfolding entry_of
  received-words h k e = rw (ne_eqb _ _ h, eq-eqb _ _ k, e)

  pub given-words : (a % 4 ≡ 0 → ⊥) → (a % 4 ≡ 1 → ⊥) → GivenUp ≡ entry_of a b c
  unfolding entry_of
  given-words h k = rw (ne_eqb _ _ h, ne_eqb _ _ k)

-- is_first, is_last, in_message
module _ {e : Entry} {n l m t : ℕ} (h : e ≡ Received n l m t) where
  pub first-flag : leb 2 l ≡ is_first e
  first-flag = rw h

  pub last-flag : eqb (l % 2) 1 ≡ is_last e
  last-flag = rw h

  pub message-flag : (message : ℕ) → eqb m message ≡ in_message message e
  message-flag message = rw h

-- read_at
pub reads : (ws : List ℕ) (s : ℕ) {e : Entry} → e ≡ entry_of (get_or ws (3 * s) 0) (get_or ws (3 * s + 1) 0) (get_or ws (3 * s + 2) 0) → e ≡ entry_at ws s
unfolding entry_at
reads ws s p = p

-- write_at, write_report
pub writes : (ws : List ℕ) (s : ℕ) (e : Entry) {w : List ℕ} → w ≡ words_of e → set (set (set ws (3 * s) (get_or w 0 0)) (3 * s + 1) (get_or w 1 0)) (3 * s + 2) (get_or w 2 0) ≡ write_at ws s e
unfolding write_at
writes ws s e p = rw p

pub writes-report : (ws : List ℕ) (s k f : ℕ) → set (set ws (3 * s + 1) k) (3 * s + 2) f ≡ write_report ws s k f
unfolding write_report
writes-report ws s k f = refl

pub second-in : (ws : List ℕ) (s i v : ℕ) → 3 * s + 3 ≤ length ws → 3 * s + 1 < length (set ws i v)
second-in ws s i v h = simp length-set (omega arith)

pub third-in : (ws : List ℕ) (s i v : ℕ) → 3 * s + 3 ≤ length ws → 3 * s + 2 < length (set ws i v)
third-in ws s i v h = simp length-set (omega arith)

pub third-in-both : (ws : List ℕ) (s i j v x : ℕ) → 3 * s + 3 ≤ length ws → 3 * s + 2 < length (set (set ws i v) j x)
third-in-both ws s i j v x h = simp length-set (omega arith)

-- slot, next_slot
pub slot-low : (capacity start i : ℕ) → start + i < capacity → start + i ≡ slot_of capacity start i
unfolding slot_of
slot-low capacity start i h = rw (mod-eq_of_lt h)

pub slot-high : (capacity start i : ℕ) → start < capacity → i ≤ capacity → capacity ≤ start + i → start + i - capacity ≡ slot_of capacity start i
unfolding slot_of
slot-high capacity start i a b h =
    let l : start + i - capacity < capacity = omega arith in
    rw (mod-eq-sub-mod h, mod-eq_of_lt l)

pub next_low : (capacity s : ℕ) → s + 1 < capacity → s + 1 ≡ next_slot capacity s
next_low capacity s h = rw (lt-ltb _ _ h)

pub next-high : (capacity s : ℕ) → capacity ≤ s + 1 → 0 ≡ next_slot capacity s
next-high capacity s h = rw (le-ltb _ _ h)

pub ruleset steps = (
  lost-words,
  received-words,
  given-words,
  reads,
  writes,
  writes-report,
  second-in,
  third-in,
  third-in-both,
  slot-low,
  slot-high,
  next_low,
  first-flag,
  last-flag,
  message-flag,
  next-high,
  rules,
)
