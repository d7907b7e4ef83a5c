-- What the code of push.rt does at each return and each turn, as laws over plain values. Assumes nothing.
use mathlib.Core.Path.{◌≡◌, refl, sym, ◌∙◌}
use mathlib.Core.Bool.{Bool, true, false}
use mathlib.Core.List.{List}
use Prim.Native.Nat.{ℕ, zero, suc, ◌+◌, ◌-◌, ◌^◌, ◌<◌, ◌≤◌}
use native.Mathlib.Numerals.{add-one}
use native.Mathlib.Omega.{arith}
use borrow.Author.Rules.{rules}
use borrow.Author.Tests.{eq-eqb, ne_eqb, lt-ltb, le-ltb}
use lib.IntN.{ℤ, nat_abs}
use lib.ListN.{length}
use Rattle.std.specs.Prelude.{Ok}
use Rattle.numbers.specs.Circular.{distance, before, sum, successor}
use Rattle.numbers.specs.Instants.{is_reading}
use Rattle.numbers.specs.Order.{order}
use Rattle.std.specs.declared.cmp.Ordering.{Ordering}
use Rattle.std.specs.declared.cmp.Ordering.TheVariants.{Less, Equal, Greater}
use Rattle.numbers.proofs.Circle.{distance-below, before_at, before-not, within, order-before}
use Rattle.numbers.proofs.Signs.{reading-size, reading-on}
use Rattle.slots.specs.Words.{is_lost, entry_at, write_at}
use Rattle.slots.specs.Ring.{slot_of, with_payload}
use Rattle.slots.specs.Inner.{next_slot}
use Rattle.slots.specs.declared.entry.Entry.{Entry}
use Rattle.slots.specs.declared.entry.Entry.TheVariants.{Lost}
use Rattle.slots.proofs.Laws.{length-write, slot_next, slot-words, slot-words-kept, slot-bytes}
use Rattle.window.specs.Window.{slot_in, next_of, lrsn_from, room_of}
use Rattle.window.specs.Ready.{Ring, Good}
use Rattle.window.specs.Push.{PushOutcome, push_ended, received, moved_past, lost_at, with_lost, recovered_lrsn, refused, append_next_of, append_with_loss_of, recovered_of, recover_of, push_of}
use Rattle.window.specs.declared.Window.{Window}
use Rattle.window.specs.declared.push.Packet.{Packet}
use Rattle.window.specs.declared.push.PushAnswer.TheVariants as answers
use Rattle.window.specs.declared.push.PushRefusal.TheVariants as refusals
use Rattle.window.proofs.Walks.{walk-slot}

-- moved_past, recovered_lrsn
pub moved : {l n x : ℕ} → l ≡ n → x ≡ successor 31 n → x ≡ moved_past l n
moved e f = rw (eq-eqb _ _ e) f

pub stayed : {l n : ℕ} → (l ≡ n → ⊥) → l ≡ moved_past l n
stayed h = rw (ne_eqb _ _ h)

pub lrsn-found : (w : Window) (n : ℕ) (ws : List ℕ) (i : ℕ) {x : ℕ} → w.lrsn ≡ n → x ≡ lrsn_from w ws i → x ≡ recovered_lrsn w n ws i
lrsn-found w n ws i e f = rw (eq-eqb _ _ e) f

pub lrsn-stayed : (w : Window) (n : ℕ) (ws : List ℕ) (i : ℕ) → (w.lrsn ≡ n → ⊥) → w.lrsn ≡ recovered_lrsn w n ws i
lrsn-stayed w n ws i h = rw (ne_eqb _ _ h)

-- write_lost; `z` is the time as the machine reads it back
pub reading-fits : (time : ℤ) {z : ℤ} {f : ℕ} → is_reading time ≡ true → f ≡ nat_abs z → z ≡ time → f < 2 ^ 60
reading-fits time e f q = rw (f, q) (reading-size time e).1

pub lost-written : (ws : List ℕ) (s : ℕ) (time : ℤ) {z : ℤ} {f : ℕ} {ws₁ : List ℕ} → ws₁ ≡ write_at ws s (Lost 2 f) → f ≡ nat_abs z → z ≡ time → ws₁ ≡ write_at ws s (lost_at time)
lost-written ws s time e f q = e ∙ rw (f, q)

-- the loop of append_lost, which has the time as the machine reads it back
module _ (capacity start : ℕ) (ws : List ℕ) (time : ℤ) (from : ℕ) where
  pub length-lost : (n : ℕ) → length (with_lost capacity start ws time from n) ≡ length ws
  unfolding with_lost
  length-lost zero = refl
  length-lost (suc n) = length-write _ _ _ ∙ length-lost n

  pub lost-start : ws ≡ with_lost capacity start ws time from 0
  unfolding with_lost
  lost-start = refl

  pub lost-again : (i : ℕ) {s : ℕ} {z : ℤ} {words words₁ : List ℕ}
      → words ≡ with_lost capacity start ws time from i → s ≡ slot_of capacity start (from + i) → words₁ ≡ write_at words s (lost_at z) → z ≡ time
      → words₁ ≡ with_lost capacity start ws time from (i + 1)
  unfolding with_lost
  lost-again i a b c q = rw (add-one i, ← a, ← b) (c ∙ rw q)

  pub lost-done : (i n : ℕ) {z : ℤ} {words : List ℕ} → words ≡ with_lost capacity start ws z from i → z ≡ time → i ≤ n → n ≤ i → words ≡ with_lost capacity start ws time from n
  lost-done i n a q h k = let e : i ≡ n = omega arith in rw (← e, ← q) a

  pub lost-on : (i count : ℕ) {s t : ℕ} → s ≡ slot_of capacity start (from + i) → t ≡ next_slot capacity s → start < capacity → i < count → from + count ≤ capacity → t ≡ slot_of capacity start (from + (i + 1))
  lost-on i count e f h k l =
      let a : from + (i + 1) ≡ from + i + 1 = omega arith in
      f ∙ rw (e, a) (sym (slot_next capacity start h (from + i) (omega arith)))

pub from_zero : (capacity start from : ℕ) {s : ℕ} → s ≡ slot_of capacity start from → s ≡ slot_of capacity start (from + 0)
from_zero capacity start from e = let a : from + 0 ≡ from = omega arith in rw a e

pub kept-length : (ws words : List ℕ) (s : ℕ) (e : Entry) {words₁ : List ℕ} → words₁ ≡ write_at words s e → length words ≡ length ws → length words₁ ≡ length ws
kept-length ws words s e a b = rw a (length-write words s e ∙ b)

pub good-kept : (w : Window) (ws : List ℕ) (s : ℕ) (e : Entry) {ws₁ : List ℕ} → ws₁ ≡ write_at ws s e → Good w ws → Good w ws₁
good-kept w ws s e a g = let l = length-write ws s e in rw a (omega arith)

-- append_next, append_with_loss, recover
pub lost-ring : (w : Window) (ws : List ℕ) (gap : ℕ) {room : ℕ} → Good w ws → room ≡ room_of w → gap + 1 ≤ room → Ring w.capacity w.start (w.held + gap) ws
lost-ring w ws gap g e h = omega arith

module _ (w : Window) (ws bs : List ℕ) (time : ℤ) (p : Packet) (payload : List ℕ) where
  pub full : w.held ≡ w.capacity → refused w ws bs time p payload refusals.BufferFull ≡ append_next_of w ws bs time p payload
  unfolding append_next_of
  full h = rw (eq-eqb _ _ h)

  pub appended : {s lrsn : ℕ} {ws₁ bs₁ : List ℕ}
      → (w.held ≡ w.capacity → ⊥) → lrsn ≡ moved_past w.lrsn p.number → s ≡ slot_in w w.held
      → ws₁ ≡ write_at ws s (received p payload) → bs₁ ≡ with_payload bs s payload
      → push_ended (Ok (record { window = record { capacity = w.capacity; start = w.start; held = w.held + 1; seqno0 = w.seqno0; lrsn = lrsn }; answer = answers.Got lrsn false })) ws₁ bs₁ ≡ append_next_of w ws bs time p payload
  unfolding append_next_of
  appended h a b c d = rw (ne_eqb _ _ h, c, d, b, a)

  pub too-early : (gap : ℕ) {room : ℕ} → room ≡ room_of w → room < gap + 1 → refused w ws bs time p payload (refusals.PacketTooEarly room (gap + 1)) ≡ append_with_loss_of w ws bs time p payload gap
  unfolding append_with_loss_of
  too-early gap e h = rw (← e, lt-ltb _ _ h)

  pub lost : (gap : ℕ) {room s lrsn first last : ℕ} {z : ℤ} {ws₁ ws₂ bs₁ : List ℕ}
      → room ≡ room_of w → gap + 1 ≤ room → lrsn ≡ moved_past w.lrsn p.number → first ≡ next_of w → last ≡ sum 31 p.number (2 ^ 31 - 1)
      → s ≡ slot_in w (w.held + gap) → ws₁ ≡ with_lost w.capacity w.start ws z w.held gap → z ≡ time
      → ws₂ ≡ write_at ws₁ s (received p payload) → bs₁ ≡ with_payload bs s payload
      → push_ended (Ok (record { window = record { capacity = w.capacity; start = w.start; held = w.held + (gap + 1); seqno0 = w.seqno0; lrsn = lrsn }; answer = answers.Loss first last })) ws₂ bs₁ ≡ append_with_loss_of w ws bs time p payload gap
  unfolding append_with_loss_of
  lost gap e h a f g b c q d i = rw (← e, le-ltb _ _ h, d, c, q, i, b, a, f, g)

  pub recovered : (i : ℕ) {s lrsn : ℕ} {ws₁ bs₁ : List ℕ}
      → s ≡ slot_in w i → ws₁ ≡ write_at ws s (received p payload) → bs₁ ≡ with_payload bs s payload → lrsn ≡ recovered_lrsn w p.number ws₁ i
      → push_ended (Ok (record { window = record { capacity = w.capacity; start = w.start; held = w.held; seqno0 = w.seqno0; lrsn = lrsn }; answer = answers.Got lrsn true })) ws₁ bs₁ ≡ recovered_of w ws bs time p payload i
  unfolding recovered_of
  recovered i d j k l = rw (← d, ← j, ← k, ← l)

  pub too-late : {i : ℕ} → i ≡ distance 31 p.number w.seqno0 → 2 ^ 30 ≤ i → refused w ws bs time p payload refusals.PacketTooLate ≡ recover_of w ws bs time p payload
  unfolding recover_of
  too-late c h = rw (before_at 31 p.number w.seqno0 (omega arith))

  module _ {u : Bool} {i s : ℕ} {e : Entry} (c : i ≡ distance 31 p.number w.seqno0) (b : i < 2 ^ 30) (d : s ≡ slot_in w i) (f : e ≡ entry_at ws s) (g : u ≡ is_lost e) where
    pub recovers : {r : PushOutcome} {z : ℤ} → u ≡ true → r ≡ recovered_of w ws bs z p payload i → z ≡ time → r ≡ recover_of w ws bs time p payload
    unfolding recover_of
    recovers h j q = rw (before-not 31 p.number w.seqno0 (omega arith), ← c, ← d, ← f, ← g, h) (j ∙ rw q)

    pub duplicate : u ≡ false → refused w ws bs time p payload refusals.DiscardedDuplicate ≡ recover_of w ws bs time p payload
    unfolding recover_of
    duplicate h = rw (before-not 31 p.number w.seqno0 (omega arith), ← c, ← d, ← f, ← g, h)

  -- an entry that is not before the first number, of a number before the next expected, is held
  module _ {i : ℕ} (c : i ≡ distance 31 p.number w.seqno0) (b : i < 2 ^ 30) (d : before 31 p.number (next_of w) ≡ true) where
    pub inside : i ≤ w.held
    inside = omega (arith, within 31 p.number w.seqno0 w.held d (before-not 31 p.number w.seqno0 (omega arith)))

    pub inside-capacity : w.held ≤ w.capacity → i ≤ w.capacity
    inside-capacity h = let k = inside in omega arith

  -- push
  pub gap_below : (n : ℕ) {gap : ℕ} → gap ≡ distance 31 p.number n → gap < 2 ^ 31
  gap_below n e = rw e (distance-below 31 p.number n)

  pub push-before : {o : Ordering} {n : ℕ} → n ≡ next_of w → o ≡ order 31 p.number n → o ≡ Less → before 31 p.number (next_of w) ≡ true
  push-before a b e = order-before 31 p.number (next_of w) (rw (← a, ← b) e)

  module _ {o : Ordering} {n : ℕ} {z : ℤ} {r : PushOutcome} (a : n ≡ next_of w) (b : o ≡ order 31 p.number n) where
    pub push-next : o ≡ Equal → r ≡ append_next_of w ws bs z p payload → z ≡ time → r ≡ push_of w ws bs time p payload
    unfolding push_of
    push-next e f q = rw (← a, ← b, e) (f ∙ rw q)

    pub push-loss : {gap : ℕ} → o ≡ Greater → gap ≡ distance 31 p.number n → r ≡ append_with_loss_of w ws bs z p payload gap → z ≡ time → r ≡ push_of w ws bs time p payload
    unfolding push_of
    push-loss e g f q = rw (← a, ← b, e, ← a, ← g) (f ∙ rw q)

    pub push-recover : o ≡ Less → r ≡ recover_of w ws bs z p payload → z ≡ time → r ≡ push_of w ws bs time p payload
    unfolding push_of
    push-recover e f q = rw (← a, ← b, e) (f ∙ rw q)

pub ruleset pushes = (
  slot-words,
  slot-words-kept,
  slot-bytes,
  walk-slot,
  moved,
  stayed,
  lrsn-found,
  lrsn-stayed,
  reading-fits,
  reading-on,
  lost-written,
  lost-start,
  lost-again,
  lost-done,
  lost-on,
  lost-ring,
  from_zero,
  kept-length,
  good-kept,
  full,
  appended,
  too-early,
  lost,
  too-late,
  recovered,
  recovers,
  duplicate,
  inside,
  inside-capacity,
  gap_below,
  push-next,
  push-loss,
  push-recover,
  push-before,
  rules,
)
