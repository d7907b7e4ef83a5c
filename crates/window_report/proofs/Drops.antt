-- What the code of drop_request.rt does at each return, as laws over plain values; the proof files hand them to `search`. Assumes nothing.
use mathlib.Core.Path.{◌≡◌, ap, ◌∙◌}
use mathlib.Core.Bool.{Bool, true, false}
use mathlib.Core.List.{List}
use Prim.Native.Nat.{ℕ, suc, ◌+◌, ◌-◌, ◌*◌, ◌<◌, ◌≤◌, min}
use native.Mathlib.Omega.{arith}
use borrow.Author.Rules.{rules}
use lib.ListN.{length}
use Rattle.numbers.specs.Circular.{saturating, sum}
use Rattle.slots.specs.Words.{is_lost, entry_at, write_at}
use Rattle.slots.specs.Ring.{slot_of}
use Rattle.slots.specs.declared.entry.Entry.{Entry}
use Rattle.slots.specs.declared.entry.Entry.TheVariants.{GivenUp}
use Rattle.window_report.specs.Drop.{Dropped, drop_ended, give_up, sweep, end_in, drop_of}
use Rattle.window.specs.declared.Window.{Window}
use Rattle.window.proofs.Walks.{walk-slot, walk-on}
use Rattle.slots.proofs.Laws.{slot-words-kept}
use Rattle.window_report.proofs.DropLaws.{sweep-most, sweep-long}

-- end_in
pub end-inside : (w : Window) (number : ℕ) {d n : ℕ} → d ≡ saturating 31 number w.seqno0 → n ≡ min d w.held → n ≡ end_in w number
unfolding end_in
end-inside w number e q = q ∙ rw e

-- give_up_one
module _ (s n : ℕ) (ws : List ℕ) {e : Entry} {t : Bool} (a : e ≡ entry_at ws s) (b : t ≡ is_lost e) where
  pub given : {ws₁ : List ℕ} → t ≡ true → ws₁ ≡ write_at ws s GivenUp → drop_ended (n + 1) ws₁ ≡ give_up s (drop_ended n ws)
  unfolding give_up
  given c d = rw (d, ← a, ← b, c)

  pub stays : t ≡ false → drop_ended n ws ≡ give_up s (drop_ended n ws)
  unfolding give_up
  stays c = rw (← a, ← b, c)

-- give_up: the start, what a turn needs, a turn and the end
module _ (capacity start : ℕ) (ws : List ℕ) (from : ℕ) where
  pub sweep-start : drop_ended 0 ws ≡ sweep capacity start ws from (from - from)
  unfolding sweep
  sweep-start = let e : from - from ≡ 0 = omega arith in rw e

  module _ (i : ℕ) {n : ℕ} {words : List ℕ} (a : drop_ended n words ≡ sweep capacity start ws from (i - from)) where
    pub sweep-same : length words ≡ length ws
    sweep-same = ap (λ (x : Dropped). length x.slots) a ∙ sweep-long capacity start ws from (i - from)

    pub sweep-words : {s : ℕ} → s ≡ slot_of capacity start i → start < capacity → 3 * capacity ≤ length ws → 3 * s + 3 ≤ length words
    sweep-words e h k = slot-words-kept capacity start i e h sweep-same k

    pub sweep-count : {to : ℕ} → i < to → to ≤ capacity → capacity ≤ 8192 → n ≤ 8192
    sweep-count h k l =
        let e : n ≡ (sweep capacity start ws from (i - from)).count = ap (λ (x : Dropped). x.count) a in
        omega (arith, sweep-most capacity start ws from (i - from))

    pub sweep-again : {s : ℕ} {y : Dropped} → from ≤ i → s ≡ slot_of capacity start i → y ≡ give_up s (drop_ended n words) → y ≡ sweep capacity start ws from (i + 1 - from)
    unfolding sweep
    sweep-again h b c =
        let e : i + 1 - from ≡ suc (i - from) = omega arith in
        let f : from + (i - from) ≡ i = omega arith in
        c ∙ rw (e, f, a, b)

    pub sweep-done : (to : ℕ) → i ≤ to → to ≤ i → drop_ended n words ≡ sweep capacity start ws from (to - from)
    sweep-done to h k = let e : i ≡ to = omega arith in a ∙ ap (λ (x : ℕ). sweep capacity start ws from (x - from)) e

-- drop_packets
pub end-most : (w : Window) (number : ℕ) {t : ℕ} → t ≡ end_in w number → w.held ≤ w.capacity → t ≤ w.capacity
unfolding end_in
end-most w number e h = omega arith

module _ (w : Window) (ws : List ℕ) (first last : ℕ) {f t l : ℕ} (a : f ≡ end_in w first) (b : l ≡ sum 31 last 1) (c : t ≡ end_in w l) where
  pub drop-none : t ≤ f → drop_ended 0 ws ≡ drop_of w ws first last
  unfolding drop_of sweep
  drop-none h = let e : t - f ≡ 0 = omega arith in rw (← b, ← c, ← a, e)

  pub drop-some : {y : Dropped} → y ≡ sweep w.capacity w.start ws f (t - f) → y ≡ drop_of w ws first last
  unfolding drop_of
  drop-some e = e ∙ rw (c, b, a)

pub ruleset drops = (
  end-inside,
  given,
  stays,
  sweep-start,
  sweep-same,
  sweep-words,
  sweep-count,
  sweep-again,
  sweep-done,
  end-most,
  drop-none,
  drop-some,
  walk-slot,
  walk-on,
  rules,
)
