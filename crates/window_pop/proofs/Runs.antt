-- Laws for what an entry holds and for the count of a message: pop.rt, as far as `message_in_front`. Assumes nothing.
use mathlib.Core.Path.{◌≡◌, refl, ap, sym, ◌∙◌}
use mathlib.Core.Bool.{Bool, true, false, cond}
use mathlib.Core.List.{List}
use Prim.Native.Nat.{ℕ, ◌+◌, ◌-◌, ◌*◌, ◌<◌, ◌≤◌}
use native.Mathlib.Omega.{arith}
use borrow.Author.Rules.{rules}
use mir.Syntax.{w64}
use mir.Val.{Fits}
use Rattle.std.specs.Prelude.{Option, Some, None}
use Rattle.slots.specs.Words.{entry_at, length_in, is_first, is_last, in_message, message_in}
use Rattle.slots.specs.Ring.{slot_of}
use Rattle.slots.specs.declared.entry.Entry.{Entry}
use Rattle.slots.proofs.Laws.{length-read, slot-words}
use Rattle.window.specs.Window.{entry_in}
use Rattle.window.specs.Ready.{Ring}
use Rattle.window_pop.specs.Pop.{run_from, message_of}
use Rattle.window.specs.declared.Window.{Window}
use Rattle.window_pop.specs.declared.pop.Message.{Message}
use Rattle.window.proofs.Walks.{walk_start, one_less, walk-slot, walk-on}

-- by cases on an option
pub by-option : {A : Type 0} (P : Option A → Type 0) (o : Option A) → ((x : A) → o ≡ Some x → P (Some x)) → (o ≡ None → P None) → P o
by-option P (Some x) f g = f x refl
by-option P None f g = g refl

-- count_run: a turn, its ways out, its start and its end
pub run-start : (capacity start : ℕ) (ws : List ℕ) (message held : ℕ)
    → run_from capacity start ws message 0 0 held ≡ run_from capacity start ws message 0 0 (held - 0)
run-start capacity start ws message held = let e : held - 0 ≡ held = omega arith in rw e

module _ (capacity start : ℕ) (ws : List ℕ) (message i total held : ℕ) where
  run_none : held ≤ i → run_from capacity start ws message i total (held - i) ≡ None
  unfolding run_from
  run_none h = let e : held - i ≡ 0 = omega arith in rw e

  module _ (h : i < held) where
    abbrev here : Entry
    here = entry_at ws (slot_of capacity start i)

    run-here : run_from capacity start ws message i total (held - i)
        ≡ cond (in_message message here)
        (cond (is_last here) (Some (record { packets = i + 1; bytes = total + length_in here })) (run_from capacity start ws message (i + 1) (total + length_in here) (held - (i + 1))))
        None
    unfolding run_from
    run-here = rw (one_less h)

  module _ {r : Option Message} (a : r ≡ run_from capacity start ws message i total (held - i)) where
    pub run_end : held ≤ i → None ≡ r
    run_end h = sym (a ∙ run_none h)

    module _ {s : ℕ} {e : Entry} {t : Bool} (h : i < held) (b : s ≡ slot_of capacity start i) (c : e ≡ entry_at ws s) (d : t ≡ in_message message e) where
      pub run-other : t ≡ false → None ≡ r
      run-other f = rw (a, run-here h, ← b, ← c, ← d, f)

      module _ {n : ℕ} {u : Bool} (f : t ≡ true) (g : n ≡ length_in e) (k : u ≡ is_last e) where
        pub run-last : u ≡ true → ◌≡◌ {A = Option Message} (Some (record { packets = i + 1; bytes = total + n })) r
        run-last l = rw (a, run-here h, ← b, ← c, ← d, f, ← k, l, ← g)

        pub run-again : u ≡ false → r ≡ run_from capacity start ws message (i + 1) (total + n) (held - (i + 1))
        run-again l = rw (a, run-here h, ← b, ← c, ← d, f, ← k, l, ← g)

  pub run-bytes : (s : ℕ) {n : ℕ} {e : Entry} → n ≡ length_in e → e ≡ entry_at ws s → total ≤ 1456 * i → total + n ≤ 1456 * (i + 1)
  run-bytes s g c h = omega (arith, g ∙ ap length_in c, length-read ws s)

  pub run_fits : (s : ℕ) {n : ℕ} {e : Entry} → n ≡ length_in e → e ≡ entry_at ws s → total ≤ 1456 * i → Ring capacity start held ws → i < held → Fits w64 (total + n)
  run_fits s g c h k l = record { fits = omega (arith, run-bytes s g c h) }

-- message_in_front: the front lies in the start slot
pub front-entry : (w : Window) (ws : List ℕ) {e : Entry} → e ≡ entry_at ws w.start → w.start < w.capacity → e ≡ entry_in w ws 0
front-entry w ws c h = c ∙ ap (entry_at ws) (walk_start w.capacity w.start h)

module _ (w : Window) (ws : List ℕ) {e : Entry} {t : Bool} (c : e ≡ entry_at ws w.start) (h : w.start < w.capacity) (d : t ≡ is_first e) where
  pub front-run : {m : ℕ} {r : Option Message} → t ≡ true → m ≡ message_in e → r ≡ run_from w.capacity w.start ws m 0 0 w.held → r ≡ message_of w ws
  unfolding message_of
  front-run f g k = rw (← front-entry w ws c h, ← d, f, ← g) k

  pub front-none : t ≡ false → None ≡ message_of w ws
  unfolding message_of
  front-none f = rw (← front-entry w ws c h, ← d, f)

pub ruleset runs = (
  slot-words,
  walk-slot,
  walk-on,
  walk_start,
  run-start,
  run_end,
  run-other,
  run-last,
  run-again,
  run-bytes,
  run_fits,
  front-run,
  front-none,
  rules,
)
