-- What the code of show.rt does at each return, as laws over plain values. Assumes nothing.
use mathlib.Core.Path.{◌≡◌, refl, sym, ◌∙◌, subst}
use mathlib.Core.Bool.{false, ◌&&◌}
use mathlib.Core.List.{List}
use Prim.Native.Nat.{ℕ, ◌+◌, ◌*◌, ◌<◌, ◌≤◌}
use native.Mathlib.Omega.{arith}
use borrow.Author.Rules.{rules}
use borrow.Author.Tests.{lt-ltb, le-ltb}
use denote.Ref.{Bor}
use lib.Dec.{ltb}
use mir.Syntax.{w64}
use mir.Val.{Fits}
use Rattle.std.specs.Prelude.{Option, Some, None, ⊤}
use Rattle.numbers.specs.Circular.{distance}
use Rattle.numbers.proofs.Flags.{by-test}
use Rattle.slots.specs.Words.{is_received, entry_at}
use Rattle.slots.specs.Ring.{slot_of}
use Rattle.slots.specs.declared.entry.Entry.{Entry}
use Rattle.slots.specs.declared.entry.Entry.TheVariants.{Lost, Received, GivenUp}
use Rattle.slots.proofs.Laws.{slot_lt, length-read, slot-words}
use Rattle.window.specs.Window.{slot_in, entry_in}
use Rattle.window.specs.Ready.{Good}
use Rattle.window.specs.Show.{PartOf, ShownAt, shown_of}
use Rattle.window.specs.declared.Window.{Window}
use Rattle.window.specs.declared.show.Part.{Part}

not-received : (e : Entry) → ((n l m t : ℕ) → e ≡ Received n l m t → ⊥) → is_received e ≡ false
not-received (Lost k f) d = refl
not-received (Received n l m t) d = absurd (d n l m t refl)
not-received GivenUp d = refl

module _ (w : Window) (ws : List ℕ) (number : ℕ) {i : ℕ} (a : i ≡ distance 31 number w.seqno0) where
  pub not-held : w.held ≤ i → None ≡ shown_of w ws number
  unfolding shown_of
  not-held h = rw (← a, le-ltb _ _ h)

  module _ {s : ℕ} {e : Entry} (h : i < w.held) (b : s ≡ slot_in w i) (c : e ≡ entry_at ws s) where
    pub shows : {n l m t : ℕ} → e ≡ Received n l m t → ◌≡◌ {A = Option Part} (Some (record { at = 1456 * s; len = n })) (shown_of w ws number)
    unfolding shown_of
    shows d = rw (← a, lt-ltb _ _ h, ← b, ← c, d)

    pub shows-none : ((n l m t : ℕ) → e ≡ Received n l m t → ⊥) → None ≡ shown_of w ws number
    unfolding shown_of
    shows-none d = rw (← a, lt-ltb _ _ h, ← b, ← c, not-received e d)

pub place-fits : (capacity start i : ℕ) {s : ℕ} → s ≡ slot_of capacity start i → start < capacity → capacity ≤ 8192 → Fits w64 (1456 * s)
place-fits capacity start i e h k = record { fits = omega (arith, slot_lt capacity start i (omega arith)) }

pub index-fits : (w : Window) {i : ℕ} → i < w.held → w.held ≤ w.capacity → i ≤ w.capacity
index-fits w h k = omega arith

-- what is shown lies within the area
abbrev Inside : ℕ → Option Part → Type 0
Inside n (Some p) = p.at + p.len ≤ n
Inside n None = ⊤

inside : (w : Window) (ws : List ℕ) (number : ℕ) {n : ℕ} → Good w ws → 1456 * w.capacity ≤ n → Inside n (shown_of w ws number)
unfolding shown_of
inside w ws number {n} g h =
    let i = distance 31 number w.seqno0 in
    by-test (Inside n) (ltb i w.held && is_received (entry_in w ws i)) _ _
    (λ t. let l = slot_lt w.capacity w.start i g.ranges.some in let m = length-read ws (slot_in w i) in omega arith)
    (λ t. tt)

pub shown-within : (w : Window) (ws : List ℕ) (number : ℕ) {n : ℕ} {o : Option Part} {p : Part} → o ≡ shown_of w ws number → o ≡ Some p → Good w ws → 1456 * w.capacity ≤ n → p.at + p.len ≤ n
shown-within w ws number {n} {o} {p} e f g h = subst (Inside n) (sym e ∙ f) (inside w ws number g h)

-- show: the part that `part_at` gives is the one that was found
module _ (w : Window) (ws : List ℕ) (number : ℕ) {s r : Bor (List ℕ)} {o : Option Part} (e : o ≡ shown_of w ws number) where
  pub shown-part : {p : Part} → o ≡ Some p → PartOf s p.at p.len r → ShownAt (shown_of w ws number) s r
  shown-part f q = subst (λ (x : Option Part). ShownAt x s r) (sym f ∙ e) q

  pub shown-none : o ≡ None → PartOf s 0 0 r → ShownAt (shown_of w ws number) s r
  shown-none f q = subst (λ (x : Option Part). ShownAt x s r) (sym f ∙ e) q

pub ruleset showing = (slot-words, not-held, shows, shows-none, place-fits, index-fits, shown-within, shown-part, shown-none, rules)
