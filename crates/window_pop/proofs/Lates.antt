-- Laws for the times of entries and for the late walk: pop.rt, from `due` to `walk_late`. A signed number stands twice, as it is (`z`) and as the machine
-- reads it back (`z₁`). Assumes nothing.
use mathlib.Core.Path.{◌≡◌, refl, ap, sym, ◌∙◌}
use mathlib.Core.Bool.{Bool, true, false, not, ◌&&◌, ◌||◌, cond}
use mathlib.Core.List.{List}
use Prim.Native.Nat.{ℕ, zero, suc, ◌+◌, ◌-◌, ◌^◌, ◌<◌, ◌≤◌}
use native.Mathlib.Omega.{arith}
use borrow.Author.Rules.{rules}
use lib.IntN.{ℤ, pos, nat_abs, ◌+ℤ◌, ◌-ℤ◌}
use mir.Syntax.{w64}
use mir.Val.{SFits, to_z, of_z}
use mir.Facts.{to_z_pos, to_z-of_z}
use lib.Signed.{le_z}
use Rattle.std.specs.Prelude.{Option, Some, None, ⊤}
use Rattle.numbers.proofs.Flags.{impossible, by-test}
use Rattle.numbers.proofs.Halves.{size-+, size--, fits-size}
use Rattle.clock.specs.Base.{instant_of}
use Rattle.clock.specs.declared.base.TimeBase.{TimeBase}
use Rattle.clock.proofs.Ranges.{reference-near}
use Rattle.clock.proofs.Kept.{instant-near}
use Rattle.slots.specs.Words.{is_received, entry_at, stamp_in, is_first}
use Rattle.slots.specs.Ring.{slot_of}
use Rattle.slots.specs.declared.entry.Entry.{Entry}
use Rattle.window_pop.specs.Pop.{is_late, walked_to, walk_from, due_of, limit_of}
use Rattle.window_pop.specs.Inner.{is_kept, walk_past}
use Rattle.window_pop.specs.declared.pop.Walk.{Walk}
use Rattle.window.proofs.Walks.{walk-slot, walk-on, walk_start}
use Rattle.slots.proofs.Laws.{slot-words}

-- a latency as a signed number
pub latency-reads : (latency : ℕ) → latency ≤ 65535000 → to_z w64 latency ≡ pos latency
latency-reads latency h = to_z_pos w64 (omega arith)

-- due
instant-size : (base : TimeBase) (stamp : ℕ) → nat_abs base.time ≤ 2 ^ 61 → nat_abs (instant_of base stamp) ≤ 2 ^ 61 + 2 ^ 31
instant-size base stamp h = instant-near base stamp (reference-near base.time h)

module _ (base : TimeBase) (stamp latency : ℕ) {i i₁ l : ℤ} (a : i ≡ instant_of base stamp) (p : i₁ ≡ i) (q : l ≡ pos latency) where
  pub due-fits : nat_abs base.time ≤ 2 ^ 61 → latency ≤ 65535000 → SFits w64 (i₁ +ℤ l)
  due-fits h k =
      rw (p, a, q)
      (fits-size w64 (instant_of base stamp +ℤ pos latency)
      (omega (arith, size-+ (instant_of base stamp) (pos latency), instant-size base stamp h)))

  pub due-is : {r : ℤ} → r ≡ i₁ +ℤ l → r ≡ due_of base latency stamp
  unfolding due_of
  due-is e = e ∙ rw (p, a, q)

-- late_limit
module _ (latency : ℕ) {z z₁ l : ℤ} (p : z₁ ≡ z) (q : l ≡ pos latency) (h : nat_abs z < 2 ^ 60) (k : latency ≤ 65535000) where
  limit-size : nat_abs (z₁ -ℤ l) < 2 ^ 61
  limit-size = rw (p, q) (omega (arith, size-- z (pos latency)))

  pub limit-fits : SFits w64 (z₁ -ℤ l)
  limit-fits = fits-size w64 (z₁ -ℤ l) (omega (arith, limit-size))

  pub limit-fits-on : (n : ℤ) {y : ℤ} → y ≡ z₁ -ℤ l → nat_abs n ≤ 65535000 → SFits w64 (y -ℤ n)
  limit-fits-on n e j = rw e (fits-size w64 (z₁ -ℤ l -ℤ n) (omega (arith, size-- (z₁ -ℤ l) n, limit-size)))

pub limit_is : (z : ℤ) (latency : ℕ) → nat_abs z < 2 ^ 60 → latency ≤ 65535000
    → to_z w64 (of_z w64 (to_z w64 (of_z w64 (to_z w64 (of_z w64 z) -ℤ to_z w64 latency)) -ℤ pos 5000)) ≡ limit_of z latency
unfolding limit_of
limit_is z latency h k =
    rw (to_z-of_z (fits-size w64 z (omega arith)), latency-reads latency k)
    (rw (to_z-of_z (limit-fits latency {z = z} refl refl h k)) (rw (to_z-of_z (limit-fits-on latency {z = z} refl refl h k (pos 5000) refl (omega arith)))))

-- is_late
or-false : (x : Bool) → (x || false) ≡ x
or-false true = refl
or-false false = refl

or-true : (x : Bool) → (x || true) ≡ true
or-true true = refl
or-true false = refl

module _ (base : TimeBase) (limit : ℤ) (e : Entry) {t : Bool} (a : t ≡ is_first e) where
  pub late-time : {stamp : ℕ} {i i₁ l : ℤ} → t ≡ true → stamp ≡ stamp_in e → i ≡ instant_of base stamp → i₁ ≡ i → l ≡ limit → le_z i₁ l ≡ is_late base limit e
  unfolding is_late
  late-time f b c p q = rw (← a, f, ← b, ← c, ← p, ← q) (sym (or-false _))

  pub late-unmarked : t ≡ false → true ≡ is_late base limit e
  unfolding is_late
  late-unmarked f = rw (← a, f) (sym (or-true (le_z (instant_of base (stamp_in e)) limit)))

-- is_kept, walk_past: an entry that is not received
module _ (e : Entry) {t : Bool} (a : t ≡ is_received e) (f : t ≡ false) where
  pub gap-not-kept : (base : TimeBase) (limit : ℤ) → false ≡ is_kept base limit e
  unfolding is_kept
  gap-not-kept base limit = rw (← a, f)

  pub past-gap : (k : Option Walk) (i : ℕ) → k ≡ walk_past k i e
  unfolding walk_past
  past-gap k i = rw (← a, f)

-- is_kept
pub kept : (base : TimeBase) (limit : ℤ) (e : Entry) {t u : Bool} {l : ℤ} → t ≡ is_received e → t ≡ true → u ≡ is_late base l e → l ≡ limit → not u ≡ is_kept base limit e
unfolding is_kept
kept base limit e a f b p = rw (← a, f, ← p, ← b)

-- walk_past
module _ (k : Option Walk) (i : ℕ) (e : Entry) {t : Bool} (a : t ≡ is_received e) (f : t ≡ true) where
  pub past_first : {stamp : ℕ} → k ≡ None → stamp ≡ stamp_in e → ◌≡◌ {A = Option Walk} (Some (record { count = i + 1; first_stamp = stamp })) (walk_past k i e)
  unfolding walk_past
  past_first h b = rw (← a, f, h, ← b)

  pub past-later : {walk : Walk} → k ≡ Some walk → ◌≡◌ {A = Option Walk} (Some (record { count = i + 1; first_stamp = walk.first_stamp })) (walk_past k i e)
  unfolding walk_past
  past-later h = rw (← a, f, h)

-- walk_late: an entry that is kept, one that is not, by the tests of both
stops : (f : Option Walk → Option Walk) (x y : Bool) (k k₁ : Option Walk) → (x && not y) ≡ true → cond x (cond y (f k₁) k) (f k) ≡ k
stops f true true k k₁ e = impossible (sym e)
stops f true false k k₁ e = refl
stops f false y k k₁ e = impossible (sym e)

goes : (f : Option Walk → Option Walk) (x y : Bool) (k k₁ : Option Walk) → (x && not y) ≡ false → cond x (cond y (f k₁) k) (f k) ≡ f (cond x k₁ k)
goes f true true k k₁ e = refl
goes f true false k k₁ e = impossible e
goes f false y k k₁ e = refl

pub late-start : (base : TimeBase) (limit : ℤ) (capacity start : ℕ) (ws : List ℕ) (held : ℕ)
    → walk_from base limit capacity start ws 0 None held ≡ walk_from base limit capacity start ws 0 None (held - 0)
late-start base limit capacity start ws held = let e : held - 0 ≡ held = omega arith in rw e

module _ (base : TimeBase) (limit : ℤ) (capacity start : ℕ) (ws : List ℕ) (i held : ℕ) (k : Option Walk) where
  late-none : held ≤ i → walk_from base limit capacity start ws i k (held - i) ≡ k
  unfolding walk_from
  late-none h = let e : held - i ≡ 0 = omega arith in rw e

  abbrev here : Entry
  here = entry_at ws (slot_of capacity start i)

  abbrev rest : Option Walk → Option Walk
  rest k₁ = walk_from base limit capacity start ws (i + 1) k₁ (held - (i + 1))

  late-here : i < held
      → walk_from base limit capacity start ws i k (held - i) ≡ cond (is_received here) (cond (is_late base limit here) (rest (Some (walked_to k i here))) k) (rest k)
  unfolding walk_from
  late-here h = let e : held - i ≡ suc (held - (i + 1)) = omega arith in rw e

  module _ {r : Option Walk} (a : r ≡ walk_from base limit capacity start ws i k (held - i)) where
    ended : held ≤ i → k ≡ r
    ended h = sym (a ∙ late-none h)

    module _ {s : ℕ} {e : Entry} {t : Bool} {l : ℤ} (h : i < held) (b : s ≡ slot_of capacity start i) (c : e ≡ entry_at ws s) (d : t ≡ is_kept base l e) (p : l ≡ limit) where
      tested : (is_received here && not (is_late base limit here)) ≡ t
      unfolding is_kept
      tested = rw (← b, ← c, ← p) (sym d)

      found : t ≡ true → k ≡ r
      found f = sym (a ∙ late-here h ∙ stops rest (is_received here) (is_late base limit here) k (Some (walked_to k i here)) (tested ∙ f))

      pub late-again : {k₁ : Option Walk} → t ≡ false → k₁ ≡ walk_past k i e → r ≡ walk_from base limit capacity start ws (i + 1) k₁ (held - (i + 1))
      unfolding walk_past
      late-again f g =
          a ∙ late-here h ∙ goes rest (is_received here) (is_late base limit here) k (Some (walked_to k i here)) (tested ∙ f) ∙ rw (← b, ← c) (ap rest (sym g))

-- the loop has the limit as the machine reads it back, m
module _ (base : TimeBase) (limit m : ℤ) (capacity start : ℕ) (ws : List ℕ) (i held : ℕ) (k : Option Walk)
    (a : walk_from base m capacity start ws 0 None held ≡ walk_from base m capacity start ws i k (held - i)) (q : m ≡ limit) where
  read_back : {k₁ : Option Walk} → k₁ ≡ walk_from base m capacity start ws 0 None held → k₁ ≡ walk_from base limit capacity start ws 0 None held
  read_back e = e ∙ ap (λ (z : ℤ). walk_from base z capacity start ws 0 None held) q

  pub late-end : held ≤ i → k ≡ walk_from base limit capacity start ws 0 None held
  late-end h = read_back (ended base m capacity start ws i held k a h)

  pub late-found : {s : ℕ} {e : Entry} {t : Bool} {l : ℤ} → i < held → s ≡ slot_of capacity start i → e ≡ entry_at ws s → t ≡ is_kept base l e → l ≡ m → t ≡ true
      → k ≡ walk_from base limit capacity start ws 0 None held
  late-found h b c d p f = read_back (found base m capacity start ws i held k a h b c d p f)

-- it discards one entry at least, and no more than there are
abbrev pub Walked : ℕ → Option Walk → Type 0
Walked top (Some k) = (0 < k.count) × (k.count ≤ top)
Walked top None = ⊤

pub walk-held : (base : TimeBase) (limit : ℤ) (capacity start : ℕ) (ws : List ℕ) (top n i : ℕ) (k : Option Walk)
    → i + n ≤ top → Walked top k → Walked top (walk_from base limit capacity start ws i k n)
unfolding walk_from
walk-held base limit capacity start ws top zero i k h g = g
walk-held base limit capacity start ws top (suc n) i k h g =
    let e = entry_at ws (slot_of capacity start i) in
    by-test (Walked top) (is_received e) _ _
    (λ t.
    by-test (Walked top) (is_late base limit e) _ _
    (λ u. walk-held base limit capacity start ws top n (i + 1) (Some (walked_to k i e)) (omega arith) (walked k i e (omega arith)))
    (λ u. g))
    (λ t. walk-held base limit capacity start ws top n (i + 1) k (omega arith) g)
  where
    walked : (k : Option Walk) (i : ℕ) (e : Entry) → i < top → Walked top (Some (walked_to k i e))
    walked (Some k) i e l = (omega arith, omega arith)
    walked None i e l = (omega arith, omega arith)

pub ruleset lates = (
  latency-reads,
  due-fits,
  due-is,
  limit-fits,
  limit-fits-on,
  limit_is,
  late-time,
  late-unmarked,
  gap-not-kept,
  past-gap,
  kept,
  past_first,
  past-later,
  late-start,
  late-end,
  late-found,
  late-again,
  slot-words,
  walk-slot,
  walk-on,
  walk_start,
  rules,
)
