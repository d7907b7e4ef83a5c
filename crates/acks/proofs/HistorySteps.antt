-- What the code of history.rt does at each return and each turn, as laws over plain values; the proof files hand them to `search`. Assumes nothing.
use mathlib.Core.Path.{◌≡◌, refl, sym, ◌∙◌}
use mathlib.Core.Bool.{Bool, true, false, ◌&&◌, ◌||◌, and-true}
use mathlib.Core.List.{List}
use Prim.Native.Nat.{ℕ, zero, suc, ◌+◌, ◌-◌, ◌*◌, ◌%◌, ◌^◌, ◌<◌, ◌≤◌}
use native.Mathlib.Omega.{arith}
use borrow.Author.Rules.{rules}
use borrow.Author.Tests.{eq-eqb, ne_eqb, eqb-true, eqb-false, lt-ltb, le-ltb, le-leb, lt-leb}
use lib.Dec.{eqb, ltb, leb}
use lib.IntN.{ℤ, pos, nat_abs, ◌+ℤ◌}
use lib.ListN.{length, get_or, set, length-set}
use lib.Signed.{lt_z}
use Rattle.std.specs.Prelude.{Option, Some, None, Ok, Err}
use Rattle.std.specs.Int.{int_min}
use mir.Syntax.{w64}
use mir.Val.{Fits, SFits, to_z}
use mir.Facts.{to_z_pos}
use Rattle.numbers.specs.Circular.{before, sum}
use Rattle.numbers.specs.Instants.{read_by, since_time}
use Rattle.numbers.proofs.Flags.{and-false, by-test, by-order}
use Rattle.numbers.proofs.Halves.{above, apart, above-+, below-+, range, in-range, lt-true}
use Rattle.acks.specs.History.{ack_slot, number_at, departure_at, write_ack, fresh_history, is_recent, none_due, is_worn, is_expired, first_kept, leaving, next_ack, first_after, AckOutcome, ack_ended, append_of, full_ack_of, with_last, ack2_of, light_ack_of, cleared_of, history_ok}
use Rattle.acks.specs.declared.history.History.{History}
use Rattle.acks.specs.declared.history.Answered.{Answered}

-- departure_at: a word's low 60 bits as an instant
pub departure-reads : (x : ℕ) → to_z w64 (x % 2 ^ 60) ≡ pos (x % 2 ^ 60)
departure-reads x = to_z_pos w64 (omega arith)

pub reads-departure : (a : List ℕ) (p : ℕ) (now : ℤ) {d : ℤ} → d ≡ int_min (to_z w64 (get_or a (2 * p + 1) 0 % 2 ^ 60)) now → d ≡ departure_at a p now
unfolding departure_at
reads-departure a p now e = e ∙ rw (departure-reads (get_or a (2 * p + 1) 0))

pub ruleset departures = (departure-reads, reads-departure, rules)

-- write_ack
pub writes : (a : List ℕ) (p n : ℕ) (now : ℤ) {d : ℕ} {z : ℤ} → d ≡ nat_abs z → z ≡ now → set (set a (2 * p) n) (2 * p + 1) d ≡ write_ack a p n now
unfolding write_ack
writes a p n now e q = rw (e, q)

pub second-in : (a : List ℕ) (p i v : ℕ) → 2 * p + 2 ≤ length a → 2 * p + 1 < length (set a i v)
second-in a p i v h = simp length-set (omega arith)

-- is_recent
pub recent-test : (a : List ℕ) (p : ℕ) (now : ℤ) (mean lrsn : ℕ) {n s : ℕ} {z z₁ d d₁ : ℤ} {b : Bool}
    → n ≡ number_at a p → d ≡ departure_at a p z → z ≡ now → s ≡ since_time z₁ d₁ → z₁ ≡ now → d₁ ≡ d → b ≡ before 31 lrsn n
    → (b || (eqb lrsn n && ltb s (2 * mean))) ≡ is_recent a p now mean lrsn
unfolding is_recent
recent-test a p now mean lrsn e f q g q₁ r h = rw (h, g, q₁, r, f, q, e)

-- is_expired: a departure is under 2^60, so that the sum fits
departure-under : (x : ℕ) (now : ℤ) → above (read_by now (pos (x % 2 ^ 60))) < 2 ^ 60
departure-under x now =
    by-test (λ (z : ℤ). above z < 2 ^ 60) (lt_z now (pos (x % 2 ^ 60))) now (pos (x % 2 ^ 60))
    (λ t. omega (arith, apart now, lt-true now (pos (x % 2 ^ 60)) t))
    (λ t. omega arith)

pub wait-reads : (wait : ℕ) → wait < 2 ^ 34 → to_z w64 wait ≡ pos wait
wait-reads wait h = to_z_pos w64 (omega arith)

module _ (a : List ℕ) (p wait : ℕ) (z : ℤ) {d d₁ w₁ : ℤ} (f : d ≡ departure_at a p z) (r : d₁ ≡ d) (k : w₁ ≡ pos wait) where
  pub expired-fits : SFits w64 d → wait < 2 ^ 34 → SFits w64 (d₁ +ℤ w₁)
  unfolding departure_at
  expired-fits m h =
      let l : above d < 2 ^ 60 = rw f (departure-under (get_or a (2 * p + 1) 0) z) in
      let o = range (2 ^ 63) d m.sfits in
      rw (r, k)
      (record { sfits = in-range (2 ^ 63) (d +ℤ pos wait) (omega (arith, above-+ d (pos wait), o.0)) (omega (arith, below-+ d (pos wait), o.1)) })

  pub expired-test : (now : ℤ) {s z₁ : ℤ} → z ≡ now → s ≡ d₁ +ℤ w₁ → z₁ ≡ now → lt_z s z₁ ≡ is_expired a p now wait
  unfolding is_expired
  expired-test now q e q₁ = rw (e, r, k, f, q, q₁)

pub ruleset expiries = (wait-reads, expired-fits, expired-test, rules)

-- the loop of first_kept, over n entries: a turn, its way out in the middle, its end; the loop has the time as the machine reads it back, m
module _ (a : List ℕ) (start n count : ℕ) (now m : ℤ) (wait i : ℕ) (e : first_kept a start m wait 0 n ≡ first_kept a start m wait i (n - i)) where
  module _ {b : Bool} {z : ℤ} (h : i < n) (f : b ≡ is_expired a (ack_slot start i) z wait) (y : z ≡ m) where
    left : n - i ≡ suc (n - (i + 1))
    left = omega arith

    pub kept_again : b ≡ true → first_kept a start m wait 0 n ≡ first_kept a start m wait (i + 1) (n - (i + 1))
    unfolding first_kept
    kept_again g = let at_m = rw y at f in e ∙ rw left (rw (← at_m, g))

    pub kept-found : m ≡ now → n ≡ count - 1 → b ≡ false → i ≡ first_kept a start now wait 0 (count - 1)
    unfolding first_kept
    kept-found q j g = let at_m = rw y at f in sym (e ∙ rw left (rw (← at_m, g))) ∙ rw (q, j)

  pub kept-done : m ≡ now → n ≡ count - 1 → n ≤ i → i ≤ n → n ≡ first_kept a start now wait 0 (count - 1)
  unfolding first_kept
  kept-done q j h k = let z : n - i ≡ 0 = omega arith in let l : n ≡ i = omega arith in l ∙ sym (e ∙ rw z) ∙ rw (q, j)

pub kept-start : (a : List ℕ) (start n : ℕ) (now : ℤ) (wait : ℕ) → first_kept a start now wait 0 n ≡ first_kept a start now wait 0 (n - 0)
kept-start a start n now wait = let e : n - 0 ≡ n = omega arith in rw e

-- leaving
pub kept-le : (a : List ℕ) (start : ℕ) (now : ℤ) (wait n i : ℕ) → first_kept a start now wait i n ≤ i + n
unfolding first_kept
kept-le a start now wait zero i = omega arith
kept-le a start now wait (suc n) i =
    by-test (λ (x : ℕ). x ≤ i + suc n) (is_expired a (ack_slot start i) now wait) _ _
    (λ t. let r = kept-le a start now wait n (i + 1) in omega arith)
    (λ t. omega arith)

pub gone-le : (a : List ℕ) (start count : ℕ) (now : ℤ) (wait : ℕ) {g : ℕ} → g ≡ first_kept a start now wait 0 (count - 1) → g ≤ count
gone-le a start count now wait e = let l = kept-le a start now wait (count - 1) 0 in omega arith

module _ (a : List ℕ) (start count : ℕ) (now : ℤ) (wait : ℕ) where
  module _ {g : ℕ} {z : ℤ} (e : g ≡ first_kept a start z wait 0 (count - 1)) where
    pub leaves-more : z ≡ now → count - g ≡ 1024 → g + 1 ≡ leaving a start count now wait
    unfolding leaving
    leaves-more q h = rw (← q, ← e, eq-eqb _ _ h)

    pub leaves : z ≡ now → (count - g ≡ 1024 → ⊥) → g ≡ leaving a start count now wait
    unfolding leaving
    leaves q h = rw (← q, ← e, ne_eqb _ _ h)

  -- the newest entry stays
  pub leaving-le : count ≤ 1024 → leaving a start count now wait ≤ count - 1
  unfolding leaving
  leaving-le h =
      let g = first_kept a start now wait 0 (count - 1) in
      let l : g ≤ 0 + (count - 1) = kept-le a start now wait (count - 1) 0 in
      by-test (λ (x : ℕ). x ≤ count - 1) (eqb (count - g) 1024) _ _ (λ t. omega (arith, eqb-true (count - g) 1024 t)) (λ t. omega arith)

  -- and there is room for one more
  pub leaving-room : count ≤ 1024 → count - leaving a start count now wait + 1 ≤ 1024
  unfolding leaving
  leaving-room h =
      let g = first_kept a start now wait 0 (count - 1) in
      by-test (λ (x : ℕ). count - x + 1 ≤ 1024) (eqb (count - g) 1024) _ _ (λ t. omega (arith, eqb-true (count - g) 1024 t)) (λ t. omega (arith, eqb-false (count - g) 1024 t))

  module _ {n : ℕ} (e : n ≡ leaving a start count now wait) (h : count ≤ 1024) where
    pub leaving-held : n ≤ count
    leaving-held = omega (arith, leaving-le h)

    pub leaving-first : (first : ℕ) → first + count < 2 ^ 32 → first + n < 2 ^ 32
    leaving-first first k = omega (arith, leaving-le h)

    pub leaving-start : start < 1024 → Fits w64 (start + n)
    leaving-start k = record { fits = omega (arith, leaving-le h) }

-- new, none_due, is_worn, next_number, first_after
pub fresh : (n : ℕ) → ◌≡◌ {A = History} (record { start = 0; count = 0; first = 1; largest = n; lastack = n }) (fresh_history n)
unfolding fresh_history
fresh n = refl

module _ (h : History) where
  module _ (a : List ℕ) (now : ℤ) (mean lrsn : ℕ) where
    pub none-same : h.largest ≡ lrsn → true ≡ none_due h a now mean lrsn
    unfolding none_due
    none-same e = rw (eq-eqb _ _ e)

    pub due-empty : (h.largest ≡ lrsn → ⊥) → h.count ≡ 0 → false ≡ none_due h a now mean lrsn
    unfolding none_due
    due-empty e f = rw (ne_eqb _ _ e, eq-eqb _ _ f)

    pub due-recent : {b : Bool} {z : ℤ} → (h.largest ≡ lrsn → ⊥) → (h.count ≡ 0 → ⊥)
        → b ≡ is_recent a (ack_slot h.start (h.count - 1)) z mean lrsn → z ≡ now → b ≡ none_due h a now mean lrsn
    unfolding none_due
    due-recent e f g q = rw (ne_eqb _ _ e, ne_eqb _ _ f) (g ∙ rw q)

  pub worn-test : (ltb 0 h.count && eqb (h.first + h.count - 1) 4294967295) ≡ is_worn h
  unfolding is_worn
  worn-test = refl

  pub number-one : h.count ≡ 0 → 1 ≡ next_ack h
  unfolding next_ack
  number-one e = rw (eq-eqb _ _ e)

  pub number-next : (h.count ≡ 0 → ⊥) → 1 ≤ h.first → h.first + h.count ≡ next_ack h
  unfolding next_ack
  number-next e f = rw (ne_eqb _ _ e) (omega arith)

  pub first_one : (n : ℕ) → h.count ≡ 0 → 1 ≡ first_after h n
  unfolding first_after
  first_one n e = rw (eq-eqb _ _ e)

  pub first-moved : (n : ℕ) → (h.count ≡ 0 → ⊥) → h.first + n ≡ first_after h n
  unfolding first_after
  first-moved n e = rw (ne_eqb _ _ e)

-- append, next_full_ack
module _ (h : History) (a : List ℕ) (now : ℤ) (lrsn : ℕ) where
  pub appended : (wait : ℕ) {n number first : ℕ} {z z₁ : ℤ} {a₁ : List ℕ}
      → number ≡ next_ack h → n ≡ leaving a h.start h.count z wait → z ≡ now → first ≡ first_after h n
      → a₁ ≡ write_ack a (ack_slot (ack_slot h.start n) (h.count - n)) lrsn z₁ → z₁ ≡ now
      → ack_ended (Ok (Some (record { history = record { start = ack_slot h.start n; count = h.count - n + 1; first = first; largest = h.largest; lastack = lrsn }; number = number }))) a₁ ≡ append_of h a now wait lrsn
  unfolding append_of
  appended wait e f q g i r = rw (i, r, g, f, q, e)

  module _ (mean latency : ℕ) {b : Bool} {z : ℤ} (e : b ≡ none_due h a z mean lrsn) (q : z ≡ now) where
    pub ack-none : b ≡ true → ack_ended (Ok None) a ≡ full_ack_of h a now mean latency lrsn
    unfolding full_ack_of
    ack-none t = rw (← q, ← e, t)

    module _ {w : Bool} (t : b ≡ false) (f : w ≡ is_worn h) where
      pub ack-worn : w ≡ true → ack_ended (Err (record {})) a ≡ full_ack_of h a now mean latency lrsn
      unfolding full_ack_of
      ack-worn u = rw (← q, ← e, t, ← f, u)

      pub ack-append : {r : AckOutcome} {z₁ : ℤ} → w ≡ false → r ≡ append_of h a z₁ (latency + 2 * mean) lrsn → z₁ ≡ now → r ≡ full_ack_of h a now mean latency lrsn
      unfolding full_ack_of
      ack-append u g q₁ = rw (← q, ← e, t, ← f, u) (g ∙ rw (q₁, ← q))

-- what is not worn has a next number
pub not-worn : (h : History) {w : Bool} → w ≡ is_worn h → w ≡ false → h.first + h.count ≤ 2 ^ 32 → h.first < 2 ^ 32 → h.first + h.count < 2 ^ 32
unfolding is_worn
not-worn h e t f g =
    by-order 0 h.count
    (λ k.
    let u : eqb (h.first + h.count - 1) 4294967295 ≡ false = sym (rw (lt-ltb _ _ k)) ∙ sym e ∙ t in
    let v : h.first + h.count - 1 ≡ 4294967295 → ⊥ = eqb-false _ _ u in
    omega (arith, v))
    (λ k. omega arith)

-- calculate_ack2
module _ (h : History) (a : List ℕ) (now : ℤ) (number : ℕ) where
  pub held_below : number < h.first → None ≡ ack2_of h a now number
  unfolding ack2_of
  held_below e = rw (lt-leb _ _ e)

  pub held-above : h.first ≤ number → h.count ≤ number - h.first → None ≡ ack2_of h a now number
  unfolding ack2_of
  held-above e f = let g : h.first + h.count ≤ number = omega arith in rw (le-leb _ _ e, le-ltb _ _ g)

  pub held : {r l : ℕ} {z z₁ d d₁ : ℤ}
      → h.first ≤ number → number - h.first < h.count
      → d ≡ departure_at a (ack_slot h.start (number - h.first)) z → z ≡ now → r ≡ since_time z₁ d₁ → z₁ ≡ now → d₁ ≡ d → l ≡ number_at a (ack_slot h.start (number - h.first))
      → ◌≡◌ {A = Option Answered} (Some (record { history = record { start = h.start; count = h.count; first = h.first; largest = l; lastack = h.lastack }; r = r })) (ack2_of h a now number)
  unfolding ack2_of
  held e f i q j q₁ m k = let g : number < h.first + h.count = omega arith in rw (le-leb _ _ e, lt-ltb _ _ g, j, q₁, m, i, q, k)

-- next_light_ack, clear, in_range
module _ (h : History) (lrsn : ℕ) where
  pub no-light : {s : ℕ} {b : Bool} → s ≡ sum 31 h.lastack 64 → b ≡ before 31 lrsn s → b ≡ true → None ≡ light_ack_of h lrsn
  unfolding light_ack_of
  no-light e f t = rw (← e, ← f, t)

  pub lights : {s : ℕ} {b : Bool} → s ≡ sum 31 h.lastack 64 → b ≡ before 31 lrsn s → b ≡ false → Some (with_last h lrsn) ≡ light_ack_of h lrsn
  unfolding light_ack_of
  lights e f t = rw (← e, ← f, t)

  pub cleared : ◌≡◌ {A = History} (record { start = h.start; count = 0; first = h.first; largest = lrsn; lastack = h.lastack }) (cleared_of h lrsn)
  unfolding cleared_of
  cleared = refl

newest-test : (n : ℕ) → leb n (2 ^ 32) ≡ leb (n - 1) 4294967295
newest-test n =
    by-order (2 ^ 32) n
    (λ k. rw (lt-leb n (2 ^ 32) k, lt-leb (n - 1) 4294967295 (omega arith)))
    (λ k. rw (le-leb n (2 ^ 32) k, le-leb (n - 1) 4294967295 (omega arith)))

module _ (h : History) where
  pub count-out : 1024 < h.count → false ≡ history_ok h
  unfolding history_ok
  count-out k = rw (lt-leb _ _ k, and-false (ltb h.start 1024) {y = false} refl)

  pub range-test : h.count ≤ 1024 → h.first < 2 ^ 32 → (ltb h.start 1024 && leb 1 h.first && leb (h.first + h.count) (2 ^ 32) && ltb h.largest (2 ^ 31) && ltb h.lastack (2 ^ 31)) ≡ history_ok h
  unfolding history_ok
  range-test k f =
      rw (le-leb _ _ k, le-leb h.first 4294967295 (omega arith), and-true (ltb h.start 1024), and-true (ltb h.start 1024 && leb 1 h.first), newest-test (h.first + h.count))

pub ruleset histories = (
  writes,
  second-in,
  recent-test,
  kept_again,
  kept-found,
  kept-done,
  kept-start,
  gone-le,
  leaves-more,
  leaves,
  leaving-held,
  leaving-first,
  leaving-start,
  fresh,
  none-same,
  due-empty,
  due-recent,
  worn-test,
  number-one,
  number-next,
  first_one,
  first-moved,
  ack-none,
  ack-worn,
  ack-append,
  held_below,
  held-above,
  held,
  no-light,
  lights,
  cleared,
  not-worn,
  count-out,
  range-test,
  rules,
)
