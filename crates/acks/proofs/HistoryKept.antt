-- The history's ranges are kept, and so are the area's length and the words that no rule names. Assumes nothing.
use mathlib.Core.Path.{◌≡◌, refl, sym, ◌∙◌, subst}
use mathlib.Core.Bool.{Bool, true, false, ◌&&◌}
use mathlib.Core.List.{List}
use Prim.Native.Nat.{ℕ, ◌+◌, ◌-◌, ◌*◌, ◌^◌, ◌<◌, ◌≤◌}
use native.Mathlib.Nat.{mod-lt, mod-eq_of_lt}
use native.Mathlib.Omega.{arith}
use borrow.Author.Tests.{ltb-true, leb-true, eqb-true, eqb-false, lt-ltb, le-leb}
use lib.Dec.{eqb, ltb, leb}
use lib.IntN.{ℤ, pos, nat_abs}
use lib.ListN.{length, get_or, set, length-set}
use Rattle.std.specs.Prelude.{Option, Some, None, Result, Ok, Err, unwrap_or}
use lib.Seq.{get_or-set_same, get_or-set_other}
use Rattle.numbers.specs.Circular.{before, sum}
use Rattle.numbers.specs.Instants.{read_by}
use Rattle.numbers.proofs.Flags.{and_left, and_right, by_bool, by-test}
use Rattle.acks.specs.History.{ack_slot, number_at, departure_at, write_ack, fresh_history, none_due, newest_of, is_worn, leaving, next_ack, first_after, AckOutcome, grown, append_of, full_ack_of, with_largest, with_last, is_held, ack2_of, light_ack_of, cleared_of, history_ok}
use Rattle.acks.specs.Ready.{HistoryReady}
use Rattle.acks.specs.declared.history.History.{History}
use Rattle.acks.specs.declared.history.Acked.{Acked}
use Rattle.acks.specs.declared.history.FasnWorn.{FasnWorn}
use Rattle.acks.specs.declared.history.Answered.{Answered}
use Rattle.acks.proofs.HistorySteps.{leaving-le, leaving-room}
use Rattle.numbers.proofs.Signs.{since-under}

-- the tests of a history, taken apart and put together
pub record Ranges (h : History) : Type 0 where
  pub starts : h.start < 1024
  pub holds : h.count ≤ 1024
  pub first : 1 ≤ h.first
  pub fits : h.first ≤ 4294967295
  pub newest : newest_of h ≤ 4294967295
  pub largest : h.largest < 2 ^ 31
  pub lastack : h.lastack < 2 ^ 31

pub history-ranges : (h : History) → history_ok h ≡ true → Ranges h
unfolding history_ok
history-ranges h e =
    let s = ltb h.start 1024 in
    let c = leb h.count 1024 in
    let f = leb 1 h.first in
    let m = leb h.first 4294967295 in
    let n = leb (newest_of h) 4294967295 in
    let l = ltb h.largest (2 ^ 31) in
    let e₅ = and_left (s && c && f && m && n && l) (ltb h.lastack (2 ^ 31)) e in
    let e₄ = and_left (s && c && f && m && n) l e₅ in
    let e₃ = and_left (s && c && f && m) n e₄ in
    let e₂ = and_left (s && c && f) m e₃ in
    let e₁ = and_left (s && c) f e₂ in
    record {
      starts = ltb-true h.start 1024 (and_left s c e₁);
      holds = leb-true h.count 1024 (and_right s c e₁);
      first = leb-true 1 h.first (and_right (s && c) f e₂);
      fits = leb-true h.first 4294967295 (and_right (s && c && f) m e₃);
      newest = leb-true (newest_of h) 4294967295 (and_right (s && c && f && m) n e₄);
      largest = ltb-true h.largest (2 ^ 31) (and_right (s && c && f && m && n) l e₅);
      lastack = ltb-true h.lastack (2 ^ 31) (and_right (s && c && f && m && n && l) (ltb h.lastack (2 ^ 31)) e);
    }

pub history-ok : (h : History) → Ranges h → history_ok h ≡ true
unfolding history_ok
history-ok h r =
    rw (lt-ltb _ _ r.starts, le-leb _ _ r.holds, le-leb _ _ r.first, le-leb _ _ r.fits, le-leb _ _ r.newest, lt-ltb _ _ r.largest, lt-ltb _ _ r.lastack)

-- what a caller who tested the history and its area may call with
pub right : (h : History) (a : List ℕ) → history_ok h ≡ true → 2048 ≤ length a → HistoryReady h a
right h a e l =
    let r = history-ranges h e in
    record { starts = r.starts; holds = r.holds; first = r.first; newest = omega (arith, r.newest); words = l }

-- the same by a flag, as a program has it
pub right_by : {h : History} {a : List ℕ} {b : Bool} → b ≡ history_ok h → b ≡ true → 2048 ≤ length a → HistoryReady h a
right_by {h} {a} p e l = right h a (sym p ∙ e) l

pub fresh-history-ok : (n : ℕ) → n < 2 ^ 31 → history_ok (fresh_history n) ≡ true
unfolding fresh_history
fresh-history-ok n h =
    history-ok (fresh_history n)
    (record { starts = omega arith; holds = omega arith; first = omega arith; fits = omega arith; newest = omega arith; largest = h; lastack = h })

-- the number of an appended ACK is the newest from then on, and fits
module _ (h : History) (r : Ranges h) (n : ℕ) (l : n ≤ h.count - 1) where
  pub grown-newest : (lrsn : ℕ) → newest_of (grown h n lrsn) ≡ next_ack h
  unfolding first_after next_ack
  grown-newest lrsn =
      by_bool (eqb h.count 0)
      (λ t. let z = eqb-true h.count 0 t in rw t (omega arith))
      (λ t. let z = eqb-false h.count 0 t in rw t (omega (arith, z, r.first)))

  first-from : 1 ≤ first_after h n
  unfolding first_after
  first-from = by-test (λ (x : ℕ). 1 ≤ x) (eqb h.count 0) 1 (h.first + n) (λ t. omega arith) (λ t. omega (arith, r.first))

  first_fits : first_after h n ≤ 4294967295
  unfolding first_after
  first_fits =
      by-test (λ (x : ℕ). x ≤ 4294967295) (eqb h.count 0) 1 (h.first + n)
      (λ t. omega arith)
      (λ t. let z = eqb-false h.count 0 t in omega (arith, z, l, r.newest))

next_fits : (h : History) → Ranges h → is_worn h ≡ false → next_ack h ≤ 4294967295
unfolding is_worn next_ack
next_fits h r w =
    by_bool (eqb h.count 0)
    (λ t. rw t (omega arith))
    (λ t.
    let z = eqb-false h.count 0 t in
    let p : 0 < h.count = omega (arith, z) in
    let u : eqb (newest_of h) 4294967295 ≡ false = sym (rw (lt-ltb _ _ p)) ∙ w in
    let v = eqb-false (newest_of h) 4294967295 u in
    rw t (omega (arith, v, r.newest)))

-- what a call leaves is in range: the history of an ACK that is given, of an ACK that is held, with the r of it not negative
abbrev AckedOk : Result (Option Acked) FasnWorn → Type 0
AckedOk (Ok (Some k)) = history_ok k.history ≡ true
AckedOk (Ok None) = Unit
AckedOk (Err e) = Unit

abbrev AnsweredOk : Option Answered → Type 0
AnsweredOk (Some k) = history_ok k.history ≡ true
AnsweredOk None = Unit

abbrev Small : Option Answered → Type 0
Small (Some k) = k.r < 2 ^ 31
Small None = Unit

abbrev LightOk : Option History → Type 0
LightOk (Some k) = history_ok k ≡ true
LightOk None = Unit

-- each call keeps the ranges
module _ (h : History) (e : history_ok h ≡ true) where
  pub full-ack-kept : (a : List ℕ) (now : ℤ) (mean latency lrsn : ℕ) {k : Acked} → lrsn < 2 ^ 31 → (full_ack_of h a now mean latency lrsn).acked ≡ Ok (Some k) → history_ok k.history ≡ true
  unfolding full_ack_of append_of
  full-ack-kept a now mean latency lrsn l q =
      subst AckedOk q
      (by-test (λ (o : AckOutcome). AckedOk o.acked) (none_due h a now mean lrsn) _ _
      (λ t. tt)
      (λ t.
      by-test (λ (o : AckOutcome). AckedOk o.acked) (is_worn h) _ _
      (λ u. tt)
      (λ u.
      let r = history-ranges h e in
      let n = leaving a h.start h.count now (latency + 2 * mean) in
      let m : n ≤ h.count - 1 = leaving-le a h.start h.count now (latency + 2 * mean) r.holds in
      history-ok (grown h n lrsn)
      (record {
        starts = mod-lt (h.start + n) (omega arith);
        holds = leaving-room a h.start h.count now (latency + 2 * mean) r.holds;
        first = first-from h r n m;
        fits = first_fits h r n m;
        newest = rw (grown-newest h r n m lrsn) (next_fits h r u);
        largest = r.largest;
        lastack = l;
      }))))

  pub ack2-kept : (a : List ℕ) (now : ℤ) (number : ℕ) {k : Answered} → ack2_of h a now number ≡ Some k → history_ok k.history ≡ true
  unfolding ack2_of
  ack2-kept a now number q =
      let r = history-ranges h e in
      subst AnsweredOk q
      (by-test AnsweredOk (is_held h number) _ _
      (λ t.
      history-ok (with_largest h (number_at a (ack_slot h.start (number - h.first))))
      (record { starts = r.starts; holds = r.holds; first = r.first; fits = r.fits; newest = r.newest; largest = omega arith; lastack = r.lastack }))
      (λ t. tt))

  with-last-kept : (lrsn : ℕ) → lrsn < 2 ^ 31 → history_ok (with_last h lrsn) ≡ true
  with-last-kept lrsn l =
      let r = history-ranges h e in
      history-ok (with_last h lrsn) (record { starts = r.starts; holds = r.holds; first = r.first; fits = r.fits; newest = r.newest; largest = r.largest; lastack = l })

  pub light-ack-kept : (lrsn : ℕ) {k : History} → lrsn < 2 ^ 31 → light_ack_of h lrsn ≡ Some k → history_ok k ≡ true
  unfolding light_ack_of
  light-ack-kept lrsn l q = subst LightOk q (by-test LightOk (before 31 lrsn (sum 31 h.lastack 64)) _ _ (λ t. tt) (λ t. with-last-kept lrsn l))

  -- the same of the history afterwards, whether or not a light ACK is due
  pub after-light-kept : (lrsn : ℕ) → lrsn < 2 ^ 31 → history_ok (unwrap_or (light_ack_of h lrsn) h) ≡ true
  unfolding light_ack_of
  after-light-kept lrsn l =
      by-test (λ (o : Option History). history_ok (unwrap_or o h) ≡ true) (before 31 lrsn (sum 31 h.lastack 64)) _ _ (λ t. e) (λ t. with-last-kept lrsn l)

  pub cleared-kept : (lrsn : ℕ) → lrsn < 2 ^ 31 → history_ok (cleared_of h lrsn) ≡ true
  unfolding cleared_of
  cleared-kept lrsn k =
      let r = history-ranges h e in
      history-ok (cleared_of h lrsn)
      (record { starts = r.starts; holds = omega arith; first = r.first; fits = r.fits; newest = omega (arith, r.newest); largest = k; lastack = r.lastack })

-- the r of an ACK2 is an interval that is not negative
pub ack2-small : (h : History) (a : List ℕ) (now : ℤ) (number : ℕ) {k : Answered} → ack2_of h a now number ≡ Some k → k.r < 2 ^ 31
unfolding ack2_of
ack2-small h a now number e =
    subst Small e
    (by-test Small (is_held h number) _ _ (λ t. since-under now (departure_at a (ack_slot h.start (number - h.first)) now)) (λ t. tt))

-- an entry that is written is read back, and every other word stays
module _ (a : List ℕ) (p n : ℕ) (d : ℤ) where
  pub length-write : length (write_ack a p n d) ≡ length a
  unfolding write_ack
  length-write = simp length-set

  module _ (l : 2 * p + 1 < length a) where
    pub number-written : n < 2 ^ 31 → number_at (write_ack a p n d) p ≡ n
    unfolding write_ack
    number-written h = rw (get_or-set_other (set a (2 * p) n) (2 * p + 1) (2 * p) (nat_abs d) 0 (λ e. omega arith), get_or-set_same a (2 * p) n 0 (omega arith)) (mod-eq_of_lt h)

    pub departure-written : (now : ℤ) → nat_abs d < 2 ^ 60 → departure_at (write_ack a p n d) p now ≡ read_by now (pos (nat_abs d))
    unfolding write_ack departure_at
    departure-written now h =
        let k : 2 * p + 1 < length (set a (2 * p) n) = simp length-set l in
        rw (get_or-set_same (set a (2 * p) n) (2 * p + 1) (nat_abs d) 0 k, mod-eq_of_lt h)

  pub write-stays : (j : ℕ) → (j ≡ 2 * p → ⊥) → (j ≡ 2 * p + 1 → ⊥) → get_or (write_ack a p n d) j 0 ≡ get_or a j 0
  unfolding write_ack
  write-stays j e f = get_or-set_other (set a (2 * p) n) (2 * p + 1) j (nat_abs d) 0 f ∙ get_or-set_other a (2 * p) j n 0 e

-- a full ACK keeps the area's length, and the words past the 2,048
module _ (h : History) (a : List ℕ) (now : ℤ) (mean latency lrsn : ℕ) where
  full-ack-area : (P : List ℕ → Type 0) → P a → ((p : ℕ) → p < 1024 → P (write_ack a p lrsn now)) → P (full_ack_of h a now mean latency lrsn).area
  unfolding full_ack_of append_of
  full-ack-area P x f =
      by-test (λ (o : AckOutcome). P o.area) (none_due h a now mean lrsn) _ _
      (λ t. x)
      (λ t.
      by-test (λ (o : AckOutcome). P o.area) (is_worn h) _ _
      (λ u. x)
      (λ u. f _ (mod-lt _ (omega arith))))

  pub full-ack-length : length (full_ack_of h a now mean latency lrsn).area ≡ length a
  full-ack-length = full-ack-area (λ (b : List ℕ). length b ≡ length a) refl (λ p k. length-write a p lrsn now)

  pub full-ack-stays : (j : ℕ) → 2048 ≤ j → get_or (full_ack_of h a now mean latency lrsn).area j 0 ≡ get_or a j 0
  full-ack-stays j l =
      full-ack-area (λ (b : List ℕ). get_or b j 0 ≡ get_or a j 0) refl
      (λ p k. write-stays a p lrsn now j (λ e. omega arith) (λ e. omega arith))
