-- What the code of report.rt does at each return, as laws over plain values; the proof files hand them to `search`. A signed number stands twice, as it
-- is (`time`) and as the machine reads it back (`z`). Assumes nothing.
use mathlib.Core.Path.{◌≡◌, refl, ap, sym, ◌∙◌, subst}
use mathlib.Core.Bool.{Bool, true, false, cond}
use mathlib.Core.List.{List}
use Prim.Native.Nat.{ℕ, ◌+◌, ◌-◌, ◌*◌, ◌^◌, ◌<◌, ◌≤◌, min}
use native.Mathlib.Nat.{mul-le-mul_right}
use native.Mathlib.Omega.{arith}
use borrow.Author.Rules.{rules}
use borrow.Author.Tests.{eq-eqb, ne_eqb, lt-ltb, le-ltb}
use lib.IntN.{ℤ, pos, nat_abs, ◌+ℤ◌, ◌*ℤ◌}
use lib.ListN.{length, set, length-set}
use lib.Signed.{lt_z}
use mir.Syntax.{w32, w64}
use mir.Val.{Fits, SFits, to_z, of_z}
use mir.Facts.{to_z_pos, to_z-of_z}
use Rattle.std.specs.Prelude.{Option, Some, None, Ok, Err}
use Rattle.numbers.proofs.Circle.{sum_below}
use Rattle.slots.specs.Words.{entry_at, write_report}
use Rattle.slots.specs.Ready.{Fit}
use Rattle.slots.specs.Ring.{slot_of}
use Rattle.slots.specs.declared.entry.Entry.{Entry}
use Rattle.slots.specs.declared.entry.Entry.TheVariants.{Lost, Received, GivenUp}
use Rattle.slots.proofs.Laws.{entry-fit, slot-words, slot-words-kept}
use Rattle.window.specs.Window.{number_in}
use Rattle.window.specs.Ready.{Good}
use Rattle.window_report.specs.Report.{is_due, k_after, run_words, closed, runs_after, slots_to, runs_to, run_at, run_put, list_to, needed, list_all, ReportOutcome, report_ended, report_of}
use Rattle.window_report.specs.Inner.{Within, Reporting, reporting, report_one, reported_to, due_from, any_due}
use Rattle.window.specs.declared.Window.{Window}
use Rattle.window_report.specs.declared.report.Runs.{Runs}
use Rattle.window.proofs.Walks.{walk_start, walk-slot, walk-most, held-most, walk-on}
use Rattle.window_report.proofs.ReportLaws.{words-most, run-some, began, runs-within, runs-more, words-rise, needed-held, slots_same, list_same, length-slots, length-list, report-more, due-end, due-here, due-on, any-needs}

-- is_due: its numbers as signed ones
pub mean-fits : (mean : ℕ) → mean < 2 ^ 31 → SFits w64 (pos mean)
mean-fits mean h = record { sfits = omega arith }

pub due-mean : (mean : ℕ) → mean < 2 ^ 31 → to_z w64 mean ≡ pos mean
due-mean mean h = to_z_pos w64 (mean-fits mean h).sfits

-- feedback and k round trips are under 2^60 + 2^47
module _ {e : Entry} {k f : ℕ} (p : e ≡ Lost k f) where
  due-wait : {mean : ℕ} → Fit e → mean < 2 ^ 31 → f + k * mean < 2 ^ 61
  due-wait {mean} h m =
      let g : Fit (Lost k f) = subst Fit p h in
      let l : k * mean ≤ 65536 * mean = mul-le-mul_right mean (omega arith) in
      omega arith

  pub feedback-fits : Fit e → SFits w64 (pos f)
  feedback-fits h = let g : Fit (Lost k f) = subst Fit p h in record { sfits = omega arith }

  pub k-fits : Fit e → SFits w64 (pos k)
  k-fits h = let g : Fit (Lost k f) = subst Fit p h in record { sfits = omega arith }

  pub due-feedback : Fit e → to_z w64 f ≡ pos f
  due-feedback h = to_z_pos w64 (feedback-fits h).sfits

  pub due-k : Fit e → to_z w64 k ≡ pos k
  due-k h = to_z_pos w64 (k-fits h).sfits

  module _ {mean : ℕ} (h : Fit e) (m : mean < 2 ^ 31) where
    pub due-product : SFits w64 (to_z w64 k *ℤ to_z w64 mean)
    due-product = let l = due-wait h m in rw (due-k h, due-mean mean m) (record { sfits = omega arith })

    pub due-sum : SFits w64 (to_z w64 f +ℤ to_z w64 (of_z w64 (to_z w64 k *ℤ to_z w64 mean)))
    due-sum = let l = due-wait h m in rw (to_z-of_z due-product, due-feedback h, due-k h, due-mean mean m) (record { sfits = omega arith })

    pub due-lost : (time : ℤ) {z : ℤ} → z ≡ time → lt_z (to_z w64 (of_z w64 (to_z w64 f +ℤ to_z w64 (of_z w64 (to_z w64 k *ℤ to_z w64 mean))))) z ≡ is_due time mean e
    unfolding is_due
    due-lost time q = rw (to_z-of_z due-sum, to_z-of_z due-product, due-feedback h, due-k h, due-mean mean m, q, p)

  -- k_after
  pub k-more-fits : Fit e → Fits w32 (k + 1)
  k-more-fits h = let g : Fit (Lost k f) = subst Fit p h in record { fits = omega arith }

  pub k-more : {n : ℕ} → n ≡ min (k + 1) 65535 → n ≡ k_after e
  k-more h = h ∙ rw p

-- an entry that is not lost
module _ {e : Entry} (p : (k f : ℕ) → e ≡ Lost k f → ⊥) where
  pub due-others : (time : ℤ) (mean : ℕ) → false ≡ is_due time mean e
  unfolding is_due
  due-others time mean = go e p
    where
      go : (e : Entry) → ((k f : ℕ) → e ≡ Lost k f → ⊥) → false ≡ is_due time mean e
      go (Lost k f) q = absurd (q k f refl)
      go (Received n l m t) q = refl
      go GivenUp q = refl

  pub k-others : 0 ≡ k_after e
  k-others = go e p
    where
      go : (e : Entry) → ((k f : ℕ) → e ≡ Lost k f → ⊥) → 0 ≡ k_after e
      go (Lost k f) q = absurd (q k f refl)
      go (Received n l m t) q = refl
      go GivenUp q = refl

-- run_words, runs_closed, runs_after
module _ (r : Runs) (i : ℕ) where
  pub run-none : r.first ≡ None → 0 ≡ run_words r i
  run-none t = rw t

  module _ {f : ℕ} (t : r.first ≡ Some f) where
    pub run-one : f + 1 ≡ i → 1 ≡ run_words r i
    run-one h = rw (t, eq-eqb _ _ h)

    pub run-two : (f + 1 ≡ i → ⊥) → 2 ≡ run_words r i
    run-two h = rw (t, ne_eqb _ _ h)

    pub run-fits : Within r i → i ≤ 8192 → Fits w64 (f + 1)
    run-fits h k = let l = began h t in omega arith

    pub run-near : Within r i → i ≤ 8192 → f ≤ 8192
    run-near h k = let l = began h t in omega arith

    pub run-past : Within r i → 1 ≤ i
    run-past h = let l = began h t in omega arith

    pub run-goes : {d : Bool} → d ≡ true → r ≡ runs_after r i d
    run-goes e = rw (e, t)

  pub run-closed : {n : ℕ} → n ≡ run_words r i → ◌≡◌ {A = Runs} (record { words = r.words + n; first = None }) (closed r i)
  run-closed e = rw e

  pub run-ended : {d : Bool} {q : Runs} → d ≡ false → q ≡ closed r i → q ≡ runs_after r i d
  run-ended e f = rw e f

  pub run-begins : {d : Bool} → d ≡ true → r.first ≡ None → ◌≡◌ {A = Runs} (record { words = r.words; first = Some i }) (runs_after r i d)
  run-begins e f = rw (e, f)

pub run-sum : (r : Runs) (i : ℕ) {n : ℕ} → n ≡ run_words r i → r.words ≤ 2 * i → i ≤ 8192 → Fits w64 (r.words + n)
run-sum r i e h k = let l = words-most r i in omega arith

-- an entry that is read can be tested
pub due-fit : (ws : List ℕ) (s : ℕ) {e : Entry} → e ≡ entry_at ws s → Fit e
due-fit ws s p = subst Fit (sym p) (entry-fit ws s)

-- count_runs: the bounds, the start, a turn and the end
module _ (w : Window) (ws : List ℕ) (time : ℤ) (mean : ℕ) where
  pub runs-start : ◌≡◌ {A = Runs} (record { words = 0; first = None }) (runs_to w ws time mean 0)
  unfolding runs_to
  runs-start = refl

  module _ (i : ℕ) {r : Runs} (a : r ≡ runs_to w ws time mean i) where
    pub runs-kept : Within r i
    runs-kept = subst (λ (x : Runs). Within x i) (sym a) (runs-within w ws time mean i)

    pub runs-again : {s : ℕ} {e : Entry} {d : Bool} {z : ℤ} {q : Runs}
        → s ≡ slot_of w.capacity w.start i → e ≡ entry_at ws s → d ≡ is_due z mean e → z ≡ time → q ≡ runs_after r i d
        → q ≡ runs_to w ws time mean (i + 1)
    runs-again b c d y e = rw (runs-more w ws time mean i, ← a, ← b, ← c, ← y, ← d) e

    -- the loop has the time as the machine reads it back, and here it is `time`
    pub runs_done : (t : ℤ) → time ≡ t → i ≤ w.held → w.held ≤ i → r ≡ runs_to w ws t mean w.held
    runs_done t q h k = let e : i ≡ w.held = omega arith in a ∙ rw (q, e)

-- run_put
module _ (r : Runs) (i : ℕ) (w : Window) (list : List ℕ) where
  pub put-none : ((f : ℕ) → r.first ≡ Some f → ⊥) → list ≡ run_put w list r i
  unfolding run_put
  put-none t = go r.first t
    where
      go : (o : Option ℕ) → ((f : ℕ) → o ≡ Some f → ⊥) → list ≡ run_at w list r.words o i
      go (Some f) q = absurd (q f refl)
      go None q = refl

  module _ {f m : ℕ} (t : r.first ≡ Some f) (e : m ≡ number_in w f) where
    pub put_one : f + 1 ≡ i → set list r.words m ≡ run_put w list r i
    unfolding run_put
    put_one h = rw (t, eq-eqb _ _ h, e)

    pub put-run : {l : ℕ} → (f + 1 ≡ i → ⊥) → l ≡ number_in w (i - 1) → set (set list r.words (2 ^ 31 + m)) (r.words + 1) l ≡ run_put w list r i
    unfolding run_put
    put-run h g = rw (t, ne_eqb _ _ h, e, g)

module _ (r : Runs) (i : ℕ) (list : List ℕ) {f : ℕ} (t : r.first ≡ Some f) (h : r.words + run_words r i ≤ length list) where
  pub put_first : r.words < length list
  put_first = omega (arith, run-some r i t)

  pub put_second : (j v : ℕ) → (f + 1 ≡ i → ⊥) → r.words + 1 < length (set list j v)
  put_second j v o = rw length-set (omega (arith, run-two r i t o))

pub put-fits : (w : Window) (i : ℕ) {n : ℕ} → n ≡ number_in w i → Fits w32 (2 ^ 31 + n)
put-fits w i e = omega (arith, sum_below 31 w.seqno0 i)

-- run_end: where no run is going
pub end_list : (r : Runs) (i : ℕ) (w : Window) (list : List ℕ) → r.first ≡ None → list ≡ run_put w list r i
unfolding run_put
end_list r i w list t = rw t

pub end-runs : (r : Runs) (i : ℕ) → r.first ≡ None → r ≡ closed r i
end-runs r i t = let z : r.words + 0 ≡ r.words = omega arith in rw (t, z)

-- report_one
module _ (w : Window) (time : ℤ) (mean s i : ℕ) (ws list : List ℕ) (r : Runs) {e : Entry} {d : Bool} {z : ℤ} {q : Runs}
    (a : e ≡ entry_at ws s) (b : d ≡ is_due z mean e) (y : z ≡ time) where
  pub one-due : {k f : ℕ} {z₁ : ℤ} {ws₁ : List ℕ} → d ≡ true → k ≡ k_after e → f ≡ nat_abs z₁ → z₁ ≡ time → ws₁ ≡ write_report ws s k f → q ≡ runs_after r i true
      → reporting ws₁ list q ≡ report_one w time mean s i (reporting ws list r)
  unfolding report_one
  one-due t f h x g c = rw (g, f, h, x, c, ← y, ← a, ← b, t)

  pub one-not : {list₁ : List ℕ} → d ≡ false → list₁ ≡ run_put w list r i → q ≡ closed r i
      → reporting ws list₁ q ≡ report_one w time mean s i (reporting ws list r)
  unfolding report_one
  one-not t g c = rw (g, c, ← y, ← a, ← b, t)

-- report_entries: the start, what a turn needs, a turn and the end
module _ (w : Window) (ws : List ℕ) (time : ℤ) (mean : ℕ) (list : List ℕ) where
  pub report-start : reporting ws list (record { words = 0; first = None }) ≡ reported_to w ws time mean list 0
  unfolding slots_to list_to runs_to
  report-start = refl

  module _ (i : ℕ) {words l : List ℕ} {r : Runs} (a : reporting words l r ≡ reported_to w ws time mean list i) where
    report-runs : r ≡ runs_to w ws time mean i
    report-runs = ap (λ (x : Reporting). x.runs) a

    pub report-slots-long : length words ≡ length ws
    report-slots-long = ap (λ (x : Reporting). length x.slots) a ∙ length-slots w ws time mean i

    pub report-list-long : length l ≡ length list
    report-list-long = ap (λ (x : Reporting). length x.list) a ∙ length-list w ws time mean list i

    pub report-words : {s : ℕ} → s ≡ slot_of w.capacity w.start i → w.start < w.capacity → 3 * w.capacity ≤ length ws → 3 * s + 3 ≤ length words
    report-words e h k = slot-words-kept w.capacity w.start i e h report-slots-long k

    pub report-within : Within r i
    report-within = runs-kept w ws time mean i report-runs

    pub report-room : i < w.held → needed w ws time mean ≤ length list → r.words + run_words r i ≤ length l
    report-room h n =
        rw report-runs (omega (arith, words-rise w ws time mean i w.held (omega arith), report-list-long))

    pub report-last : i ≡ w.held → needed w ws time mean ≤ length list → r.words + run_words r i ≤ length l
    report-last e n = rw report-runs (omega (arith, words-rise w ws time mean i w.held (omega arith), report-list-long))

    pub report-again : {s : ℕ} {z : ℤ} {y : Reporting} → i < w.held → w.held ≤ w.capacity → w.start < w.capacity → s ≡ slot_of w.capacity w.start i
        → y ≡ report_one w z mean s i (reporting words l r) → z ≡ time → y ≡ reported_to w ws time mean list (i + 1)
    report-again h k hs b c q = c ∙ rw (q, a, b) (report-more w ws time mean list i hs (omega arith))

    pub report-done : (t : ℤ) → time ≡ t → i ≤ w.held → w.held ≤ i → reporting words l r ≡ reported_to w ws t mean list w.held
    report-done t q h k = let e : i ≡ w.held = omega arith in a ∙ rw (q, e)

-- due_between: a turn, its way out in the middle and its end; the loop has the time as the machine reads it back, m
module _ (ws : List ℕ) (m : ℤ) (mean s to : ℕ) {r : Bool} (a : r ≡ due_from ws m mean s (to - s)) where
  module _ {e : Entry} {d : Bool} {z : ℤ} (h : s < to) (c : e ≡ entry_at ws s) (f : d ≡ is_due z mean e) (q : z ≡ m) where
    pub due-again : d ≡ false → r ≡ due_from ws m mean (s + 1) (to - (s + 1))
    due-again g = a ∙ due-on ws m mean s to h (rw (← c, ← q, ← f) g)

    found : d ≡ true → true ≡ r
    found g = sym (a ∙ due-here ws m mean s to h (rw (← c, ← q, ← f) g))

  ended : to ≤ s → false ≡ r
  ended h = sym (a ∙ due-end ws m mean s to h)

module _ (ws : List ℕ) (time m : ℤ) (mean from s to : ℕ)
    (a : due_from ws m mean from (to - from) ≡ due_from ws m mean s (to - s)) (q : m ≡ time) where
  pub due-found : {e : Entry} {d : Bool} {z : ℤ} → s < to → e ≡ entry_at ws s → d ≡ is_due z mean e → z ≡ m → d ≡ true → true ≡ due_from ws time mean from (to - from)
  due-found h c f y g = found ws m mean s to a h c f y g ∙ rw q

  pub due-done : to ≤ s → false ≡ due_from ws time mean from (to - from)
  due-done h = ended ws m mean s to a h ∙ rw q

cond-id : (d : Bool) → cond d true false ≡ d
cond-id true = refl
cond-id false = refl

-- words_needed, report_counted
module _ (w : Window) (ws : List ℕ) (time : ℤ) (mean : ℕ) where
  pub needs-words : {r q : Runs} {z : ℤ} → r ≡ runs_to w ws z mean w.held → z ≡ time → q ≡ closed r w.held → q.words ≡ needed w ws time mean
  needs-words e x f = rw (f, e, x)

  -- what is said of the time as it is read back
  pub needs-on : {n : ℕ} {z : ℤ} → z ≡ time → needed w ws time mean ≤ n → needed w ws z mean ≤ n
  needs-on q h = rw q h

  pub reports-on : {o : ReportOutcome} {z : ℤ} (list : List ℕ) → o ≡ report_of w ws z mean list → z ≡ time → o ≡ report_of w ws time mean list
  reports-on list e q = e ∙ rw q

  pub report-fits : (list : List ℕ) {n : ℕ} → n ≡ needed w ws time mean → n ≤ length list → needed w ws time mean ≤ length list
  report-fits list a h = rw (← a) h

  module _ (list : List ℕ) {n : ℕ} {z : ℤ} (a : n ≡ needed w ws z mean) (q : z ≡ time) where
    pub report-none : n ≡ 0 → report_ended (Ok None) ws list ≡ report_of w ws time mean list
    unfolding report_of
    report-none o = rw (← q, eq-eqb _ _ (sym a ∙ o))

    module _ (o : n ≡ 0 → ⊥) where
      pub report-short : length list < n → report_ended (Err (record {})) ws list ≡ report_of w ws time mean list
      unfolding report_of
      report-short h = rw (← q, ← a, ne_eqb _ _ o, lt-ltb _ _ h)

      report-long : {ws₁ list₁ : List ℕ} → n ≤ length list → ws₁ ≡ slots_to w ws z mean w.held → list₁ ≡ list_all w ws z mean list
          → report_ended (Ok (Some n)) ws₁ list₁ ≡ report_of w ws time mean list
      unfolding report_of
      report-long h b c = rw (← q, ← a, ne_eqb _ _ o, le-ltb _ _ h, b, c)

  -- any_due: one stretch, or the first of two, or both
  pub any-one : {r : Bool} {z : ℤ} → w.start + w.held ≤ w.capacity → r ≡ due_from ws z mean w.start (w.start + w.held - w.start) → z ≡ time → r ≡ any_due w ws time mean
  unfolding due_from
  any-one h e q =
      let a : min w.held (w.capacity - w.start) ≡ w.start + w.held - w.start = omega arith in
      let b : w.held - (w.capacity - w.start) ≡ 0 = omega arith in
      rw (a, b, ← q, ← e) (sym (cond-id _))

  module _ {d : Bool} {z : ℤ} (h : w.capacity < w.start + w.held) (g : w.start < w.capacity) (e : d ≡ due_from ws z mean w.start (w.capacity - w.start)) (q : z ≡ time) where
    any-front : due_from ws time mean w.start (min w.held (w.capacity - w.start)) ≡ d
    any-front = let a : min w.held (w.capacity - w.start) ≡ w.capacity - w.start = omega arith in rw (a, ← q) (sym e)

    pub any-first : d ≡ true → true ≡ any_due w ws time mean
    any-first f = rw (any-front, f)

    pub any-second : {r : Bool} {z₁ : ℤ} → d ≡ false → r ≡ due_from ws z₁ mean 0 (w.start + w.held - w.capacity - 0) → z₁ ≡ time → r ≡ any_due w ws time mean
    any-second f k q₁ =
        let b : w.held - (w.capacity - w.start) ≡ w.start + w.held - w.capacity - 0 = omega arith in
        rw (any-front, f, b) (k ∙ rw q₁)

  -- loss_report
  pub lost-none : (list : List ℕ) {d : Bool} {z : ℤ} → Good w ws → d ≡ any_due w ws z mean → z ≡ time → d ≡ false → report_ended (Ok None) ws list ≡ report_of w ws time mean list
  lost-none list g e q f = report-none list (sym (any-needs w ws time mean g (rw q at (sym e ∙ f)))) refl refl

  pub held_fits : (list : List ℕ) → w.held ≤ length list → needed w ws time mean ≤ length list
  held_fits list h = omega (arith, needed-held w ws time mean)

-- report_in: the list has room for the run at the end
pub last-room : (w : Window) (ws : List ℕ) (time : ℤ) (mean : ℕ) (list : List ℕ) {ws₁ l : List ℕ} {z : ℤ} {r : Runs}
    → reporting ws₁ l r ≡ reported_to w ws z mean list w.held → z ≡ time → needed w ws time mean ≤ length list → r.words + run_words r w.held ≤ length l
last-room w ws time mean list {z = z} a q n = report-last w ws z mean list w.held a refl (rw q n)

-- the run at the end is written, and the words are those of the runs that came out
module _ (w : Window) (ws : List ℕ) (time : ℤ) (mean : ℕ) (list : List ℕ) {ws₁ l list₁ : List ℕ} {z : ℤ} {r q : Runs}
    (a : reporting ws₁ l r ≡ reported_to w ws z mean list w.held) (y : z ≡ time) (b : list₁ ≡ run_put w l r w.held) (c : q ≡ closed r w.held) where
  all_slots : ws₁ ≡ slots_to w ws z mean w.held
  all_slots = ap (λ (x : Reporting). x.slots) a

  all_list : list₁ ≡ list_all w ws z mean list
  all_list = b ∙ ap (λ (x : Reporting). run_put w x.list x.runs w.held) a

  all_words : q.words ≡ needed w ws z mean
  all_words = needs-words w ws z mean (ap (λ (x : Reporting). x.runs) a) refl c

  pub all_none : q.words ≡ 0 → report_ended (Ok None) ws₁ list₁ ≡ report_of w ws time mean list
  all_none o =
      let e : needed w ws z mean ≡ 0 = sym all_words ∙ o in
      rw (all_slots ∙ slots_same w ws z mean e, all_list ∙ list_same w ws z mean e list) (report-none w ws time mean list all_words y o)

  pub all-some : (q.words ≡ 0 → ⊥) → needed w ws time mean ≤ length list
      → report_ended (Ok (Some q.words)) ws₁ list₁ ≡ report_of w ws time mean list
  all-some o h = report-long w ws time mean list all_words y o (rw (all_words, y) h) all_slots all_list

pub ruleset reports = (
  feedback-fits,
  k-fits,
  mean-fits,
  due-feedback,
  due-k,
  due-mean,
  due-product,
  due-sum,
  due-lost,
  due-others,
  k-others,
  k-more-fits,
  k-more,
  run-none,
  run-one,
  run-two,
  run-closed,
  run-ended,
  run-fits,
  run-near,
  run-past,
  run-goes,
  run-begins,
  run-sum,
  due-fit,
  runs-start,
  runs-kept,
  runs-again,
  runs_done,
  put-none,
  put_one,
  put-run,
  put_first,
  put_second,
  put-fits,
  end_list,
  end-runs,
  one-due,
  one-not,
  report-start,
  report-slots-long,
  report-list-long,
  report-words,
  report-within,
  report-room,
  report-last,
  report-again,
  report-done,
  all_none,
  all-some,
  needs-words,
  needs-on,
  reports-on,
  report-none,
  report-short,
  report-fits,
  due-again,
  due-found,
  due-done,
  any-one,
  any-first,
  any-second,
  lost-none,
  held_fits,
  walk_start,
  slot-words,
  walk-slot,
  walk-most,
  held-most,
  walk-on,
  rules,
)
