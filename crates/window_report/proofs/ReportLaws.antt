-- Laws of the loss report: 01, "Window". Assumes nothing.
use mathlib.Core.Path.{◌≡◌, refl, sym, ◌∙◌, subst}
use mathlib.Core.Bool.{Bool, true, false, cond}
use mathlib.Core.List.{List}
use Prim.Native.Nat.{ℕ, zero, suc, ◌+◌, ◌-◌, ◌*◌, ◌^◌, ◌<◌, ◌≤◌, min}
use native.Mathlib.Numerals.{add-one}
use native.Mathlib.Omega.{arith}
use borrow.Author.Tests.{eq-eqb, ne_eqb}
use lib.Dec.{ltb, eqb}
use lib.IntN.{ℤ, nat_abs}
use lib.ListN.{length, drop, length-set}
use lib.Seq.{drop-set-lt}
use Rattle.std.specs.Prelude.{Option, Some, None, Ok, Err}
use Rattle.numbers.proofs.Flags.{by-test, by_bool, by-order, impossible}
use Rattle.slots.specs.Words.{is_lost, entry_at, write_report}
use Rattle.slots.specs.declared.entry.Entry.{Entry}
use Rattle.slots.specs.declared.entry.Entry.TheVariants.{Lost, Received, GivenUp}
use Rattle.slots.proofs.Laws.{length-report, read-report, report-other, report-outside, slot_lt, slot-words, slot_apart}
use Rattle.slots.proofs.Steps.{slot-low, slot-high}
use Rattle.window.specs.Ready.{Good}
use Rattle.window.proofs.Walks.{one_less}
use Rattle.window_report.specs.Report.{is_due, k_after, words_of, run_words, first_at, runs_after, run_at, slot_no, due_at, slots_to, runs_to, run_put, list_to, needed, list_all, ReportOutcome, report_ended, report_of}
use Rattle.window_report.specs.Inner.{Before, Within, reporting, report_one, reported_to, due_from, any_due}
use Rattle.window.specs.declared.Window.{Window}
use Rattle.window_report.specs.declared.report.Runs.{Runs}

-- a run has at most two words, and one at least
words-two : (o : Option ℕ) (i : ℕ) → words_of o i ≤ 2
words-two (Some f) i = by-test (λ (n : ℕ). n ≤ 2) (eqb (f + 1) i) _ _ (λ u. omega arith) (λ u. omega arith)
words-two None i = omega arith

words-one : (f i : ℕ) → 0 < words_of (Some f) i
words-one f i = by-test (λ (n : ℕ). 0 < n) (eqb (f + 1) i) _ _ (λ u. omega arith) (λ u. omega arith)

pub words-most : (r : Runs) (i : ℕ) → run_words r i ≤ 2
words-most r i = words-two r.first i

pub run-some : (r : Runs) (i : ℕ) {f : ℕ} → r.first ≡ Some f → 0 < run_words r i
run-some r i {f} t = rw t (words-one f i)

-- a run that is going on began before entry i
pub began : {r : Runs} {i f : ℕ} → Within r i → r.first ≡ Some f → f < i
began {r} {i} h t = subst (λ (o : Option ℕ). Before o i) t h.before

-- an entry more keeps the bounds of the walk
within-after : (r : Runs) (i : ℕ) (d : Bool) → Within r i → Within (runs_after r i d) (suc i)
within-after r i true h = record { words = omega (arith, h.words); before = go r.first h.before }
  where
    go : (o : Option ℕ) → Before o i → first_at o i < suc i
    go (Some f) b = omega arith
    go None b = omega arith
within-after r i false h = let l = words-most r i in record { words = omega (arith, h.words); before = tt }

-- closing the run after entry i takes no fewer words than closing it before
words-grow : (r : Runs) (i : ℕ) (d : Bool) → Within r i → r.words + run_words r i ≤ (runs_after r i d).words + run_words (runs_after r i d) (suc i)
words-grow r i true h = let l = go r.first h.before in omega arith
  where
    go : (o : Option ℕ) → Before o i → words_of o i ≤ words_of (Some (first_at o i)) (suc i)
    go (Some f) b =
        let n : (f + 1 ≡ suc i → ⊥) = omega arith in
        rw (ne_eqb _ _ n) (words-two (Some f) i)
    go None b = omega arith
words-grow r i false h = omega arith

-- and an entry takes at most one word more
words-few : (r : Runs) (i : ℕ) (d : Bool) → Within r i → r.words + run_words r i ≤ i → (runs_after r i d).words + run_words (runs_after r i d) (suc i) ≤ suc i
words-few r i true h k = let l = go r.first in omega arith
  where
    go : (o : Option ℕ) → words_of (Some (first_at o i)) (suc i) ≤ words_of o i + 1
    go (Some f) = let l = words-two (Some f) (suc i) in let m = words-one f i in omega arith
    go None = let e : i + 1 ≡ suc i = omega arith in rw (eq-eqb _ _ e) (omega arith)
words-few r i false h k = omega arith

length-put : (w : Window) (list : List ℕ) (r : Runs) (i : ℕ) → length (run_put w list r i) ≡ length list
unfolding run_put
length-put w list r i = go r.first
  where
    go : (o : Option ℕ) → length (run_at w list r.words o i) ≡ length list
    go (Some f) = by-test (λ (l : List ℕ). length l ≡ length list) (eqb (f + 1) i) _ _ (λ u. simp length-set) (λ u. simp length-set)
    go None = refl

put-beyond : (w : Window) (list : List ℕ) (r : Runs) (i n : ℕ) → r.words + run_words r i ≤ n → drop n (run_put w list r i) ≡ drop n list
unfolding run_put
put-beyond w list r i n h = go r.first h
  where
    go : (o : Option ℕ) → r.words + words_of o i ≤ n → drop n (run_at w list r.words o i) ≡ drop n list
    go (Some f) k =
        by_bool (eqb (f + 1) i)
        (λ u. let l : r.words < n = omega (arith, rw u at k) in rw u (simp drop-set-lt))
        (λ u.
        let l : r.words < n = omega (arith, rw u at k) in
        let m : r.words + 1 < n = omega (arith, rw u at k) in
        rw u (simp drop-set-lt))
    go None k = refl

-- the three parts of a report go by the same test
one-is : (d : Bool) (a b l m : List ℕ) (r : Runs) (i : ℕ)
    → cond d (reporting a l (runs_after r i true)) (reporting b m (runs_after r i false)) ≡ reporting (cond d a b) (cond d l m) (runs_after r i d)
one-is true a b l m r i = refl
one-is false a b l m r i = refl

-- a due entry is lost, and its k stays within 16 bits
due-lost : (time : ℤ) (mean : ℕ) (e : Entry) → is_due time mean e ≡ true → is_lost e ≡ true
unfolding is_due
due-lost time mean (Lost k f) t = refl
due-lost time mean (Received n l m s) t = t
due-lost time mean GivenUp t = t

k-small : (e : Entry) → k_after e < 2 ^ 16
k-small (Lost k f) = omega arith
k-small (Received n l m s) = omega arith
k-small GivenUp = omega arith

-- a slot just reported
same : (time : ℤ) (mean : ℕ) (ws : List ℕ) (s : ℕ) (e : Entry) → 3 * s + 3 ≤ length ws → nat_abs time < 2 ^ 60 → entry_at ws s ≡ e
    → entry_at (cond (is_due time mean e) (write_report ws s (k_after e) (nat_abs time)) ws) s ≡ cond (is_due time mean e) (Lost (k_after e) (nat_abs time)) e
same time mean ws s e h k p =
    by_bool (is_due time mean e)
    (λ t. rw t (read-report ws s (k_after e) (nat_abs time) h (rw p (due-lost time mean e t)) (k-small e) k))
    (λ t. rw t p)

-- the search for an entry that is due: its end, a slot that has one, and one that has none
module _ (ws : List ℕ) (time : ℤ) (mean : ℕ) where
  module _ (s to : ℕ) where
    pub due-end : to ≤ s → due_from ws time mean s (to - s) ≡ false
    unfolding due_from
    due-end h = let e : to - s ≡ 0 = omega arith in rw e

    module _ (h : s < to) where
      pub due-here : is_due time mean (entry_at ws s) ≡ true → due_from ws time mean s (to - s) ≡ true
      unfolding due_from
      due-here t = rw (one_less h) (rw t)

      pub due-on : is_due time mean (entry_at ws s) ≡ false → due_from ws time mean s (to - s) ≡ due_from ws time mean (s + 1) (to - (s + 1))
      unfolding due_from
      due-on t = rw (one_less h) (rw t)

  due-none : (n s j : ℕ) → due_from ws time mean s n ≡ false → s ≤ j → j < s + n → is_due time mean (entry_at ws j) ≡ false
  unfolding due_from
  due-none zero s j e h k = absurd (omega arith)
  due-none (suc n) s j e h k =
      by_bool (is_due time mean (entry_at ws s))
      (λ t. impossible (rw t at e))
      (λ t.
      by-order s j
      (λ l. due-none n (s + 1) j (rw t at e) (omega arith) (omega arith))
      (λ l. let f : j ≡ s = omega arith in rw f t))

module _ (w : Window) (ws : List ℕ) (time : ℤ) (mean : ℕ) where
  pub runs-more : (i : ℕ) → runs_to w ws time mean (i + 1) ≡ runs_after (runs_to w ws time mean i) i (due_at w ws time mean i)
  unfolding runs_to
  runs-more i = rw (add-one i)

  pub runs-within : (i : ℕ) → Within (runs_to w ws time mean i) i
  unfolding runs_to
  runs-within zero = record { words = omega arith; before = tt }
  runs-within (suc i) = within-after (runs_to w ws time mean i) i (due_at w ws time mean i) (runs-within i)

  -- the words only grow, up to what the report needs
  abbrev pub words_to : ℕ → ℕ
  words_to i = (runs_to w ws time mean i).words + run_words (runs_to w ws time mean i) i

  words-on : (i : ℕ) → words_to i ≤ words_to (suc i)
  unfolding runs_to
  words-on i = words-grow (runs_to w ws time mean i) i (due_at w ws time mean i) (runs-within i)

  pub words-rise : (i j : ℕ) → i ≤ j → words_to i ≤ words_to j
  words-rise i zero h = let e : i ≡ 0 = omega arith in rw e (omega arith)
  words-rise i (suc j) h =
      by-order j i
      (λ l. let e : i ≡ suc j = omega arith in rw e (omega arith))
      (λ l. let a = words-rise i j l in let b = words-on j in omega arith)

  -- the report needs no more words than there are entries
  words-held : (i : ℕ) → words_to i ≤ i
  unfolding runs_to
  words-held zero = omega arith
  words-held (suc i) = words-few (runs_to w ws time mean i) i (due_at w ws time mean i) (runs-within i) (words-held i)

  pub needed-held : needed w ws time mean ≤ w.held
  needed-held = words-held w.held

  -- the areas keep their lengths
  pub length-slots : (i : ℕ) → length (slots_to w ws time mean i) ≡ length ws
  unfolding slots_to
  length-slots zero = refl
  length-slots (suc i) =
      by-test (λ (l : List ℕ). length l ≡ length ws) (due_at w ws time mean i) _ _
      (λ t. length-report _ _ _ _ ∙ length-slots i)
      (λ t. length-slots i)

  pub length-list : (list : List ℕ) (i : ℕ) → length (list_to w ws time mean list i) ≡ length list
  unfolding list_to
  length-list list zero = refl
  length-list list (suc i) =
      by-test (λ (l : List ℕ). length l ≡ length list) (due_at w ws time mean i) _ _
      (λ t. length-list list i)
      (λ t. length-put w _ _ i ∙ length-list list i)

  list-past : (list : List ℕ) (i n : ℕ) → words_to i ≤ n → drop n (list_to w ws time mean list i) ≡ drop n list
  unfolding list_to
  list-past list zero n h = refl
  list-past list (suc i) n h =
      let k : words_to i ≤ n = omega (arith, words-on i) in
      by-test (λ (l : List ℕ). drop n l ≡ drop n list) (due_at w ws time mean i) _ _
      (λ t. list-past list i n k)
      (λ t. put-beyond w _ (runs_to w ws time mean i) i n k ∙ list-past list i n k)

  -- what the list has past the words of the report stays
  pub list-beyond : (list : List ℕ) → drop (needed w ws time mean) (list_all w ws time mean list) ≡ drop (needed w ws time mean) list
  list-beyond list =
      put-beyond w _ (runs_to w ws time mean w.held) w.held (needed w ws time mean) (omega arith)
      ∙ list-past list w.held (needed w ws time mean) (omega arith)

  -- an entry is read as it was before the report
  pub slots-ahead : (i j : ℕ) → w.start < w.capacity → i ≤ j → j < w.capacity → entry_at (slots_to w ws time mean i) (slot_no w ws time mean j) ≡ entry_at ws (slot_no w ws time mean j)
  unfolding slots_to
  slots-ahead zero j hs h k = refl
  slots-ahead (suc i) j hs h k =
      let l = slots-ahead i j hs (omega arith) k in
      let n : (i ≡ j → ⊥) = omega arith in
      by-test (λ (x : List ℕ). entry_at x (slot_no w ws time mean j) ≡ entry_at ws (slot_no w ws time mean j)) (due_at w ws time mean i) _ _
      (λ t. report-other _ _ _ (λ e. slot_apart w.capacity w.start hs i j (omega arith) k n (sym e)) _ _ ∙ l)
      (λ t. l)

  -- one entry more
  pub report-more : (list : List ℕ) (i : ℕ) → w.start < w.capacity → i < w.capacity
      → report_one w time mean (slot_no w ws time mean i) i (reported_to w ws time mean list i) ≡ reported_to w ws time mean list (i + 1)
  unfolding report_one slots_to list_to runs_to
  report-more list i hs h =
      rw (slots-ahead i i hs (omega arith) h, add-one i) (one-is (due_at w ws time mean i) _ _ _ _ (runs_to w ws time mean i) i)

  -- an entry after the report: if it was due, with k + 1 and feedback now; else as it was
  abbrev pub entry_after : ℕ → Entry
  entry_after j =
      let e = entry_at ws (slot_no w ws time mean j) in
      cond (due_at w ws time mean j) (Lost (k_after e) (nat_abs time)) e

  slots-behind : (i j : ℕ) → Good w ws → nat_abs time < 2 ^ 60 → j < i → i ≤ w.capacity → entry_at (slots_to w ws time mean i) (slot_no w ws time mean j) ≡ entry_after j
  unfolding slots_to
  slots-behind zero j g ht h k = absurd (omega arith)
  slots-behind (suc i) j g ht h k =
      by-order j i
      (λ l.
      let ih = slots-behind i j g ht l (omega arith) in
      let n : (j ≡ i → ⊥) = omega arith in
      by-test (λ (x : List ℕ). entry_at x (slot_no w ws time mean j) ≡ entry_after j) (due_at w ws time mean i) _ _
      (λ t. report-other _ _ _ (slot_apart w.capacity w.start g.ranges.starts j i (omega arith) (omega arith) n) _ _ ∙ ih)
      (λ t. ih))
      (λ l.
      let e : j ≡ i = omega arith in
      rw e
      (same time mean (slots_to w ws time mean i) (slot_no w ws time mean i) (entry_at ws (slot_no w ws time mean i))
      (rw (length-slots i) (slot-words w.capacity w.start i refl g.ranges.starts g.words))
      ht
      (slots-ahead i i g.ranges.starts (omega arith) (omega arith))))

  -- a report changes only k and feedback time of due entries: those held, those that are not, and the words past the capacity
  pub report-held : (j : ℕ) → Good w ws → nat_abs time < 2 ^ 60 → j < w.held → entry_at (slots_to w ws time mean w.held) (slot_no w ws time mean j) ≡ entry_after j
  report-held j g ht h = slots-behind w.held j g ht h g.ranges.holds

  pub report-not-held : (j : ℕ) → Good w ws → w.held ≤ j → j < w.capacity → entry_at (slots_to w ws time mean w.held) (slot_no w ws time mean j) ≡ entry_at ws (slot_no w ws time mean j)
  report-not-held j g h k = slots-ahead w.held j g.ranges.starts h k

  pub report-past : (i : ℕ) → 0 < w.capacity → drop (3 * w.capacity) (slots_to w ws time mean i) ≡ drop (3 * w.capacity) ws
  unfolding slots_to
  report-past zero h = refl
  report-past (suc i) h =
      by-test (λ (x : List ℕ). drop (3 * w.capacity) x ≡ drop (3 * w.capacity) ws) (due_at w ws time mean i) _ _
      (λ t. report-outside _ _ w.capacity (slot_lt w.capacity w.start i h) _ _ ∙ report-past i h)
      (λ t. report-past i h)

  -- no entry, no report: nothing is needed exactly if no held entry is due
  runs_none : (i : ℕ) → ((j : ℕ) → j < i → due_at w ws time mean j ≡ false) → runs_to w ws time mean i ≡ record { words = 0; first = None }
  unfolding runs_to
  runs_none zero f = refl
  runs_none (suc i) f = rw (runs_none i (λ j h. f j (omega arith)), f i (omega arith))

  pub none-due : ((j : ℕ) → j < w.held → due_at w ws time mean j ≡ false) → needed w ws time mean ≡ 0
  none-due f = rw (runs_none w.held f)

  pub some-due : (j : ℕ) → j < w.held → due_at w ws time mean j ≡ true → 0 < needed w ws time mean
  unfolding runs_to
  some-due j h t =
      let g : (runs_to w ws time mean (suc j)).first ≡ Some (first_at (runs_to w ws time mean j).first j) = rw t in
      omega (arith, words-rise (suc j) w.held (omega arith), run-some (runs_to w ws time mean (suc j)) (suc j) g)

  -- where the search finds none, none is due, and nothing is needed
  pub any-needs : Good w ws → any_due w ws time mean ≡ false → needed w ws time mean ≡ 0
  any-needs g e =
      by_bool (due_from ws time mean w.start (min w.held (w.capacity - w.start)))
      (λ t. impossible (rw t at e))
      (λ t.
      none-due
      (λ j h.
      by-order (w.start + j) w.capacity
      (λ l. rw (← slot-low w.capacity w.start j l) (due-none ws time mean _ w.start (w.start + j) t (omega arith) (omega arith)))
      (λ l.
      rw (← slot-high w.capacity w.start j g.ranges.starts (omega (arith, g.ranges.holds)) l)
      (due-none ws time mean _ 0 (w.start + j - w.capacity) (rw t at e) (omega arith) (omega arith)))))

  -- where nothing is needed, the walk leaves the areas as they are
  module _ (z : needed w ws time mean ≡ 0) where
    not-due : (j : ℕ) → j < w.held → due_at w ws time mean j ≡ false
    not-due j h =
        by_bool (due_at w ws time mean j)
        (λ t. absurd (omega (arith, some-due j h t)))
        (λ t. t)

    slots-none : (i : ℕ) → i ≤ w.held → slots_to w ws time mean i ≡ ws
    unfolding slots_to
    slots-none zero h = refl
    slots-none (suc i) h = rw (not-due i (omega arith)) (slots-none i (omega arith))

    list-none : (list : List ℕ) (i : ℕ) → i ≤ w.held → list_to w ws time mean list i ≡ list
    unfolding list_to run_put
    list-none list zero h = refl
    list-none list (suc i) h =
        rw (not-due i (omega arith), runs_none i (λ j l. not-due j (omega arith))) (list-none list i (omega arith))

    pub slots_same : slots_to w ws time mean w.held ≡ ws
    slots_same = slots-none w.held (omega arith)

    pub list_same : (list : List ℕ) → list_all w ws time mean list ≡ list
    unfolding run_put
    list_same list = rw (runs_none w.held not-due) (list-none list w.held (omega arith))

  -- refusal 12, and no report, change nothing; a report leaves what the definitions above say
  module _ (list : List ℕ) where
    abbrev pub outcome : ReportOutcome
    outcome = report_of w ws time mean list

    pub by-outcome : (P : ReportOutcome → Type 0) → P (report_ended (Ok None) ws list) → P (report_ended (Err (record {})) ws list)
        → P (report_ended (Ok (Some (needed w ws time mean))) (slots_to w ws time mean w.held) (list_all w ws time mean list)) → P outcome
    unfolding report_of
    by-outcome P a b c =
        by-test P (eqb (needed w ws time mean) 0) _ _
        (λ t. a)
        (λ t. by-test P (ltb (length list) (needed w ws time mean)) _ _ (λ u. b) (λ u. c))

    pub nothing-stays : outcome.answer ≡ Ok None → outcome ≡ report_ended (Ok None) ws list
    nothing-stays =
        by-outcome (λ (x : ReportOutcome). x.answer ≡ Ok None → x ≡ report_ended (Ok None) ws list)
        (λ e. refl)
        (λ e. absurd (let z : ◌≡◌ {A = ℕ} 0 1 = cc in omega arith))
        (λ e. absurd (let z : ◌≡◌ {A = ℕ} 0 1 = cc in omega arith))

    pub short-stays : outcome.answer ≡ Err (record {}) → outcome ≡ report_ended (Err (record {})) ws list
    short-stays =
        by-outcome (λ (x : ReportOutcome). x.answer ≡ Err (record {}) → x ≡ report_ended (Err (record {})) ws list)
        (λ e. absurd (let z : ◌≡◌ {A = ℕ} 0 1 = cc in omega arith))
        (λ e. refl)
        (λ e. absurd (let z : ◌≡◌ {A = ℕ} 0 1 = cc in omega arith))

    pub slots-keep : length outcome.slots ≡ length ws
    slots-keep = by-outcome (λ (x : ReportOutcome). length x.slots ≡ length ws) refl refl (length-slots w.held)

    pub list-keeps : length outcome.list ≡ length list
    list-keeps =
        by-outcome (λ (x : ReportOutcome). length x.list ≡ length list)
        refl
        refl
        (length-put w _ _ w.held ∙ length-list list w.held)
