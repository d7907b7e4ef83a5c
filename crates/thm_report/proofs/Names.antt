-- What a loss report names, read back from its words, is exactly the numbers of the due entries, in order: 01, "Window".
-- The laws of one entry take any test of which entries are due. Assumes nothing.
use mathlib.Core.Path.{◌≡◌, refl, sym, ◌∙◌, ap}
use mathlib.Core.Bool.{Bool, true, false}
use mathlib.Core.List.{List, [], ◌∷◌, ◌++◌, append-nil, append_assoc}
use Prim.Native.Nat.{ℕ, zero, suc, ◌+◌, ◌-◌, ◌^◌, ◌<◌, ◌≤◌}
use native.Mathlib.Numerals.{add-one}
use native.Mathlib.Omega.{arith}
use borrow.Author.Tests.{lt-ltb, le-ltb, eqb-true, ltb-false}
use lib.Dec.{ltb, eqb}
use lib.IntN.{ℤ}
use lib.ListN.{length, take, set, length-set}
use lib.Seq.{take-suc-set}
use Rattle.std.specs.Prelude.{Option, Some, None, Ok}
use Rattle.numbers.specs.Circular.{distance}
use Rattle.numbers.proofs.Both.{seq-distance}
use Rattle.numbers.proofs.Circle.{sum_below, sum-zero, sum-sum}
use Rattle.numbers.proofs.Flags.{by_bool, by-test}
use Rattle.window.specs.Ready.{InWindow}
use Rattle.window.specs.Window.{number_in}
use Rattle.window.specs.declared.Window.{Window}
use Rattle.window_report.specs.Inner.{Within}
use Rattle.window_report.specs.Report.{run_words, first_at, closed, runs_after, run_put, due_at, runs_to, list_to, needed, list_all, ReportOutcome, report_of}
use Rattle.window_report.specs.declared.report.Runs.{Runs}
use Rattle.window_report.proofs.ReportLaws.{began, runs-within, words-rise, length-list}
use Rattle.thm_report.specs.Named.{numbers_from, through, numbers_after, numbers_in, due_numbers}

-- words that name these numbers, whatever follows them
record Says (xs ns : List ℕ) : Type 0 where
  read : (ys : List ℕ) → numbers_in (xs ++ ys) ≡ ns ++ numbers_in ys

says_both : {xs zs ns ms : List ℕ} → Says xs ns → Says zs ms → Says (xs ++ zs) (ns ++ ms)
says_both {xs} {zs} {ns} {ms} f g =
    record {
      read = λ ys. ap numbers_in (append_assoc xs zs ys) ∙ f.read (zs ++ ys) ∙ ap (λ (l : List ℕ). ns ++ l) (g.read ys) ∙ sym (append_assoc ns ms (numbers_in ys));
    }

says-one : (a : ℕ) → a < 2 ^ 31 → Says (a ∷ []) (a ∷ [])
unfolding numbers_after
says-one a h = record { read = λ ys. rw (lt-ltb a (2 ^ 31) h) }

says-run : (first last : ℕ) → Says ((2 ^ 31 + first) ∷ last ∷ []) (through first last)
unfolding numbers_after
says-run first last =
    let e : 2 ^ 31 + first - 2 ^ 31 ≡ first = omega arith in
    record { read = λ ys. rw (le-ltb (2 ^ 31 + first) (2 ^ 31) (omega arith), e) }

-- the words alone
said_all : {xs ns : List ℕ} → Says xs ns → numbers_in xs ≡ ns
unfolding numbers_after
said_all {xs} {ns} f = ap numbers_in (sym (append-nil xs)) ∙ f.read [] ∙ append-nil ns

-- a run of one entry, and of more
one_number : (w : Window) (e : ℕ) → numbers_from (number_in w e) 1 ≡ number_in w e ∷ []
unfolding numbers_from
one_number w e = ap (λ (n : ℕ). n ∷ []) (sum-zero 31 (sum_below 31 w.seqno0 e))

more_numbers : (w : Window) (e i : ℕ) → e < i → i ≤ 2 ^ 31 → through (number_in w e) (number_in w (i - 1)) ≡ numbers_from (number_in w e) (i - e)
more_numbers w e i h k =
    let n : e + (i - 1 - e) ≡ i - 1 = omega arith in
    let d : distance 31 (number_in w (i - 1)) (number_in w e) ≡ i - 1 - e =
    ap (λ (x : ℕ). distance 31 (number_in w x) (number_in w e)) (sym n) ∙ seq-distance w.seqno0 e (i - 1 - e) (omega arith)
    in
    let m : i - 1 - e + 1 ≡ i - e = omega arith in
    ap (λ (x : ℕ). numbers_from (number_in w e) (x + 1)) d ∙ ap (numbers_from (number_in w e)) m

next-number : (w : Window) (e i : ℕ) → e ≤ i → numbers_from (number_in w e) (suc i - e) ≡ numbers_from (number_in w e) (i - e) ++ (number_in w i ∷ [])
unfolding numbers_from
next-number w e i h =
    let n : suc i - e ≡ suc (i - e) = omega arith in
    let m : e + (i - e) ≡ i = omega arith in
    ap (numbers_from (number_in w e)) n
    ∙ ap (λ (x : ℕ). numbers_from (number_in w e) (i - e) ++ (x ∷ [])) (sum-sum 31 w.seqno0 e (i - e) ∙ ap (number_in w) m)

-- the words of one run, after those before it
take-one : (l : List ℕ) (n a : ℕ) → n + 1 ≤ length l → take (n + 1) (set l n a) ≡ take n l ++ (a ∷ [])
take-one l n a h = rw add-one (take-suc-set l n a (omega arith))

take-two : (l : List ℕ) (n a b : ℕ) → n + 2 ≤ length l → take (n + 2) (set (set l n a) (n + 1) b) ≡ take n l ++ (a ∷ b ∷ [])
take-two l n a b h =
    let e : n + 2 ≡ n + 1 + 1 = omega arith in
    let k : n + 1 + 1 ≤ length (set l n a) = rw length-set (omega arith) in
    ap (λ (x : ℕ). take x (set (set l n a) (n + 1) b)) e
    ∙ take-one (set l n a) (n + 1) b k
    ∙ ap (λ (x : List ℕ). x ++ (b ∷ [])) (take-one l n a (omega arith))
    ∙ append_assoc (take n l) (a ∷ []) (b ∷ [])

-- the entry before which all is written: the first of the run that goes on, else the next
abbrev written_to : Runs → ℕ → ℕ
written_to r i = first_at r.first i

module _ (w : Window) (due : ℕ → Bool) where
  -- after i entries: the words name the due ones before the run that goes on, and that run is all the others
  record Said (i : ℕ) (list : List ℕ) (r : Runs) : Type 0 where
    before : written_to r i ≤ i
    words : Says (take r.words list) (due_numbers w due (written_to r i))
    rest : due_numbers w due i ≡ due_numbers w due (written_to r i) ++ numbers_from (number_in w (written_to r i)) (i - written_to r i)

  said-start : (list : List ℕ) → Said 0 list (record { words = 0; first = None })
  unfolding due_numbers numbers_from
  said-start list = record { before = omega arith; words = record { read = λ ys. refl }; rest = refl }

  -- an entry that is due
  said-due : (i : ℕ) (list : List ℕ) (r : Runs) → due i ≡ true → Said i list r → Said (suc i) list (runs_after r i true)
  unfolding due_numbers
  said-due i list r t s =
      let e = written_to r i in
      record {
        before = omega (arith, s.before);
        words = s.words;
        rest =
            rw t
            (ap (λ (l : List ℕ). l ++ (number_in w i ∷ [])) s.rest
            ∙ append_assoc (due_numbers w due e) (numbers_from (number_in w e) (i - e)) (number_in w i ∷ [])
            ∙ ap (λ (l : List ℕ). due_numbers w due e ++ l) (sym (next-number w e i s.before)));
      }

  -- the run that goes on is written
  module _ (i : ℕ) (list : List ℕ) (r : Runs) (most : i ≤ 2 ^ 31) (room : r.words + run_words r i ≤ length list) (h : Within r i) (s : Said i list r) where
    said-closed : Says (take (closed r i).words (run_put w list r i)) (due_numbers w due i)
    unfolding run_put
    said-closed = go r.first refl
      where
        go : (o : Option ℕ) → r.first ≡ o → Says (take (closed r i).words (run_put w list r i)) (due_numbers w due i)
        go (Some f) t =
            let b : f < i = began h t in
            let before = rw t at s.words in
            let rest = rw t at s.rest in
            by_bool (eqb (f + 1) i)
            (λ u.
            let k : r.words + 1 ≤ length list = omega (arith, rw (t, u) at room) in
            let e = eqb-true (f + 1) i u in
            let one : i - f ≡ 1 = omega arith in
            rw (t, u, take-one list r.words (number_in w f) k, rest, one, one_number w f)
            (says_both before (says-one (number_in w f) (sum_below 31 w.seqno0 f))))
            (λ u.
            let k : r.words + 2 ≤ length list = omega (arith, rw (t, u) at room) in
            rw (t, u, take-two list r.words (2 ^ 31 + number_in w f) (number_in w (i - 1)) k, rest, ← more_numbers w f i b most)
            (says_both before (says-run (number_in w f) (number_in w (i - 1)))))
        go None t =
            let before = rw t at s.words in
            let z : r.words + 0 ≡ r.words = omega arith in
            rw (t, z) before

    -- an entry that is not due
    said-not : due i ≡ false → Said (suc i) (run_put w list r i) (closed r i)
    unfolding due_numbers numbers_from
    said-not t =
        let z : suc i - suc i ≡ 0 = omega arith in
        record { before = omega arith; words = rw (t, append-nil) said-closed; rest = rw (z, append-nil) }

module _ (w : Window) (ws : List ℕ) (time : ℤ) (mean : ℕ) (list : List ℕ) (fits : needed w ws time mean ≤ length list) (most : w.held ≤ 2 ^ 31) where
  room-to : (i : ℕ) → i ≤ w.held → (runs_to w ws time mean i).words + run_words (runs_to w ws time mean i) i ≤ length (list_to w ws time mean list i)
  room-to i h = omega (arith, words-rise w ws time mean i w.held h, length-list w ws time mean list i)

  said-to : (i : ℕ) → i ≤ w.held → Said w (due_at w ws time mean) i (list_to w ws time mean list i) (runs_to w ws time mean i)
  unfolding list_to runs_to
  said-to zero h = said-start w (due_at w ws time mean) list
  said-to (suc i) h =
      let s = said-to i (omega arith) in
      by_bool (due_at w ws time mean i)
      (λ t. rw t (said-due w (due_at w ws time mean) i (list_to w ws time mean list i) (runs_to w ws time mean i) t s))
      (λ t.
      rw t
      (said-not w (due_at w ws time mean) i (list_to w ws time mean list i) (runs_to w ws time mean i) (omega arith) (room-to i (omega arith)) (runs-within w ws time mean i) s t))

  -- the words of the whole report
  pub all_named : numbers_in (take (needed w ws time mean) (list_all w ws time mean list)) ≡ due_numbers w (due_at w ws time mean) w.held
  all_named =
      let i = w.held in
      said_all
      (said-closed w (due_at w ws time mean) i (list_to w ws time mean list i) (runs_to w ws time mean i) most (room-to i (omega arith)) (runs-within w ws time mean i) (said-to i (omega arith)))

-- what a report leaves in the lent list names the due entries, all of them and no others, in order; no report is where there is none
module _ (w : Window) (ws : List ℕ) (time : ℤ) (mean : ℕ) (list : List ℕ) (good : InWindow w) where
  few : w.held ≤ 2 ^ 31
  few = omega (arith, good.holds, good.most)

  abbrev outcome : ReportOutcome
  outcome = report_of w ws time mean list

  pub report-names : {n : ℕ} → outcome.answer ≡ Ok (Some n) → numbers_in (take n outcome.list) ≡ due_numbers w (due_at w ws time mean) w.held
  unfolding report_of
  report-names {n} =
      by-test (λ (x : ReportOutcome). x.answer ≡ Ok (Some n) → numbers_in (take n x.list) ≡ due_numbers w (due_at w ws time mean) w.held) (eqb (needed w ws time mean) 0) _ _
      (λ t e. absurd (let z : ◌≡◌ {A = ℕ} 0 1 = cc in omega arith))
      (λ t.
      by-test (λ (x : ReportOutcome). x.answer ≡ Ok (Some n) → numbers_in (take n x.list) ≡ due_numbers w (due_at w ws time mean) w.held) (ltb (length list) (needed w ws time mean)) _ _
      (λ u e. absurd (let z : ◌≡◌ {A = ℕ} 0 1 = cc in omega arith))
      (λ u e.
      let m : needed w ws time mean ≡ n = cc in
      rw (← m) (all_named w ws time mean list (ltb-false _ _ u) few)))

  pub none_named : outcome.answer ≡ Ok None → due_numbers w (due_at w ws time mean) w.held ≡ []
  unfolding report_of numbers_after
  none_named =
      by-test (λ (x : ReportOutcome). x.answer ≡ Ok None → due_numbers w (due_at w ws time mean) w.held ≡ []) (eqb (needed w ws time mean) 0) _ _
      (λ t e.
      let z = eqb-true (needed w ws time mean) 0 t in
      let k : needed w ws time mean ≤ length list = omega arith in
      sym (rw z at (all_named w ws time mean list k few)))
      (λ t.
      by-test (λ (x : ReportOutcome). x.answer ≡ Ok None → due_numbers w (due_at w ws time mean) w.held ≡ []) (ltb (length list) (needed w ws time mean)) _ _
      (λ u e. absurd (let z : ◌≡◌ {A = ℕ} 0 1 = cc in omega arith))
      (λ u e. absurd (let z : ◌≡◌ {A = ℕ} 0 1 = cc in omega arith)))
