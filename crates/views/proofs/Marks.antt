-- What a loss report and a drop request do to the list of entries, and that lrsn stays right. Assumes nothing.
use mathlib.Core.Path.{◌≡◌, refl, ap, sym, ◌∙◌}
use mathlib.Core.Bool.{Bool, true, false, ◌&&◌, cond}
use mathlib.Core.List.{List, [], ◌∷◌, map}
use Prim.Native.Nat.{ℕ, zero, suc, ◌+◌, ◌^◌, ◌<◌, ◌≤◌}
use native.Mathlib.Omega.{arith}
use Rattle.std.specs.Prelude.{Option, Some, None, Result, Ok, Err}
use borrow.Author.Tests.{le-leb, lt-leb, lt-ltb, le-ltb}
use lib.Dec.{ltb, leb}
use lib.IntN.{ℤ, nat_abs}
use Rattle.numbers.proofs.Flags.{by_bool, by-order}
use Rattle.slots.specs.Words as words
use Rattle.slots.specs.Ring.{slot_of}
use Rattle.slots.specs.declared.entry.Entry.{Entry}
use Rattle.slots.specs.declared.entry.Entry.TheVariants.{Lost, Received, GivenUp}
use Rattle.window.specs.Window.{slot_in, entry_in, number_in}
use Rattle.window.specs.Ready.{Good}
use Rattle.window.specs.declared.Window.{Window}
use Rattle.window_report.specs.Report.{ReportOutcome, is_due, k_after, slots_to, report_of}
use Rattle.window_report.specs.Drop.{drop_from, drop_to, drop_of}
use Rattle.window_report.specs.declared.report.ListShort.{ListShort}
use Rattle.window_report.proofs.ReportLaws.{by-outcome, report-held}
use Rattle.window_report.proofs.DropLaws.{drop-in, drop-before, drop-after}
use Rattle.views.specs.Lists.{run_of, changed_in}
use Rattle.views.specs.View.{Seen, lost, received, given_up, seen_of, seen_at, entries_from, entries, is_received, gap_in, LrsnRight, reported_seen, after_report, gave_up, given_in}

-- a list whose entries are those of another under a map, or under a map by place
module _ (capacity start : ℕ) (ws bs ws₁ : List ℕ) where
  entries-map : (f : Seen → Seen) (n i : ℕ) → ((j : ℕ) → i ≤ j → j < i + n → seen_at ws₁ bs (slot_of capacity start j) ≡ f (seen_at ws bs (slot_of capacity start j)))
      → entries_from capacity start ws₁ bs i n ≡ map f (entries_from capacity start ws bs i n)
  unfolding entries_from
  entries-map f zero i h = refl
  entries-map f (suc n) i h = rw (h i (omega arith) (omega arith), entries-map f n (suc i) (λ j a b. h j (omega arith) (omega arith)))

  entries-given : (from to n i : ℕ)
      → ((j : ℕ) → i ≤ j → j < i + n → seen_at ws₁ bs (slot_of capacity start j) ≡ cond (leb from j && ltb j to) (gave_up (seen_at ws bs (slot_of capacity start j))) (seen_at ws bs (slot_of capacity start j)))
      → entries_from capacity start ws₁ bs i n ≡ given_in from to i (entries_from capacity start ws bs i n)
  unfolding entries_from changed_in
  entries-given from to zero i h = refl
  entries-given from to (suc n) i h = rw (h i (omega arith) (omega arith), entries-given from to n (suc i) (λ j a b. h j (omega arith) (omega arith)))

-- neither makes an entry received, nor one that was not
reported-mark : (time : ℤ) (mean : ℕ) (e : Seen) → is_received (reported_seen time mean e) ≡ is_received e
reported-mark time mean (lost k f) = by_bool (is_due time mean (Lost k f)) (λ t. rw t) (λ t. rw t)
reported-mark time mean (received l m t b) = refl
reported-mark time mean given_up = refl

gap-reported : (time : ℤ) (mean : ℕ) (es : List Seen) → gap_in (map (reported_seen time mean) es) ≡ gap_in es
unfolding run_of
gap-reported time mean [] = refl
gap-reported time mean (e ∷ es) = rw (reported-mark time mean e, gap-reported time mean es)

given-mark : (t : Bool) (e : Seen) → is_received (cond t (gave_up e) e) ≡ is_received e
given-mark false e = refl
given-mark true (lost k f) = refl
given-mark true (received l m t b) = refl
given-mark true given_up = refl

gap-given : (from to i : ℕ) (es : List Seen) → gap_in (given_in from to i es) ≡ gap_in es
unfolding run_of changed_in
gap-given from to i [] = refl
gap-given from to i (e ∷ es) = rw (given-mark (leb from i && ltb i to) e, gap-given from to (suc i) es)

-- one entry after a report, and one in the range of a drop request
seen-reported : (time : ℤ) (mean s : ℕ) (bs : List ℕ) (e : Entry) → seen_of bs s (cond (is_due time mean e) (Lost (k_after e) (nat_abs time)) e) ≡ reported_seen time mean (seen_of bs s e)
unfolding is_due
seen-reported time mean s bs (Lost k f) = by_bool (is_due time mean (Lost k f)) (λ t. rw t) (λ t. rw t)
seen-reported time mean s bs (Received n l m t) = refl
seen-reported time mean s bs GivenUp = refl

seen-given : (s : ℕ) (bs : List ℕ) (e : Entry) → seen_of bs s (cond (words.is_lost e) GivenUp e) ≡ gave_up (seen_of bs s e)
seen-given s bs (Lost k f) = refl
seen-given s bs (Received n l m t) = refl
seen-given s bs GivenUp = refl

module _ (w : Window) (ws bs : List ℕ) (g : Good w ws) where
  abbrev es : List Seen
  es = entries w ws bs

  module _ (time : ℤ) (mean : ℕ) (list : List ℕ) (ht : nat_abs time < 2 ^ 60) where
    -- a loss report, by its answer
    pub report-seen : entries w (report_of w ws time mean list).slots bs ≡ after_report time mean es (report_of w ws time mean list).answer
    report-seen =
        by-outcome w ws time mean list (λ (x : ReportOutcome). entries w x.slots bs ≡ after_report time mean es x.answer)
        refl
        refl
        (entries-map w.capacity w.start ws bs (slots_to w ws time mean w.held) (reported_seen time mean) w.held 0
        (λ j a b. ap (seen_of bs (slot_in w j)) (report-held w ws time mean j g ht (omega arith)) ∙ seen-reported time mean (slot_in w j) bs (entry_in w ws j)))

    pub report-right : LrsnRight w es → LrsnRight w (entries w (report_of w ws time mean list).slots bs)
    report-right l = rw report-seen (l ∙ ap (number_in w) (sym (go (report_of w ws time mean list).answer)))
      where
        go : (a : Result (Option ℕ) ListShort) → gap_in (after_report time mean es a) ≡ gap_in es
        go (Ok None) = refl
        go (Ok (Some n)) = gap-reported time mean es
        go (Err e) = refl

  module _ (first last : ℕ) where
    -- a drop request
    pub drop-seen : entries w (drop_of w ws first last).slots bs ≡ given_in (drop_from w first) (drop_to w last) 0 es
    drop-seen =
        let ws₁ = (drop_of w ws first last).slots in
        entries-given w.capacity w.start ws bs ws₁ (drop_from w first) (drop_to w last) w.held 0
        (λ j a b.
        let keep : entry_in w ws₁ j ≡ entry_in w ws j → seen_at ws₁ bs (slot_in w j) ≡ seen_at ws bs (slot_in w j) = ap (seen_of bs (slot_in w j)) in
        by-order j (drop_from w first)
        (λ h. rw (lt-leb (drop_from w first) j h) (keep (drop-before w ws first last g j (omega arith) h)))
        (λ h.
        rw (le-leb (drop_from w first) j h)
        (by-order j (drop_to w last)
        (λ k. rw (lt-ltb j (drop_to w last) k) (ap (seen_of bs (slot_in w j)) (drop-in w ws first last g j h k) ∙ seen-given (slot_in w j) bs (entry_in w ws j)))
        (λ k. rw (le-ltb j (drop_to w last) k) (keep (drop-after w ws first last g j (omega arith) k))))))

    pub drop-right : LrsnRight w es → LrsnRight w (entries w (drop_of w ws first last).slots bs)
    drop-right l = rw drop-seen (l ∙ ap (number_in w) (sym (gap-given (drop_from w first) (drop_to w last) 0 es)))
