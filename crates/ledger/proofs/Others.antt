-- A loss report, a drop request, ACKs and the clock keep the ledger: 01, "Window", "ACKs, RTT, rates" and "Clock". Assumes nothing.
use mathlib.Core.Path.{◌≡◌, refl, ap, sym, ◌∙◌, subst}
use mathlib.Core.List.{List, [], map, append-nil}
use Prim.Native.Nat.{ℕ, ◌+◌, ◌*◌}
use lib.Dec.{eqb}
use lib.IntN.{ℤ}
use lib.ListN.{length}
use Rattle.std.specs.Prelude.{Option, Some, None, Result, Ok, Err}
use Rattle.numbers.specs.Circular.{sum}
use Rattle.numbers.proofs.Flags.{by-test}
use Rattle.numbers.proofs.Signs.{reading-size}
use Rattle.clock.specs.Sync.{synchronized}
use Rattle.clock.specs.declared.base.DriftRange.{DriftRange}
use Rattle.clock.specs.declared.time.Step.{Step}
use Rattle.acks.specs.History.{ack2_of, full_ack_of}
use Rattle.acks.specs.declared.history.Acked.{Acked}
use Rattle.acks.specs.declared.history.FasnWorn.{FasnWorn}
use Rattle.acks.specs.declared.history.Answered.{Answered}
use Rattle.window.specs.Window.{room_of}
use Rattle.window.specs.declared.Window.{Window}
use Rattle.window_report.specs.Report.{report_of}
use Rattle.window_report.specs.Drop as dropping
use Rattle.window_report.specs.Drop.{drop_from, drop_to, drop_of}
use Rattle.window_report.specs.declared.report.ListShort.{ListShort}
use Rattle.head.specs.Rules.{first_refusal, timed_rules, drop_rules, clock_rules}
use Rattle.head.specs.Head.{head_ok}
use Rattle.head.specs.declared.state.Head.{Head}
use Rattle.head.proofs.Gates.{by-refusal}
use Rattle.head.proofs.Ready.{good, timed-ready, drop-ready}
use Rattle.feedback.specs.Acking.{FullAckOutcome, Ack2Outcome, after_ack, after_ack2, roomy_ack, due_ack, full_ack_call_of, held_ack2, ack2_call_of}
use Rattle.feedback.specs.Loss.{LossOutcome, head_after, reported_of, report_call_of}
use Rattle.upkeep.specs.Request.{DropOutcome, drop_call_of}
use Rattle.feedback.specs.Sync.{ClockOutcome, after_sync, sync_of, clock_call_of}
use Rattle.views.specs.View as views
use Rattle.views.specs.View.{Seen, entries}
use Rattle.views.proofs.Marks.{report-seen, report-right, drop-seen, drop-right}
use Rattle.ledger.specs.Ledger.{Place, Ledger, front_of, given_in, end_in, enter_drop, lost_count, released_bytes}
use Rattle.ledger.specs.Runs.{place_of}
use Rattle.ledger.specs.Claims.{Counts}
use Rattle.ledger.proofs.Places.{given-places, given-long, reported-places}
use Rattle.ledger.proofs.Owned.{held-given}
use Rattle.ledger.proofs.Moved.{Stands, Moved, still, window-count}
use Rattle.ledger.proofs.Dropped.{counts}

module _ (S : ℕ → List ℕ → Type 0) (l : Ledger) (h : Head) (ws bs : List ℕ) (a : Stands S l h.window (entries h.window ws bs)) where
  abbrev w : Window
  w = h.window

  abbrev es : List Seen
  es = entries w ws bs

  -- a loss report moves no place
  abbrev pub Reported : LossOutcome → Type 0
  Reported o = Moved S l l o.reported.head.window (entries o.reported.head.window o.slots bs) []

  report-places : (time : ℤ) (mean : ℕ) (x : Result (Option ℕ) ListShort) → map place_of (views.after_report time mean es x) ≡ map place_of es
  report-places time mean (Ok None) = refl
  report-places time mean (Ok (Some words)) = reported-places time mean es
  report-places time mean (Err e) = refl

  report-window : (now : ℤ) (x : Result (Option ℕ) ListShort) → (head_after h x now).window ≡ w
  report-window now (Ok words) = refl
  report-window now (Err e) = refl

  pub report-stands : (list : List ℕ) (now : ℤ) → Reported (report_call_of h ws list now)
  unfolding report_call_of reported_of
  report-stands list now =
      by-refusal Reported (first_refusal (timed_rules (head_ok h) (length ws) (3 * w.capacity) now h.latest)) _ _
      (λ x z.
      let t = timed-ready h now (length ws) (3 * w.capacity) (sym z) in
      let g = good w ws t.0.head.window t.1 in
      let u = (reading-size now t.0.reading).1 in
      let o = report_of w ws now h.rtt.mean list in
      subst (λ (v : Window). Moved S l l v (entries v o.slots bs) []) (sym (report-window now o.answer))
      (still
      (record {
        front = a.front;
        held = ap (map place_of) (report-seen w ws bs g now h.rtt.mean list u) ∙ report-places now h.rtt.mean o.answer ∙ a.held;
        right = report-right w ws bs g now h.rtt.mean list u a.right;
        own_gone = a.own_gone;
        own_held = a.own_held;
      })))
      (λ e z. still a)

  -- a drop request gives up lost places
  abbrev pub Requested : ℕ → ℕ → DropOutcome → Type 0
  Requested first last o = Moved S l (enter_drop l first last o.answer) w (entries w o.slots bs) []

  end_is : (number : ℕ) → dropping.end_in w number ≡ end_in l number
  unfolding dropping.end_in
  end_is number = rw (a.front, window-count ws bs a)

  pub drop-stands : (first last : ℕ) → Requested first last (drop_call_of h ws first last)
  unfolding drop_call_of
  drop-stands first last =
      by-refusal (Requested first last) (first_refusal (drop_rules (head_ok h) w.capacity (length ws) first last)) _ _
      (λ x z.
      let g = drop-ready h ws first last (sym z) in
      let given = given_in (end_in l first) (end_in l (sum 31 last 1)) 0 l.held in
      let held : map place_of (entries w (drop_of w ws first last).slots bs) ≡ given =
      ap (map place_of) (drop-seen w ws bs g first last)
      ∙ given-places (drop_from w first) (drop_to w last) 0 es
      ∙ ap (given_in (drop_from w first) (drop_to w last) 0) a.held
      ∙ ap (λ (x : ℕ). given_in x (drop_to w last) 0 l.held) (end_is first)
      ∙ ap (λ (x : ℕ). given_in (end_in l first) x 0 l.held) (end_is (sum 31 last 1)) in
      let long : length given ≡ length l.held = given-long (end_in l first) (end_in l (sum 31 last 1)) 0 l.held in
      record {
        stands =
            record {
              front = a.front;
              held = held;
              right = drop-right w ws bs g first last a.right;
              own_gone = a.own_gone;
              own_held = held-given S l.first (end_in l first) (end_in l (sum 31 last 1)) 0 l.held (front_of l) a.own_held;
            };
        handed = sym (append-nil (released_bytes l.gone));
      })
      (λ e z. still a)

  pub drop-counted : (first last : ℕ) → Counts l first last (drop_call_of h ws first last).answer
  unfolding drop_call_of
  drop-counted first last =
      by-refusal (λ (o : DropOutcome). Counts l first last o.answer) (first_refusal (drop_rules (head_ok h) w.capacity (length ws) first last)) _ _
      (λ x z.
      let g = drop-ready h ws first last (sym z) in
      let n = (drop_of w ws first last).count in
      subst (λ (x : List Place). lost_count x ≡ lost_count (given_in (end_in l first) (end_in l (sum 31 last 1)) 0 x) + n) a.held
      (subst (λ (x : ℕ). lost_count (map place_of es) ≡ lost_count (given_in x (end_in l (sum 31 last 1)) 0 (map place_of es)) + n) (end_is first)
      (subst (λ (x : ℕ). lost_count (map place_of es) ≡ lost_count (given_in (drop_from w first) x 0 (map place_of es)) + n) (end_is (sum 31 last 1)) (counts w ws bs g first last))))
      (λ e z. tt)

  -- ACKs and the clock leave the window
  abbrev Alike : Window → Type 0
  Alike v = Moved S l l v (entries v ws bs) []

  alike : (v : Window) → v ≡ w → Alike v
  alike v e = subst Alike (sym e) (still a)

  pub full-ack-stands : (b : List ℕ) (now : ℤ) → Alike (full_ack_call_of h b now).acked.head.window
  unfolding full_ack_call_of due_ack roomy_ack
  full-ack-stands b now =
      by-refusal (λ (o : FullAckOutcome). Alike o.acked.head.window) (first_refusal (timed_rules (head_ok h) (length b) 2048 now h.latest)) _ _
      (λ x z.
      by-test (λ (o : FullAckOutcome). Alike o.acked.head.window) (eqb (room_of w) 0) _ _
      (λ t. still a)
      (λ t.
      let k = full_ack_of h.history b now h.rtt.mean h.latency w.lrsn in
      alike (after_ack h k.acked now).head.window (go k.acked)))
      (λ e z. still a)
    where
      go : (x : Result (Option Acked) FasnWorn) → (after_ack h x now).head.window ≡ w
      go (Ok None) = refl
      go (Ok (Some k)) = refl
      go (Err e) = refl

  pub ack2-stands : (b : List ℕ) (now : ℤ) (number : ℕ) → Alike (ack2_call_of h b now number).acked2.head.window
  unfolding ack2_call_of held_ack2
  ack2-stands b now number =
      by-refusal (λ (o : Ack2Outcome). Alike o.acked2.head.window) (first_refusal (timed_rules (head_ok h) (length b) 2048 now h.latest)) _ _
      (λ x z.
      let k = ack2_of h.history b now number in
      alike (after_ack2 h k now).head.window (go k))
      (λ e z. still a)
    where
      go : (x : Option Answered) → (after_ack2 h x now).head.window ≡ w
      go None = refl
      go (Some k) = refl

  pub clock-stands : (now : ℤ) (stamp : ℕ) → Alike (clock_call_of h now stamp).clocked.head.window
  unfolding clock_call_of sync_of
  clock-stands now stamp =
      by-refusal (λ (o : ClockOutcome). Alike o.clocked.head.window) (first_refusal (clock_rules (head_ok h) now h.latest)) _ _
      (λ x z.
      let k = synchronized h.clock now stamp in
      alike (after_sync h k now).head.window (go k))
      (λ e z. still a)
    where
      go : (x : Result Step DriftRange) → (after_sync h x now).head.window ≡ w
      go (Ok k) = refl
      go (Err e) = refl
