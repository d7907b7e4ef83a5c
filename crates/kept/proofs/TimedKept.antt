-- The calls with a reading keep the head in range, so no run from new is ever refused 1: 01, "Refused". Assumes nothing.
use mathlib.Core.Path.{◌≡◌, refl, sym}
use mathlib.Core.Bool.{true}
use mathlib.Core.List.{List}
use Prim.Native.Nat.{ℕ, ◌<◌, ◌^◌}
use borrow.Author.Tests.{not-false}
use lib.Dec.{eqb}
use lib.IntN.{ℤ}
use lib.ListN.{length}
use Rattle.std.specs.Prelude.{Option, Some, None, Result, Ok, Err, IfOk}
use Rattle.numbers.specs.Instants.{is_reading}
use Rattle.numbers.proofs.Flags.{by-test}
use Rattle.clock.specs.Sync.{synchronized}
use Rattle.clock.specs.Ranges.{clock_ok}
use Rattle.clock.specs.declared.time.SynchronizedRemoteClock.{SynchronizedRemoteClock}
use Rattle.clock.specs.declared.base.DriftRange.{DriftRange}
use Rattle.clock.specs.declared.time.Step.{Step}
use Rattle.clock.proofs.Kept.{synchronized-kept}
use Rattle.acks.specs.Rtt.{rtt_ok, updated}
use Rattle.acks.specs.History.{full_ack_of, ack2_of, history_ok}
use Rattle.acks.specs.declared.history.History.{History}
use Rattle.acks.specs.declared.history.Acked.{Acked}
use Rattle.acks.specs.declared.history.FasnWorn.{FasnWorn}
use Rattle.acks.specs.declared.history.Answered.{Answered}
use Rattle.acks.specs.declared.rtt.Rtt.{Rtt}
use Rattle.acks.proofs.HistoryKept as histories
use Rattle.acks.proofs.RttKept.{updated-kept}
use Rattle.window.specs.Window.{room_of, window_ok}
use Rattle.window.specs.declared.Window.{Window}
use Rattle.window_pop.specs.Pop.{PopOutcome, window_after, clock_after, pop_of}
use Rattle.window_pop.specs.declared.pop.Popped.{Popped}
use Rattle.window_pop.specs.declared.pop.OutShort.{OutShort}
use Rattle.window_pop.proofs.PopLaws.{pop-good, pop-clock}
use Rattle.head.specs.Rules.{first_refusal, pop_rules, timed_rules, clock_rules}
use Rattle.head.specs.Head.{head_ok}
use Rattle.head.specs.Parts.{with_rtt, with_history, with_latest}
use Rattle.head.specs.declared.state.Head.{Head}
use Rattle.head.proofs.Gates.{clear, by-refusal}
use Rattle.head.specs.Ready.{InRange}
use Rattle.head.proofs.Ready.{in_parts, timed-ready, clock-ready, pop-ready}
use Rattle.window.proofs.Ranges.{in_window, from-window}
use Rattle.feedback.specs.Acking.{after_ack, FullAckOutcome, roomy_ack, due_ack, full_ack_call_of, after_ack2, held_ack2, Ack2Outcome, ack2_call_of}
use Rattle.receiver.specs.Message.{MessageOutcome, popped_of, head_after, taken_of, pop_call_of}
use Rattle.feedback.specs.Sync.{after_sync, sync_of, ClockOutcome, clock_call_of}
use Rattle.kept.proofs.Parts.{from_parts}

-- the head with other parts in range, and a reading as its latest
module _ (h : Head) (now : ℤ) (i : InRange h) (r : is_reading now ≡ true) where
  rtt-set : (y : History) (t : Rtt) → history_ok y ≡ true → rtt_ok t ≡ true → head_ok (with_latest (with_rtt (with_history h y) t) now) ≡ true
  rtt-set y t e f =
      from_parts (with_latest (with_rtt (with_history h y) t) now)
      (record {
        window = i.window;
        latency = i.latency;
        clock = i.clock;
        rtt = f;
        arrivals = i.arrivals;
        links = i.links;
        history = e;
        latest = r;
      })

  pop-set : (w : Window) (k : SynchronizedRemoteClock) → window_ok w ≡ true → clock_ok k ≡ true → head_ok (popped_of h w k now) ≡ true
  pop-set w k e f =
      from_parts (popped_of h w k now)
      (record {
        window = e;
        latency = i.latency;
        clock = f;
        rtt = i.rtt;
        arrivals = i.arrivals;
        links = i.links;
        history = i.history;
        latest = r;
      })

  -- an ACK2: of a held ACK, r is under 2^31
  after-ack2 : (x : Option Answered) → ((k : Answered) → x ≡ Some k → history_ok k.history ≡ true) → ((k : Answered) → x ≡ Some k → k.r < 2 ^ 31) → head_ok (after_ack2 h x now).head ≡ true
  after-ack2 None e f = rtt-set h.history h.rtt i.history i.rtt
  after-ack2 (Some k) e f = rtt-set k.history (updated h.rtt k.r) (e k refl) (updated-kept h.rtt k.r i.rtt (f k refl))

  -- a full ACK: on refusal 13 the head stays
  after-ack : (x : Result (Option Acked) FasnWorn) → head_ok h ≡ true → ((k : Acked) → x ≡ Ok (Some k) → history_ok k.history ≡ true) → head_ok (after_ack h x now).head ≡ true
  after-ack (Ok None) o e = rtt-set h.history h.rtt i.history i.rtt
  after-ack (Ok (Some k)) o e = rtt-set k.history h.rtt (e k refl) i.rtt
  after-ack (Err worn) o e = o

  -- the clock call: on refusal 14 the head stays
  after-sync : (x : Result Step DriftRange) → head_ok h ≡ true → IfOk x (λ s. clock_ok s.clock ≡ true) → head_ok (after_sync h x now).head ≡ true
  after-sync (Ok s) o e = pop-set h.window s.clock i.window e
  after-sync (Err drift) o e = o

  -- a pop: on refusal 11 the head stays
  after-pop : (x : Result Popped OutShort) → head_ok h ≡ true → window_ok (window_after h.window x) ≡ true → clock_ok (clock_after h.clock x) ≡ true → head_ok (head_after h x now) ≡ true
  after-pop (Ok p) o e f = pop-set p.window p.clock e f
  after-pop (Err short) o e f = o

pub ack2-kept : (h : Head) (a : List ℕ) (now : ℤ) (number : ℕ) → head_ok h ≡ true → head_ok (ack2_call_of h a now number).acked2.head ≡ true
unfolding ack2_call_of held_ack2
ack2-kept h a now number o =
    by-refusal (λ (x : Ack2Outcome). head_ok x.acked2.head ≡ true) (first_refusal (timed_rules (head_ok h) (length a) 2048 now h.latest)) _ _
    (λ x z.
    let t = (timed-ready h now (length a) 2048 (sym z)).0 in
    after-ack2 h now t.head t.reading (ack2_of h.history a now number)
    (λ k e. histories.ack2-kept h.history t.head.history a now number e)
    (λ k e. histories.ack2-small h.history a now number e))
    (λ e z. o)

pub full-ack-kept : (h : Head) (a : List ℕ) (now : ℤ) → head_ok h ≡ true → head_ok (full_ack_call_of h a now).acked.head ≡ true
unfolding full_ack_call_of due_ack roomy_ack
full-ack-kept h a now o =
    by-refusal (λ (x : FullAckOutcome). head_ok x.acked.head ≡ true) (first_refusal (timed_rules (head_ok h) (length a) 2048 now h.latest)) _ _
    (λ x z.
    let t = (timed-ready h now (length a) 2048 (sym z)).0 in
    let w = in_window h.window t.head.window in
    by-test (λ (x : FullAckOutcome). head_ok x.acked.head ≡ true) (eqb (room_of h.window) 0) _ _
    (λ u. rtt-set h now t.head t.reading h.history h.rtt t.head.history t.head.rtt)
    (λ u.
    after-ack h now t.head t.reading (full_ack_of h.history a now h.rtt.mean h.latency h.window.lrsn).acked o
    (λ k e. histories.full-ack-kept h.history t.head.history a now h.rtt.mean h.latency h.window.lrsn w.lrsn e)))
    (λ e z. o)

pub clock-kept : (h : Head) (now : ℤ) (stamp : ℕ) → head_ok h ≡ true → head_ok (clock_call_of h now stamp).clocked.head ≡ true
unfolding clock_call_of sync_of
clock-kept h now stamp o =
    by-refusal (λ (x : ClockOutcome). head_ok x.clocked.head ≡ true) (first_refusal (clock_rules (head_ok h) now h.latest)) _ _
    (λ x z.
    let t = clock-ready h now (sym z) in
    after-sync h now t.head t.reading (synchronized h.clock now stamp) o (synchronized-kept h.clock now stamp t.head.clock))
    (λ e z. o)

pub message-kept : (h : Head) (ws bs out : List ℕ) (now : ℤ) → head_ok h ≡ true → head_ok (pop_call_of h ws bs out now).given.head ≡ true
unfolding pop_call_of taken_of
message-kept h ws bs out now o =
    let l = pop_rules (head_ok h) h.window.capacity (length ws) (length bs) now h.latest in
    by-refusal (λ (x : MessageOutcome). head_ok x.given.head ≡ true) (first_refusal l) _ _
    (λ x z.
    let c = clear l (sym z) in
    let i = in_parts h o in
    let p : PopOutcome = pop_of h.clock h.latency h.dropping h.window ws now bs out in
    let g = pop-good h.clock h.latency h.dropping h.window ws now bs out (pop-ready h now ws bs (sym z)).good in
    after-pop h now i (not-false (is_reading now) c.1.1.1.0) p.popped o
    (from-window (window_after h.window p.popped) g.ranges)
    (pop-clock h.clock h.latency h.dropping h.window ws now bs out i.clock))
    (λ e z. o)
