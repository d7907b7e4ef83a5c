-- New gives a head in range unless it refuses; a data packet, a loss report and clear keep it there: 01, "Head and lent areas", so no run from new is ever refused 1. Assumes nothing.
use mathlib.Core.Path.{◌≡◌, sym}
use mathlib.Core.Bool.{Bool, true, cond}
use mathlib.Core.List.{List}
use Prim.Native.Nat.{ℕ, ◌*◌, ◌^◌, ◌<◌, ◌≤◌}
use native.Mathlib.Omega.{arith}
use borrow.Author.Tests.{leb-false, ltb-false, not-false}
use lib.IntN.{ℤ}
use lib.ListN.{length}
use Rattle.std.specs.Prelude.{Option, Some, None, Result, Ok, Err, unwrap_or, IfOk}
use Rattle.std.proofs.lemmas.Result.{IfOk-at_ok}
use Rattle.numbers.specs.Instants.{is_reading}
use Rattle.numbers.proofs.Flags.{by-test}
use Rattle.clock.proofs.Kept.{fresh_ok}
use Rattle.acks.proofs.RttKept.{fresh-rtt-ok}
use Rattle.intervals.proofs.RateKept.{fresh-arrivals-ok, fresh-links-ok, arrival-kept, link-kept}
use Rattle.acks.specs.History.{light_ack_of, history_ok}
use Rattle.acks.specs.declared.history.History.{History}
use Rattle.acks.proofs.HistoryKept as history
use Rattle.window.specs.Push.{window_after, push_of}
use Rattle.window.specs.declared.Window.{Window}
use Rattle.window.specs.declared.push.Packet.{Packet}
use Rattle.window.specs.declared.push.Pushed.{Pushed}
use Rattle.window.specs.declared.push.PushRefusal.{PushRefusal}
use Rattle.window.specs.declared.push.PushAnswer.{PushAnswer}
use Rattle.window.specs.declared.push.PushAnswer.TheVariants as pushes
use Rattle.views.proofs.PushKeeps.{push_kept}
use Rattle.window_report.specs.Report.{report_of}
use Rattle.window_report.specs.declared.report.ListShort.{ListShort}
use Rattle.head.specs.Rules.{first_refusal, make_rules, push_rules, timed_rules, head_rules}
use Rattle.head.specs.Head.{head_ok, fresh_head, made_of}
use Rattle.window.specs.Window.{window_ok}
use Rattle.head.specs.Parts.{with_latest}
use Rattle.head.specs.declared.state.Head.{Head}
use Rattle.head.specs.declared.refusal.Refusal.{Refusal}
use Rattle.head.proofs.Gates.{clear, by-refusal}
use Rattle.head.specs.Ready.{InRange, PushReady}
use Rattle.head.proofs.Ready.{in_parts, timed-ready, push-ready}
use Rattle.window.proofs.Ranges.{in_window, from-window}
use Rattle.receiver.specs.Data.{DataOutcome, placed_of, light_or_got, acked_of, rated_of, got_of, after_taken, after_push, taken_of, data_call_of}
use Rattle.feedback.specs.Loss.{LossOutcome, head_after, reported_of, report_call_of}
use Rattle.upkeep.specs.Request.{ClearOutcome, cleared_of, clear_call_of}
use Rattle.kept.proofs.Parts.{from_parts}
use Rattle.kept.proofs.Says.{Says, PushSays, push-says}

-- making, whatever the settings that it takes
module _ (start : ℤ) (latency : ℕ) (dropping : Bool) (first capacity : ℕ) where
  fresh_in : is_reading start ≡ true → latency ≤ 65535000 → first < 2 ^ 31 → 0 < capacity → capacity ≤ 8192 → head_ok (fresh_head start latency dropping first capacity) ≡ true
  unfolding fresh_head
  fresh_in s l f c m =
      from_parts (fresh_head start latency dropping first capacity)
      (record {
        window = from-window (fresh_head start latency dropping first capacity).window (record { some = c; most = m; starts = c; holds = omega arith; seqno0 = f; lrsn = f });
        latency = l;
        clock = fresh_ok start s;
        rtt = fresh-rtt-ok;
        arrivals = fresh-arrivals-ok;
        links = fresh-links-ok;
        history = history.fresh-history-ok first f;
        latest = s;
      })

  pub made-ok : IfOk (made_of start latency dropping first capacity) (λ h. head_ok h ≡ true)
  unfolding made_of
  made-ok =
      by-refusal (λ (m : Result Head Refusal). IfOk m (λ h. head_ok h ≡ true)) (first_refusal (make_rules start latency first capacity)) _ _
      (λ x z.
      let c = clear (make_rules start latency first capacity) (sym z) in
      fresh_in (not-false (is_reading start) c.0) (ltb-false 65535000 latency c.1.0) (leb-false (2 ^ 31) first c.1.1.0) (ltb-false capacity 1 c.1.1.1.0) (ltb-false 8192 capacity c.1.1.1.1.0))
      (λ e z. tt)

  pub made_kept : {h : Head} → made_of start latency dropping first capacity ≡ Ok h → head_ok h ≡ true
  made_kept e = IfOk-at_ok (λ h. head_ok h ≡ true) e made-ok

-- clear
pub cleared-kept : (h : Head) → head_ok h ≡ true → head_ok (clear_call_of h).cleared.head ≡ true
unfolding clear_call_of cleared_of
cleared-kept h e =
    by-refusal (λ (o : ClearOutcome). head_ok o.cleared.head ≡ true) (first_refusal (head_rules (head_ok h))) _ _
    (λ x z.
    let r = in_parts h e in
    let w = in_window h.window r.window in
    from_parts (cleared_of h)
    (record {
      window = from-window (cleared_of h).window (record { some = w.some; most = w.most; starts = w.starts; holds = omega arith; seqno0 = w.seqno0; lrsn = w.lrsn });
      latency = r.latency;
      clock = r.clock;
      rtt = r.rtt;
      arrivals = r.arrivals;
      links = r.links;
      history = history.cleared-kept h.history r.history h.window.lrsn w.lrsn;
      latest = r.latest;
    }))
    (λ f z. e)

-- a loss report
latest-kept : (h : Head) (now : ℤ) → InRange h → is_reading now ≡ true → head_ok (with_latest h now) ≡ true
latest-kept h now r n =
    from_parts (with_latest h now)
    (record { window = r.window; latency = r.latency; clock = r.clock; rtt = r.rtt; arrivals = r.arrivals; links = r.links; history = r.history; latest = n })

pub loss-kept : (h : Head) (ws list : List ℕ) (now : ℤ) → head_ok h ≡ true → head_ok (report_call_of h ws list now).reported.head ≡ true
unfolding report_call_of reported_of
loss-kept h ws list now e =
    by-refusal (λ (o : LossOutcome). head_ok o.reported.head ≡ true) (first_refusal (timed_rules (head_ok h) (length ws) (3 * h.window.capacity) now h.latest)) _ _
    (λ x z. go (timed-ready h now (length ws) (3 * h.window.capacity) (sym z)).0.reading (report_of h.window ws now h.rtt.mean list).answer)
    (λ f z. e)
  where
    go : is_reading now ≡ true → (a : Result (Option ℕ) ListShort) → head_ok (head_after h a now) ≡ true
    go n (Ok words) = latest-kept h now (in_parts h e) n
    go n (Err short) = e

-- a data packet: the parts of the head that change, one after the other
module _ (h : Head) (r : InRange h) where
  window-in : (w : Window) (now : ℤ) → window_ok w ≡ true → is_reading now ≡ true → InRange (placed_of h w now)
  window-in w now i n =
      record { window = i; latency = r.latency; clock = r.clock; rtt = r.rtt; arrivals = r.arrivals; links = r.links; history = r.history; latest = n }

  rated-in : (now : ℤ) (number size : ℕ) → is_reading now ≡ true → size ≤ 1456 → InRange (rated_of h now number size)
  unfolding rated_of
  rated-in now number size n s =
      record {
        window = r.window;
        latency = r.latency;
        clock = r.clock;
        rtt = r.rtt;
        arrivals = arrival-kept h.arrivals now size r.arrivals n s;
        links = link-kept h.links now number r.links n;
        history = r.history;
        latest = r.latest;
      }

  light-in : (lrsn : ℕ) (recovered : Bool) (y : Option History) → history_ok (unwrap_or y h.history) ≡ true → InRange (light_or_got h lrsn recovered y).head
  light-in lrsn recovered (Some y) e =
      record { window = r.window; latency = r.latency; clock = r.clock; rtt = r.rtt; arrivals = r.arrivals; links = r.links; history = e; latest = r.latest }
  light-in lrsn recovered None e = r

  acked-in : (lrsn : ℕ) (recovered : Bool) → lrsn < 2 ^ 31 → InRange (acked_of h lrsn recovered).head
  unfolding acked_of
  acked-in lrsn recovered l = light-in lrsn recovered (light_ack_of h.history lrsn) (history.after-light-kept h.history r.history lrsn l)

module _ (h : Head) (r : InRange h) (now : ℤ) (n : is_reading now ≡ true) (number size : ℕ) (s : size ≤ 1456) where
  got-in : (w : Window) → window_ok w ≡ true → (lrsn : ℕ) (recovered : Bool) → lrsn < 2 ^ 31 → InRange (got_of h w lrsn recovered now number size).head
  unfolding got_of
  got-in w i lrsn recovered l =
      acked-in (placed_of (cond recovered h (rated_of h now number size)) w now)
      (window-in (cond recovered h (rated_of h now number size))
      (by-test InRange recovered h (rated_of h now number size) (λ t. r) (λ t. rated-in h r now number size n s))
      w now i n)
      lrsn recovered l

  after-in : (w : Window) → window_ok w ≡ true → (a : PushAnswer) → Says w.lrsn a → InRange (after_taken h w a now number size).head
  after-in w i (pushes.Got lrsn recovered) l = got-in w i lrsn recovered (rw l (in_window w i).lrsn)
  after-in w i (pushes.Loss first last) l = window-in h r w now i n

  pushed-in : (u : Result Pushed PushRefusal) → window_ok (window_after h.window u) ≡ true → PushSays u → InRange (after_push h u now number size).head
  pushed-in (Ok u) i l = after-in u.window i u.answer l
  pushed-in (Err e) i l = r

module _ (h : Head) (ws bs : List ℕ) (now : ℤ) (p : Packet) (payload : List ℕ) where
  taken_in : PushReady h ws bs now p payload → InRange (taken_of h ws bs now p payload).handled.head
  unfolding taken_of
  taken_in d =
      let o = push_of h.window ws bs now p payload in
      let g = (push_kept h.window ws bs now p payload d.good d.payloads d.right).0 in
      pushed-in h d.head now d.reading p.number (length payload) d.right.bytes o.pushed (from-window (window_after h.window o.pushed) g.ranges)
      (push-says h.window ws bs now p payload)

  pub data-kept : head_ok h ≡ true → head_ok (data_call_of h ws bs now p payload).handled.head ≡ true
  unfolding data_call_of
  data-kept e =
      by-refusal (λ (o : DataOutcome). head_ok o.handled.head ≡ true)
      (first_refusal (push_rules (head_ok h) h.window.capacity (length ws) (length bs) now h.latest p (length payload))) _ _
      (λ x z. from_parts (taken_of h ws bs now p payload).handled.head (taken_in (push-ready h ws bs now p payload (sym z))))
      (λ f z. e)
