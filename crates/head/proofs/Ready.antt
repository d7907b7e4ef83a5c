-- What a head in range, and a call that nothing refused, have shown: the facts that the layers below ask for. Assumes nothing.
use mathlib.Core.Path.{◌≡◌}
use mathlib.Core.Bool.{true, ◌&&◌}
use mathlib.Core.List.{List}
use Prim.Native.Nat.{ℕ, ◌*◌, ◌^◌, ◌≤◌}
use borrow.Author.Tests.{leb-true, leb-false, ltb-false, not-false}
use lib.Dec.{leb}
use lib.IntN.{ℤ}
use lib.ListN.{length}
use Rattle.std.specs.Prelude.{Ok}
use Rattle.numbers.specs.Instants.{is_reading}
use Rattle.numbers.proofs.Flags.{and_left, and_right}
use Rattle.clock.specs.Ranges.{clock_ok}
use Rattle.clock.proofs.Ranges.{ready}
use Rattle.acks.specs.Rtt.{rtt_ok}
use Rattle.intervals.specs.Rates.{arrivals_ok, links_ok}
use Rattle.acks.specs.History.{history_ok}
use Rattle.window.specs.Ready.{Good}
use Rattle.window.specs.Window.{window_ok}
use Rattle.window.specs.declared.Window.{Window}
use Rattle.window.specs.declared.push.Packet.{Packet}
use Rattle.window.proofs.Ranges.{in_window}
use Rattle.window_pop.specs.Ready.{PopReady}
use Rattle.head.specs.Rules.{first_refusal, push_rules, pop_rules, timed_rules, drop_rules, show_rules, clock_rules, head_rules}
use Rattle.head.specs.Head.{head_ok}
use Rattle.head.specs.Ready.{InRange, Timed, PushReady}
use Rattle.head.specs.declared.state.Head.{Head}
use Rattle.head.proofs.Gates.{clear}

-- the parts of a head in range
pub in_parts : (h : Head) → head_ok h ≡ true → InRange h
unfolding head_ok
in_parts h e =
    let a = window_ok h.window in
    let b = leb h.latency 65535000 in
    let c = clock_ok h.clock in
    let d = rtt_ok h.rtt in
    let f = arrivals_ok h.arrivals in
    let g = links_ok h.links in
    let i = history_ok h.history in
    let e7 = and_left (a && b && c && d && f && g && i) _ e in
    let e6 = and_left (a && b && c && d && f && g) _ e7 in
    let e5 = and_left (a && b && c && d && f) _ e6 in
    let e4 = and_left (a && b && c && d) _ e5 in
    let e3 = and_left (a && b && c) _ e4 in
    let e2 = and_left (a && b) _ e3 in
    record {
      window = and_left a _ e2;
      latency = leb-true h.latency 65535000 (and_right a _ e2);
      clock = and_right (a && b) _ e3;
      rtt = and_right (a && b && c) _ e4;
      arrivals = and_right (a && b && c && d) _ e5;
      links = and_right (a && b && c && d && f) _ e6;
      history = and_right (a && b && c && d && f && g) _ e7;
      latest = and_right (a && b && c && d && f && g && i) _ e;
    }

pub good : (w : Window) (ws : List ℕ) → window_ok w ≡ true → 3 * w.capacity ≤ length ws → Good w ws
good w ws e h = record { ranges = in_window w e; words = h }

pub head-ready : (h : Head) {x : Unit} → Ok x ≡ first_refusal (head_rules (head_ok h)) → InRange h
head-ready h e = let c = clear (head_rules (head_ok h)) e in in_parts h (not-false (head_ok h) c.0)

module _ (h : Head) (now : ℤ) where
  pub clock-ready : {x : Unit} → Ok x ≡ first_refusal (clock_rules (head_ok h) now h.latest) → Timed h now
  clock-ready e =
      let c = clear (clock_rules (head_ok h) now h.latest) e in
      record { head = in_parts h (not-false (head_ok h) c.0); reading = not-false (is_reading now) c.1.0; later = c.1.1.0 }

  pub timed-ready : (len need : ℕ) {x : Unit} → Ok x ≡ first_refusal (timed_rules (head_ok h) len need now h.latest) → Timed h now × (need ≤ len)
  timed-ready len need e =
      let c = clear (timed_rules (head_ok h) len need now h.latest) e in
      (record { head = in_parts h (not-false (head_ok h) c.0); reading = not-false (is_reading now) c.1.1.0; later = c.1.1.1.0 }, ltb-false len need c.1.0)

  pub pop-ready : (ws bs : List ℕ) {x : Unit} → Ok x ≡ first_refusal (pop_rules (head_ok h) h.window.capacity (length ws) (length bs) now h.latest) → PopReady h.clock h.latency h.window ws bs now
  pop-ready ws bs e =
      let c = clear (pop_rules (head_ok h) h.window.capacity (length ws) (length bs) now h.latest) e in
      let r = in_parts h (not-false (head_ok h) c.0) in
      let k = ready h.clock now r.clock (not-false (is_reading now) c.1.1.1.0) in
      record {
        good = good h.window ws r.window (ltb-false (length ws) (3 * h.window.capacity) c.1.0);
        payloads = ltb-false (length bs) (1456 * h.window.capacity) c.1.1.0;
        reference = k.reference;
        reading = k.reading;
        setting = r.latency;
      }

-- a push that nothing refused
pub push-ready : (h : Head) (ws bs : List ℕ) (now : ℤ) (p : Packet) (payload : List ℕ) {x : Unit}
    → Ok x ≡ first_refusal (push_rules (head_ok h) h.window.capacity (length ws) (length bs) now h.latest p (length payload)) → PushReady h ws bs now p payload
push-ready h ws bs now p payload e =
    let c = clear (push_rules (head_ok h) h.window.capacity (length ws) (length bs) now h.latest p (length payload)) e in
    let r = in_parts h (not-false (head_ok h) c.0) in
    record {
      head = r;
      reading = not-false (is_reading now) c.1.1.1.0;
      good = good h.window ws r.window (ltb-false (length ws) (3 * h.window.capacity) c.1.0);
      payloads = ltb-false (length bs) (1456 * h.window.capacity) c.1.1.0;
      right = record {
        number = leb-false (2 ^ 31) p.number c.1.1.1.1.1.0;
        message = leb-false (2 ^ 26) p.message c.1.1.1.1.1.1.0;
        location = leb-false 4 p.location c.1.1.1.1.1.1.1.0;
        bytes = ltb-false 1456 (length payload) c.1.1.1.1.1.1.1.1.0;
      };
    }

-- a drop request and a show that nothing refused
pub drop-ready : (h : Head) (ws : List ℕ) (first last : ℕ) {x : Unit} → Ok x ≡ first_refusal (drop_rules (head_ok h) h.window.capacity (length ws) first last) → Good h.window ws
drop-ready h ws first last b =
    let c = clear (drop_rules (head_ok h) h.window.capacity (length ws) first last) b in
    let r = in_parts h (not-false (head_ok h) c.0) in
    good h.window ws r.window (ltb-false (length ws) (3 * h.window.capacity) c.1.0)

module _ (h : Head) (ws : List ℕ) (bytes number : ℕ) {x : Unit} (b : Ok x ≡ first_refusal (show_rules (head_ok h) h.window.capacity (length ws) bytes number)) where
  pub show-ready : Good h.window ws
  show-ready =
      let c = clear (show_rules (head_ok h) h.window.capacity (length ws) bytes number) b in
      let r = in_parts h (not-false (head_ok h) c.0) in
      good h.window ws r.window (ltb-false (length ws) (3 * h.window.capacity) c.1.0)

  pub show-bytes : 1456 * h.window.capacity ≤ bytes
  show-bytes =
      let c = clear (show_rules (head_ok h) h.window.capacity (length ws) bytes number) b in
      ltb-false bytes (1456 * h.window.capacity) c.1.1.0
