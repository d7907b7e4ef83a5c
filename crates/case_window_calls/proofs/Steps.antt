-- What the proofs of this program hand to `search`: from passed tests to what the window's calls require. Assumes nothing.
use mathlib.Core.Path.{◌≡◌, sym, ◌∙◌}
use mathlib.Core.Bool.{Bool, true, ◌&&◌}
use mathlib.Core.List.{List}
use Prim.Native.Nat.{ℕ, ◌/◌, ◌^◌, ◌≤◌}
use native.Mathlib.Omega.{arith}
use borrow.Author.Rules.{rules}
use borrow.Author.Tests.{leb-true, ltb-true}
use lib.Dec.{ltb}
use lib.IntN.{ℤ}
use lib.ListN.{length}
use Rattle.numbers.specs.Instants.{is_reading}
use Rattle.numbers.proofs.Flags.{and_left, and_right}
use Rattle.numbers.proofs.Signs.{widens}
use Rattle.clock.specs.Ranges.{clock_ok}
use Rattle.clock.proofs.Ranges.{ready}
use Rattle.clock.specs.declared.time.SynchronizedRemoteClock.{SynchronizedRemoteClock}
use Rattle.window.specs.Window.{window_ok}
use Rattle.window.specs.Ready.{Good, PacketRight}
use Rattle.window.specs.declared.Window.{Window}
use Rattle.window.specs.declared.push.Packet.{Packet}
use Rattle.window.proofs.Ranges.{in_window}
use Rattle.window_pop.specs.Ready.{PopReady}
use Rattle.case_window_calls.specs.Tests.{words_ok, bytes_ok, areas_ok, packet_ok}
use Rattle.case_window_calls.specs.Ready.{Tested}

good : (w : Window) (ws : List ℕ) → window_ok w ≡ true → words_ok w.capacity (length ws) ≡ true → Good w ws
good w ws e f = record { ranges = in_window w e; words = omega (arith, leb-true w.capacity (length ws / 3) f) }

-- by flags, as a program has them
pub good-by : {w : Window} {ws : List ℕ} {a b : Bool} → a ≡ window_ok w → a ≡ true → b ≡ words_ok w.capacity (length ws) → b ≡ true → Good w ws
good-by {w} {ws} p e q f = good w ws (sym p ∙ e) (sym q ∙ f)

pub tested-by : {w : Window} {ws bs : List ℕ} {a b : Bool}
    → a ≡ window_ok w → a ≡ true → b ≡ areas_ok w.capacity (length ws) (length bs) → b ≡ true → Tested w ws bs
tested-by {w} {ws} {bs} p e q f =
    let h = words_ok w.capacity (length ws) in
    let k = bytes_ok w.capacity (length bs) in
    record {
      good = good w ws (sym p ∙ e) (and_left h k (sym q ∙ f));
      payloads = omega (arith, leb-true w.capacity (length bs / 1456) (and_right h k (sym q ∙ f)));
    }

right : (p : Packet) (payload : List ℕ) → packet_ok p ≡ true → length payload ≤ 1456 → PacketRight p payload
right p payload e h =
    let a = ltb p.number (2 ^ 31) in
    let b = ltb p.message (2 ^ 26) in
    let c = ltb p.location 4 in
    let e2 = and_left (a && b) c e in
    record {
      number = ltb-true p.number (2 ^ 31) (and_left a b e2);
      message = ltb-true p.message (2 ^ 26) (and_right a b e2);
      location = ltb-true p.location 4 (and_right (a && b) c e);
      bytes = h;
    }

pub right_by : {p : Packet} {payload : List ℕ} {a : Bool} → a ≡ packet_ok p → a ≡ true → length payload ≤ 1456 → PacketRight p payload
right_by {p} {payload} q e h = right p payload (sym q ∙ e) h

pub reading-by : (z : ℤ) {b : Bool} → b ≡ is_reading z → b ≡ true → is_reading z ≡ true
reading-by z p e = sym p ∙ e

pub pop-by : {k : SynchronizedRemoteClock} {latency : ℕ} {w : Window} {ws bs : List ℕ} {now : ℤ} {a b : Bool}
    → Tested w ws bs → latency ≤ 65535000 → a ≡ clock_ok k → a ≡ true → b ≡ is_reading now → b ≡ true → PopReady k latency w ws bs now
pop-by {k} {latency} {w} {ws} {bs} {now} t l p e q f =
    let r = ready k now (sym p ∙ e) (sym q ∙ f) in
    record { good = t.good; payloads = t.payloads; reference = r.reference; reading = r.reading; setting = l }

pub ruleset steps = (widens, good-by, tested-by, right_by, reading-by, pop-by, rules)
