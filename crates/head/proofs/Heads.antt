-- What the code of state.rt does at each return, and what a head in range has shown. Assumes nothing.
use mathlib.Core.Path.{◌≡◌, sym, ◌∙◌, ap}
use mathlib.Core.Bool.{Bool, false, ◌&&◌}
use Prim.Native.Nat.{ℕ}
use borrow.Author.Rules.{rules}
use lib.Dec.{leb}
use lib.IntN.{ℤ}
use Rattle.std.specs.Prelude.{Result, Ok, Err}
use Rattle.numbers.specs.Instants.{is_reading}
use Rattle.clock.specs.Sync.{fresh_clock}
use Rattle.clock.specs.Ranges.{clock_ok}
use Rattle.clock.specs.declared.time.SynchronizedRemoteClock.{SynchronizedRemoteClock}
use Rattle.acks.specs.Rtt.{fresh_rtt, rtt_ok}
use Rattle.intervals.specs.Rates.{fresh_arrivals, fresh_links, arrivals_ok, links_ok}
use Rattle.acks.specs.History.{fresh_history, history_ok}
use Rattle.acks.specs.declared.rtt.Rtt.{Rtt}
use Rattle.intervals.specs.declared.rates.Arrivals.{Arrivals}
use Rattle.intervals.specs.declared.rates.Links.{Links}
use Rattle.acks.specs.declared.history.History.{History}
use Rattle.head.specs.Rules.{first_refusal, make_rules}
use Rattle.head.specs.Head.{head_ok, fresh_head, nowhere, made_of}
use Rattle.window.specs.Window.{window_ok}
use Rattle.head.specs.declared.refusal.Refusal.{Refusal}
use Rattle.head.specs.declared.state.Head.{Head}
use Rattle.head.proofs.Gates.{taken, refused}

-- Head::fresh, Head::new
pub fresh-head : (start : ℤ) (latency : ℕ) (dropping : Bool) (first capacity : ℕ)
    {s s₁ : ℤ} {k : SynchronizedRemoteClock} {t : Rtt} {a : Arrivals} {l : Links} {y : History}
    → k ≡ fresh_clock s → s ≡ start → t ≡ fresh_rtt → a ≡ fresh_arrivals → l ≡ fresh_links → y ≡ fresh_history first → s₁ ≡ start
    → ◌≡◌ {A = Head} (record { window = record { capacity = capacity; start = 0; held = 0; seqno0 = first; lrsn = first }; latency = latency; dropping = dropping; clock = k; rtt = t; arrivals = a; links = l; history = y; latest = s₁ }) (fresh_head start latency dropping first capacity)
unfolding fresh_head
fresh-head start latency dropping first capacity a b c d e f g = rw (a, b, c, d, e, f, g)

pub made : (start : ℤ) (latency : ℕ) (dropping : Bool) (first capacity : ℕ) {s s₁ : ℤ} {x : Unit} {h : Head}
    → Ok x ≡ first_refusal (make_rules s latency first capacity) → s ≡ start → h ≡ fresh_head s₁ latency dropping first capacity → s₁ ≡ start
    → ◌≡◌ {A = Result Head Refusal} (Ok h) (made_of start latency dropping first capacity)
unfolding made_of
made start latency dropping first capacity a b c d =
    rw (c, d)
    (sym (taken (Ok (fresh_head start latency dropping first capacity)) (λ e. Err e) (a ∙ ap (λ (z : ℤ). first_refusal (make_rules z latency first capacity)) b)))

pub not_made : (start : ℤ) (latency : ℕ) (dropping : Bool) (first capacity : ℕ) {s : ℤ} {e : Refusal}
    → Err e ≡ first_refusal (make_rules s latency first capacity) → s ≡ start
    → ◌≡◌ {A = Result Head Refusal} (Err e) (made_of start latency dropping first capacity)
unfolding made_of
not_made start latency dropping first capacity a b =
    sym (refused (Ok (fresh_head start latency dropping first capacity)) (λ e. Err e) (a ∙ ap (λ (z : ℤ). first_refusal (make_rules z latency first capacity)) b))

-- Head::nowhere
pub nowhere-bad : {h : Head} → h ≡ nowhere → head_ok h ≡ false
unfolding head_ok fresh_head
nowhere-bad e = rw e

-- Head::in_range
pub in-range : (h : Head) {a b c d e f g : Bool} {z : ℤ}
    → a ≡ window_ok h.window → b ≡ clock_ok h.clock → c ≡ rtt_ok h.rtt → d ≡ arrivals_ok h.arrivals → e ≡ links_ok h.links → f ≡ history_ok h.history
    → g ≡ is_reading z → z ≡ h.latest
    → (a && leb h.latency 65535000 && b && c && d && e && f && g) ≡ head_ok h
unfolding head_ok
in-range h a b c d e f g i = rw (a, b, c, d, e, f, g, i)

pub ruleset heads = (fresh-head, made, not_made, nowhere-bad, in-range, rules)
