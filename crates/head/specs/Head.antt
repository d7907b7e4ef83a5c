-- The head and its ranges: 01, "Head and lent areas".
use Rattle.std.specs.Prelude.{Bool, false, ◌&&◌, ℕ, leb, ℤ, pos, Result, Ok, Err}
use Rattle.numbers.specs.Instants.{is_reading}
use Rattle.clock.specs.Sync.{fresh_clock}
use Rattle.clock.specs.Ranges.{clock_ok}
use Rattle.acks.specs.Rtt.{fresh_rtt, rtt_ok}
use Rattle.intervals.specs.Rates.{fresh_arrivals, fresh_links, arrivals_ok, links_ok}
use Rattle.acks.specs.History.{fresh_history, history_ok}
use Rattle.window.specs.Window.{window_ok}
use Rattle.head.specs.Rules.{first_refusal, judged, make_rules}
use Rattle.head.specs.declared.refusal.Refusal.{Refusal}
use Rattle.head.specs.declared.state.Head.{Head}

-- every head number is in its range; flags and the two f64 have none
unfoldable pub head_ok : Head → Bool
head_ok h =
    window_ok h.window
    && leb h.latency 65535000
    && clock_ok h.clock
    && rtt_ok h.rtt
    && arrivals_ok h.arrivals
    && links_ok h.links
    && history_ok h.history
    && is_reading h.latest

-- fresh: starts, counts, sums 0; optional times unset; ACK number 1; sequence numbers the first
unfoldable pub fresh_head : ℤ → ℕ → Bool → ℕ → ℕ → Head
fresh_head start latency dropping first capacity =
    record {
      window = record { capacity = capacity; start = 0; held = 0; seqno0 = first; lrsn = first };
      latency = latency;
      dropping = dropping;
      clock = fresh_clock start;
      rtt = fresh_rtt;
      arrivals = fresh_arrivals;
      links = fresh_links;
      history = fresh_history first;
      latest = start;
    }

-- a head of capacity 0, which is out of range, so that each call refuses it with 1
abbrev pub nowhere : Head
nowhere = fresh_head (pos 0) 0 false 0 0

-- the head of a making; where that is refused there is none, and this one stands where a caller must have one
abbrev pub head_made : Result Head Refusal → Head
head_made (Ok h) = h
head_made (Err e) = nowhere

-- making: the fresh head, or refusal 15
unfoldable pub made_of : ℤ → ℕ → Bool → ℕ → ℕ → Result Head Refusal
made_of start latency dropping first capacity =
    judged (first_refusal (make_rules start latency first capacity)) (Ok (fresh_head start latency dropping first capacity)) (λ e. Err e)
