-- The calls for full ACKs and ACK2s: 01, "ACKs, RTT, rates", with refusals 1 to 4 and 13.
use Rattle.std.specs.Prelude.{cond, List, ℕ, eqb, ℤ, length, option_map, Option, Some, None, Result, Ok, Err}
use Rattle.acks.specs.History.{AckOutcome, full_ack_of, ack2_of}
use Rattle.intervals.specs.Rates.{speed_of, capacity_of}
use Rattle.acks.specs.Rtt.{updated}
use Rattle.acks.specs.declared.history.Acked.{Acked}
use Rattle.acks.specs.declared.history.Answered.{Answered}
use Rattle.acks.specs.declared.history.FasnWorn.{FasnWorn}
use Rattle.intervals.specs.declared.rates.Arrivals.{Arrivals}
use Rattle.intervals.specs.declared.rates.Links.{Links}
use Rattle.intervals.specs.declared.rates.Speed.{Speed}
use Rattle.acks.specs.declared.rtt.Rtt.{Rtt}
use Rattle.window.specs.Window.{room_of}
use Rattle.window.specs.declared.Window.{Window}
use Rattle.head.specs.Rules.{first_refusal, judged, timed_rules}
use Rattle.head.specs.Head.{head_ok}
use Rattle.head.specs.Parts.{with_rtt, with_history, with_latest}
use Rattle.head.specs.declared.refusal.Refusal.TheVariants as refusals
use Rattle.head.specs.declared.left.Left.{Left}
use Rattle.head.specs.declared.state.Head.{Head}
use Rattle.head.specs.Paper.{Line}
use Rattle.feedback.specs.Paper.{full_ack_line, rtt_line}
use Rattle.feedback.specs.declared.acking.FullAck.{FullAck}

-- what each call gives back: the head and the answer or the refusal
abbrev pub FullAcked : Type 0
FullAcked = Left (Option FullAck)

abbrev pub Ack2ed : Type 0
Ack2ed = Left (Option Rtt)

-- an ACK of this number with the head's figures: lrsn, the round trip, the room, packet_receive_rate, and
-- estimated_link_capacity, which carries bytes a second, and data_receive_rate, which carries the link figure
abbrev pub figures_of : ℕ → Window → Rtt → Arrivals → Links → FullAck
figures_of n w t a l =
    record {
      number = n;
      lrsn = w.lrsn;
      mean = t.mean;
      variance = t.variance;
      room = room_of w;
      packet_receive_rate = option_map (λ (s : Speed). s.packets) (speed_of a);
      estimated_link_capacity = option_map (λ (s : Speed). s.bytes) (speed_of a);
      data_receive_rate = capacity_of l;
    }

-- the history's answer as the call's; `none` moves the latest reading only, and on refusal 13 the head stays
abbrev pub after_ack : Head → Result (Option Acked) FasnWorn → ℤ → FullAcked
after_ack h (Ok None) now = record { head = with_latest h now; answer = Ok None }
after_ack h (Ok (Some k)) now =
    record { head = with_latest (with_history h k.history) now; answer = Ok (Some (figures_of k.number h.window h.rtt h.arrivals h.links)) }
after_ack h (Err _) now = record { head = h; answer = Err refusals.FasnWorn }

-- all that a full ACK leaves: the head and the answer, its line on paper, and the history area
pub record FullAckOutcome : Type 0 where
  pub acked : FullAcked
  pub line : Line
  pub area : List ℕ

abbrev pub full_ack_ended : FullAcked → List ℕ → FullAckOutcome
full_ack_ended r a = record { acked = r; line = full_ack_line r.answer; area = a }

-- a full ACK with room: what the history does, at this reading
abbrev pub of_history : Head → AckOutcome → ℤ → FullAckOutcome
of_history h o now = full_ack_ended (after_ack h o.acked now) o.area

unfoldable pub roomy_ack : Head → List ℕ → ℤ → FullAckOutcome
roomy_ack h a now = of_history h (full_ack_of h.history a now h.rtt.mean h.latency h.window.lrsn) now

-- none if there is no room
unfoldable pub due_ack : Head → List ℕ → ℤ → FullAckOutcome
due_ack h a now =
    cond (eqb (room_of h.window) 0) (full_ack_ended (record { head = with_latest h now; answer = Ok None }) a) (roomy_ack h a now)

unfoldable pub full_ack_call_of : Head → List ℕ → ℤ → FullAckOutcome
full_ack_call_of h a now =
    judged (first_refusal (timed_rules (head_ok h) (length a) 2048 now h.latest))
    (due_ack h a now)
    (λ e. full_ack_ended (record { head = h; answer = Err e }) a)

-- ACK2 of a held ACK: the history's new largest_ack2_dsn, and the round trip with the interval r; of another, `none`
abbrev pub after_ack2 : Head → Option Answered → ℤ → Ack2ed
after_ack2 h None now = record { head = with_latest h now; answer = Ok None }
after_ack2 h (Some k) now =
    record { head = with_latest (with_rtt (with_history h k.history) (updated h.rtt k.r)) now; answer = Ok (Some (updated h.rtt k.r)) }

unfoldable pub held_ack2 : Head → List ℕ → ℤ → ℕ → Ack2ed
held_ack2 h a now number = after_ack2 h (ack2_of h.history a now number) now

-- all that an ACK2 leaves: the head and the answer, and its line on paper
pub record Ack2Outcome : Type 0 where
  pub acked2 : Ack2ed
  pub line : Line

abbrev pub ack2_ended : Ack2ed → Ack2Outcome
ack2_ended r = record { acked2 = r; line = rtt_line r.answer }

unfoldable pub ack2_call_of : Head → List ℕ → ℤ → ℕ → Ack2Outcome
ack2_call_of h a now number =
    judged (first_refusal (timed_rules (head_ok h) (length a) 2048 now h.latest))
    (ack2_ended (held_ack2 h a now number))
    (λ e. ack2_ended (record { head = h; answer = Err e }))
