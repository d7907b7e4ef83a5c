-- A data packet: 01, "Window" with refusals 1 to 10, and of "ACKs, RTT, rates" what a push does.
use Rattle.std.specs.Prelude.{Bool, cond, List, ℕ, ℤ, length, Option, Some, None, Result, Ok, Err}
use Rattle.intervals.specs.Rates.{arrival_of, link_of}
use Rattle.acks.specs.History.{light_ack_of}
use Rattle.acks.specs.declared.history.History.{History}
use Rattle.window.specs.Push.{push_of}
use Rattle.window.specs.declared.Window.{Window}
use Rattle.window.specs.declared.push.Packet.{Packet}
use Rattle.window.specs.declared.push.Pushed.{Pushed}
use Rattle.window.specs.declared.push.PushRefusal.{PushRefusal}
use Rattle.window.specs.declared.push.PushAnswer.{PushAnswer}
use Rattle.window.specs.declared.push.PushAnswer.TheVariants as pushes
use Rattle.head.specs.Rules.{first_refusal, judged, push_rules, push_refused}
use Rattle.head.specs.Head.{head_ok}
use Rattle.head.specs.Parts.{with_window, with_rates, with_history, with_latest}
use Rattle.head.specs.declared.left.Left.{Left}
use Rattle.head.specs.declared.state.Head.{Head}
use Rattle.head.specs.Paper.{Line}
use Rattle.receiver.specs.Paper.{data_line}
use Rattle.receiver.specs.declared.data.DataAnswer.{DataAnswer}
use Rattle.receiver.specs.declared.data.DataAnswer.TheVariants as answers

-- what the call gives back: the head and the answer or the refusal
abbrev pub Handled : Type 0
Handled = Left DataAnswer

-- all that the call leaves: the head and the answer, its line on paper, the slot area and the payload area
pub record DataOutcome : Type 0 where
  pub handled : Handled
  pub line : Line
  pub slots : List ℕ
  pub payloads : List ℕ

abbrev pub data_ended : Handled → List ℕ → List ℕ → DataOutcome
data_ended r ws bs = record { handled = r; line = data_line r.answer; slots = ws; payloads = bs }

abbrev pub packet : ℕ → ℕ → ℕ → ℕ → Packet
packet number message location stamp = record { number = number; message = message; location = location; stamp = stamp }

-- the head with the window after a push, and the reading as its latest
abbrev pub placed_of : Head → Window → ℤ → Head
placed_of h w now = with_latest (with_window h w) now

-- light ACK: lrsn at last_ack_dsn + 64 or after; it sets last_ack_dsn
abbrev pub light_or_got : Head → ℕ → Bool → Option History → Handled
light_or_got h lrsn recovered (Some y) = record { head = with_history h y; answer = Ok (answers.Light lrsn recovered) }
light_or_got h lrsn recovered None = record { head = h; answer = Ok (answers.Got lrsn recovered) }

unfoldable pub acked_of : Head → ℕ → Bool → Handled
acked_of h lrsn recovered = light_or_got h lrsn recovered (light_ack_of h.history lrsn)

-- rates count appends without gap
unfoldable pub rated_of : Head → ℤ → ℕ → ℕ → Head
rated_of h now number size = with_rates h (arrival_of h.arrivals now size) (link_of h.links now number)

-- an append without gap or a recovery
unfoldable pub got_of : Head → Window → ℕ → Bool → ℤ → ℕ → ℕ → Handled
got_of h w lrsn recovered now number size = acked_of (placed_of (cond recovered h (rated_of h now number size)) w now) lrsn recovered

-- the window's answer as the call's
abbrev pub after_taken : Head → Window → PushAnswer → ℤ → ℕ → ℕ → Handled
after_taken h w (pushes.Got lrsn recovered) now number size = got_of h w lrsn recovered now number size
after_taken h w (pushes.Loss first last) now number size = record { head = placed_of h w now; answer = Ok (answers.Loss first last) }

-- a refusal of the window, 7 to 10, leaves the head
abbrev pub after_push : Head → Result Pushed PushRefusal → ℤ → ℕ → ℕ → Handled
after_push h (Ok p) now number size = after_taken h p.window p.answer now number size
after_push h (Err e) now number size = record { head = h; answer = Err (push_refused e) }

module _ (h : Head) (ws bs : List ℕ) (now : ℤ) (p : Packet) (payload : List ℕ) where
  -- the push; a refusal of the window leaves its areas
  unfoldable pub taken_of : DataOutcome
  taken_of =
      let o = push_of h.window ws bs now p payload in
      data_ended (after_push h o.pushed now p.number (length payload)) o.slots o.payloads

  unfoldable pub data_call_of : DataOutcome
  data_call_of =
      judged (first_refusal (push_rules (head_ok h) h.window.capacity (length ws) (length bs) now h.latest p (length payload)))
      taken_of
      (λ e. data_ended (record { head = h; answer = Err e }) ws bs)
