-- How the code of data.rt takes a packet on words. `Calls` says what comes of it.
use Rattle.std.specs.Prelude.{◌≡◌, Bool, true, false, cond, List, ℕ, ◌+◌, ◌%◌, ◌<◌, ◌≤◌, eqb, ℤ, length, set, Option, Some, None, Result, Ok, Err}
use Rattle.numbers.specs.Circular.{equal}
use Rattle.numbers.specs.Instants.{is_reading, since_time}
use Rattle.intervals.specs.Rates.{next_place, count_after}
use Rattle.acks.specs.History.{light_ack_of}
use Rattle.acks.specs.declared.history.History.{History}
use Rattle.slots.specs.Words.{write_at}
use Rattle.slots.specs.Ring.{with_payload}
use Rattle.window.specs.Window.{slot_in, next_of}
use Rattle.window.specs.Ready.{Good, Bytes, PacketRight}
use Rattle.window.specs.Push.{received, moved_past, push_of}
use Rattle.window.specs.declared.Window.{Window}
use Rattle.window.specs.declared.push.Packet.{Packet}
use Rattle.window.specs.declared.push.Pushed.{Pushed}
use Rattle.window.specs.declared.push.PushRefusal.{PushRefusal}
use Rattle.window.specs.declared.push.PushAnswer.{PushAnswer}
use Rattle.window.specs.declared.push.PushAnswer.TheVariants as pushes
use Rattle.head.specs.Rules.{first_refusal, push_rules, push_refused}
use Rattle.head.specs.Head.{head_ok}
use Rattle.head.specs.declared.refusal.Refusal.{Refusal}
use Rattle.head.specs.declared.refusal.Refusal.TheVariants.{BufferFull}
use Rattle.receiver.specs.Data.{taken_of}
use Rattle.receiver.specs.declared.data.DataAnswer.{DataAnswer}
use Rattle.receiver.specs.declared.data.DataAnswer.TheVariants as answers
use Rattle.packing.specs.Words.{word_of, whole_of, moment_of}
use Rattle.packing.specs.Packed.{at, window_of, history_of, head_of, formed, unpack_of}
use Rattle.packing.specs.Puts.{put_window}
use Rattle.inplace.specs.Calls.{DataLeft, data_left, data_after}

-- the last arrival
unfoldable pub put_last : List ℕ → ℤ → List ℕ
put_last ws now = set (set ws 52 1) 53 (word_of now)

-- an arrival: the interval since the last one, and the size
unfoldable pub put_arrival : List ℕ → ℕ → ℕ → Option ℤ → ℤ → ℕ → List ℕ
put_arrival ws place count None now size = put_last ws now
put_arrival ws place count (Some t) now size =
    put_last (set (set (set (set ws (18 + place) (since_time now t)) (34 + place) size) 50 (next_place place)) 51 (count_after count)) now

-- the second packet of a pair
abbrev pub put_pair : List ℕ → ℕ → ℕ → Option ℤ → ℤ → List ℕ
put_pair ws place count None now = set (set ws 72 0) 73 0
put_pair ws place count (Some t) now =
    set (set (set (set (set ws 72 0) 73 0) (54 + place) (since_time now t)) 70 (next_place place)) 71 (count_after count)

abbrev pub put_link : List ℕ → ℕ → ℕ → Option ℤ → ℤ → ℕ → List ℕ
put_link ws place count probe now number =
    cond (eqb (number % 16) 0) (set (set ws 72 1) 73 (word_of now)) (cond (eqb (number % 16) 1) (put_pair ws place count probe now) ws)

unfoldable pub put_linked : List ℕ → ℤ → ℕ → List ℕ
put_linked ws now number = put_link ws (at ws 70) (at ws 71) (moment_of (at ws 72) (at ws 73)) now number

unfoldable pub put_rated : List ℕ → ℤ → ℕ → ℕ → List ℕ
put_rated ws now number size =
    put_link (put_arrival ws (at ws 50) (at ws 51) (moment_of (at ws 52) (at ws 53)) now size) (at ws 70) (at ws 71) (moment_of (at ws 72) (at ws 73)) now number

-- the window after a push, and the reading as the latest
unfoldable pub put_placed : List ℕ → Window → ℤ → List ℕ
put_placed ws w now = set (put_window ws w) 0 (word_of now)

-- an answer and the words
pub record Heard : Type 0 where
  pub answer : Result DataAnswer Refusal
  pub words : List ℕ

abbrev pub heard : Result DataAnswer Refusal → List ℕ → Heard
heard a ws = record { answer = a; words = ws }

-- of the history a light ACK moves one word, last_ack_dsn, and all else none
abbrev pub light_or_got : List ℕ → ℕ → Bool → Option History → Heard
light_or_got ws lrsn recovered (Some y) = heard (Ok (answers.Light lrsn recovered)) (set ws 78 lrsn)
light_or_got ws lrsn recovered None = heard (Ok (answers.Got lrsn recovered)) ws

unfoldable pub acked_in : List ℕ → History → ℕ → Bool → Heard
acked_in ws y lrsn recovered = light_or_got ws lrsn recovered (light_ack_of y lrsn)

unfoldable pub got_in : List ℕ → Window → ℕ → Bool → ℤ → ℕ → ℕ → Heard
got_in ws w lrsn recovered now number size = acked_in (put_placed (cond recovered ws (put_rated ws now number size)) w now) (history_of ws) lrsn recovered

abbrev pub after_taken_in : List ℕ → Window → PushAnswer → ℤ → ℕ → ℕ → Heard
after_taken_in ws w (pushes.Got lrsn recovered) now number size = got_in ws w lrsn recovered now number size
after_taken_in ws w (pushes.Loss first last) now number size = heard (Ok (answers.Loss first last)) (put_placed ws w now)

-- a refusal of the window leaves the words
abbrev pub after_push_in : List ℕ → Result Pushed PushRefusal → ℤ → ℕ → ℕ → Heard
after_push_in ws (Ok p) now number size = after_taken_in ws p.window p.answer now number size
after_push_in ws (Err e) now number size = heard (Err (push_refused e)) ws

-- a recovery, and what comes of the answer to a packet that is not the next expected one: what that got, it recovered
unfoldable pub recovered_in : List ℕ → Window → ℕ → ℤ → Heard
recovered_in ws w lrsn now = acked_in (put_placed ws w now) (history_of ws) lrsn true

abbrev pub after_other : List ℕ → Window → PushAnswer → ℤ → Heard
after_other ws w (pushes.Got lrsn recovered) now = recovered_in ws w lrsn now
after_other ws w (pushes.Loss first last) now = heard (Ok (answers.Loss first last)) (put_placed ws w now)

unfoldable pub taken_by : List ℕ → Window → List ℕ → List ℕ → ℤ → Packet → List ℕ → DataLeft
taken_by ws w slots bs now p payload =
    let o = push_of w slots bs now p payload in
    let x = after_push_in ws o.pushed now p.number (length payload) in
    data_left x.answer x.words o.slots o.payloads

-- what the rates count on
pub record Pairs (ws : List ℕ) : Type 0 where
  pub place : at ws 70 < 16
  pub count : at ws 71 ≤ 16

pub record Rates (ws : List ℕ) : Type 0 where
  pub place : at ws 50 < 16
  pub count : at ws 51 ≤ 16
  pub pairs : Pairs ws

-- and the call, once nothing refuses it
pub record TakeReady (ws : List ℕ) (w : Window) (slots bs : List ℕ) (now : ℤ) (p : Packet) (payload : List ℕ) : Type 0 where
  pub rates : Rates ws
  pub reading : is_reading now ≡ true
  pub good : Good w slots
  pub payloads : Bytes w bs
  pub right : PacketRight p payload

-- a packet is the next expected one
unfoldable pub is_next : Window → ℕ → Bool
is_next w number = equal 31 number (next_of w)

-- the words that its append moves: what is held, lrsn and the latest reading; then a light ACK, one of the history
unfoldable pub put_next : List ℕ → ℕ → ℕ → ℤ → List ℕ
put_next ws held lrsn now = set (set (set ws 3 held) 5 lrsn) 0 (word_of now)

unfoldable pub acked_next : List ℕ → ℕ → Heard
acked_next ws lrsn = acked_in ws (history_of ws) lrsn false

unfoldable pub kept_next : List ℕ → ℕ → ℕ → ℤ → ℕ → ℕ → Heard
kept_next ws held lrsn now number size = acked_next (put_next (put_rated ws now number size) held lrsn now) lrsn

-- and all of it: `taken_by` where `is_next` holds, of the window that the words say
unfoldable pub next_taken : List ℕ → Window → List ℕ → List ℕ → ℤ → Packet → List ℕ → DataLeft
next_taken ws w slots bs now p payload =
    let s = slot_in w w.held in
    let x = kept_next ws (w.held + 1) (moved_past w.lrsn p.number) now p.number (length payload) in
    cond (eqb w.held w.capacity)
    (data_left (Err BufferFull) ws slots bs)
    (data_left x.answer x.words (write_at slots s (received p payload)) (with_payload bs s payload))

-- the words say a head as well
pub record Pushing (ws slots bs : List ℕ) (now : ℤ) (p : Packet) (payload : List ℕ) : Type 0 where
  pub says : formed ws ≡ true
  pub ready : TakeReady ws (window_of ws) slots bs now p payload

-- the call on that head
abbrev pub data_taken : List ℕ → List ℕ → List ℕ → ℤ → Packet → List ℕ → DataLeft
data_taken ws slots bs now p payload = data_after ws (taken_of (head_of ws) slots bs now p payload)

unfoldable pub push_refusal : List ℕ → ℕ → ℕ → ℤ → Packet → ℕ → Result Unit Refusal
push_refusal ws slots bytes now p size = first_refusal (push_rules (head_ok (unpack_of ws)) (at ws 1) slots bytes now (whole_of (at ws 0)) p size)
