-- Push: 01, "Window", from "Next expected" to "else next expected", with refusals 7 to 10.
use Rattle.std.specs.Prelude.{true, false, cond, List, ℕ, zero, suc, ◌+◌, ◌-◌, ◌^◌, ltb, eqb, ℤ, nat_abs, length, Result, Ok, Err}
use Rattle.numbers.specs.Circular.{distance, before, sum, successor}
use Rattle.numbers.specs.Order.{order}
use Rattle.std.specs.declared.cmp.Ordering.{Ordering}
use Rattle.std.specs.declared.cmp.Ordering.TheVariants.{Less, Equal, Greater}
use Rattle.slots.specs.Words.{is_lost, write_at}
use Rattle.slots.specs.Ring.{slot_of, with_payload}
use Rattle.slots.specs.declared.entry.Entry.{Entry}
use Rattle.slots.specs.declared.entry.Entry.TheVariants.{Lost, Received}
use Rattle.window.specs.Window.{slot_in, entry_in, next_of, lrsn_from, with_lrsn, room_of}
use Rattle.window.specs.declared.Window.{Window}
use Rattle.window.specs.declared.push.Packet.{Packet}
use Rattle.window.specs.declared.push.Pushed.{Pushed}
use Rattle.window.specs.declared.push.PushAnswer.{PushAnswer}
use Rattle.window.specs.declared.push.PushAnswer.TheVariants as answers
use Rattle.window.specs.declared.push.PushRefusal.{PushRefusal}
use Rattle.window.specs.declared.push.PushRefusal.TheVariants as refusals

-- all that a push leaves: the window and the answer, or a refusal; the slot area and the payload area
pub record PushOutcome : Type 0 where
  pub pushed : Result Pushed PushRefusal
  pub slots : List ℕ
  pub payloads : List ℕ

abbrev pub push_ended : Result Pushed PushRefusal → List ℕ → List ℕ → PushOutcome
push_ended r ws bs = record { pushed = r; slots = ws; payloads = bs }

-- the window after it: that of a refusal is as it was
abbrev pub window_after : Window → Result Pushed PushRefusal → Window
window_after w (Ok r) = r.window
window_after w (Err e) = w

-- what it answers
abbrev pub answered : Result Pushed PushRefusal → Result PushAnswer PushRefusal
answered (Ok r) = Ok r.answer
answered (Err e) = Err e

-- the entry that a packet becomes
abbrev pub received : Packet → List ℕ → Entry
received p payload = Received (length payload) p.location p.message p.stamp

-- lrsn moves past an append equal to it
abbrev pub moved_past : ℕ → ℕ → ℕ
moved_past lrsn number = cond (eqb lrsn number) (successor 31 number) lrsn

-- the window with n entries more, the last of them the packet
abbrev pub grown : Window → Packet → ℕ → Window
grown w p n =
    record { capacity = w.capacity; start = w.start; held = w.held + n; seqno0 = w.seqno0; lrsn = moved_past w.lrsn p.number }

-- an entry that is lost from now on: feedback = now, as a word, which has no sign, k = 2
abbrev pub lost_at : ℤ → Entry
lost_at time = Lost 2 (nat_abs time)

-- the words with n entries from entry i on lost
unfoldable pub with_lost : ℕ → ℕ → List ℕ → ℤ → ℕ → ℕ → List ℕ
with_lost capacity start ws time i zero = ws
with_lost capacity start ws time i (suc n) = write_at (with_lost capacity start ws time i n) (slot_of capacity start (i + n)) (lost_at time)

-- on recovery of the number it names, lrsn is the first not received from there, else next expected
abbrev pub recovered_lrsn : Window → ℕ → List ℕ → ℕ → ℕ
recovered_lrsn w number ws i = cond (eqb w.lrsn number) (lrsn_from w ws i) w.lrsn

module _ (w : Window) (ws bs : List ℕ) (time : ℤ) (p : Packet) (payload : List ℕ) where
  -- a refusal changes nothing
  abbrev pub refused : PushRefusal → PushOutcome
  refused e = push_ended (Err e) ws bs

  -- a push at the next expected appends; 7 BufferFull: held = capacity
  unfoldable pub append_next_of : PushOutcome
  append_next_of =
      cond (eqb w.held w.capacity)
      (refused refusals.BufferFull)
      (push_ended
      (Ok (record { window = grown w p 1; answer = answers.Got (moved_past w.lrsn p.number) false }))
      (write_at ws (slot_in w w.held) (received p payload))
      (with_payload bs (slot_in w w.held) payload))

  -- after it, the gap is appended as lost, then the packet; 8 PacketTooEarly: room < gap + 1
  unfoldable pub append_with_loss_of : ℕ → PushOutcome
  append_with_loss_of gap =
      let s = slot_in w (w.held + gap) in
      cond (ltb (room_of w) (gap + 1))
      (refused (refusals.PacketTooEarly (room_of w) (gap + 1)))
      (push_ended
      (Ok (record { window = grown w p (gap + 1); answer = answers.Loss (next_of w) (sum 31 p.number (2 ^ 31 - 1)) }))
      (write_at (with_lost w.capacity w.start ws time w.held gap) s (received p payload))
      (with_payload bs s payload))

  -- the lost entry i becomes received
  unfoldable pub recovered_of : ℕ → PushOutcome
  recovered_of i =
      let ws₁ = write_at ws (slot_in w i) (received p payload) in
      let lrsn = recovered_lrsn w p.number ws₁ i in
      push_ended (Ok (record { window = with_lrsn w lrsn; answer = answers.Got lrsn true })) ws₁ (with_payload bs (slot_in w i) payload)

  -- before it, a lost entry becomes received; 9 PacketTooLate: before seqno0; 10 DiscardedDuplicate: its entry is not lost
  unfoldable pub recover_of : PushOutcome
  recover_of =
      let i = distance 31 p.number w.seqno0 in
      cond (before 31 p.number w.seqno0)
      (refused refusals.PacketTooLate)
      (cond (is_lost (entry_in w ws i)) (recovered_of i) (refused refusals.DiscardedDuplicate))

  abbrev pub by_order : Ordering → PushOutcome
  by_order Equal = append_next_of
  by_order Greater = append_with_loss_of (distance 31 p.number (next_of w))
  by_order Less = recover_of

  unfoldable pub push_of : PushOutcome
  push_of = by_order (order 31 p.number (next_of w))
