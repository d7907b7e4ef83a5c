-- Every head that calls reach from new, whatever the arguments and the lent contents: 01, "Refused, in order of test".
use Rattle.std.specs.Prelude.{◌≡◌, Bool, List, ℕ, ℤ, Ok}
use Rattle.window.specs.declared.push.Packet.{Packet}
use Rattle.head.specs.Head.{made_of}
use Rattle.head.specs.declared.state.Head.{Head}
use Rattle.feedback.specs.Acking.{ack2_call_of, full_ack_call_of}
use Rattle.receiver.specs.Data.{data_call_of}
use Rattle.feedback.specs.Loss.{report_call_of}
use Rattle.receiver.specs.Message.{pop_call_of}
use Rattle.upkeep.specs.Request.{clear_call_of}
use Rattle.feedback.specs.Sync.{clock_call_of}

-- a drop request, room and show return no head
pub data Reached : Head → Type 0 where
  made : (start : ℤ) (latency : ℕ) (dropping : Bool) (first capacity : ℕ) {h : Head} → made_of start latency dropping first capacity ≡ Ok h → Reached h
  pushed : (h : Head) (ws bs : List ℕ) (now : ℤ) (p : Packet) (payload : List ℕ) → Reached h → Reached (data_call_of h ws bs now p payload).handled.head
  popped : (h : Head) (ws bs out : List ℕ) (now : ℤ) → Reached h → Reached (pop_call_of h ws bs out now).given.head
  reported : (h : Head) (ws list : List ℕ) (now : ℤ) → Reached h → Reached (report_call_of h ws list now).reported.head
  acked : (h : Head) (a : List ℕ) (now : ℤ) → Reached h → Reached (full_ack_call_of h a now).acked.head
  ack2ed : (h : Head) (a : List ℕ) (now : ℤ) (number : ℕ) → Reached h → Reached (ack2_call_of h a now number).acked2.head
  clocked : (h : Head) (now : ℤ) (stamp : ℕ) → Reached h → Reached (clock_call_of h now stamp).clocked.head
  cleared : (h : Head) → Reached h → Reached (clear_call_of h).cleared.head
