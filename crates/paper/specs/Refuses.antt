-- A head that is of no use: every call refuses it with 1 and changes nothing. 01, "Refused, in order of test".
use Rattle.std.specs.Prelude.{◌≡◌, List, ℕ, ℤ, None, Err}
use Rattle.window.specs.declared.push.Packet.{Packet}
use Rattle.head.specs.declared.refusal.Refusal.TheVariants.{HeadBad}
use Rattle.head.specs.declared.state.Head.{Head}
use Rattle.feedback.specs.Acking.{full_ack_ended, full_ack_call_of, ack2_ended, ack2_call_of}
use Rattle.feedback.specs.Loss.{loss_ended, report_call_of}
use Rattle.feedback.specs.Sync.{clock_ended, clock_call_of}
use Rattle.receiver.specs.Data.{data_ended, data_call_of}
use Rattle.receiver.specs.Message.{message_ended, pop_call_of}
use Rattle.upkeep.specs.Request.{drop_ended, drop_call_of, clear_ended, clear_call_of, room_ended, room_call_of}
use Rattle.upkeep.specs.Show.{place_call_of, shown_ended, shown_call_of}

pub record AllRefuse (h : Head) : Type 0 where
  pub packet : (ws bs : List ℕ) (now : ℤ) (p : Packet) (payload : List ℕ)
      → data_call_of h ws bs now p payload ≡ data_ended (record { head = h; answer = Err HeadBad }) ws bs
  pub message : (ws bs out : List ℕ) (now : ℤ) → pop_call_of h ws bs out now ≡ message_ended (record { head = h; answer = Err HeadBad }) out
  pub loss : (ws list : List ℕ) (now : ℤ) → report_call_of h ws list now ≡ loss_ended (record { head = h; answer = Err HeadBad }) ws list
  pub full_ack : (a : List ℕ) (now : ℤ) → full_ack_call_of h a now ≡ full_ack_ended (record { head = h; answer = Err HeadBad }) a
  pub ack2 : (a : List ℕ) (now : ℤ) (number : ℕ) → ack2_call_of h a now number ≡ ack2_ended (record { head = h; answer = Err HeadBad })
  pub clock : (now : ℤ) (stamp : ℕ) → clock_call_of h now stamp ≡ clock_ended (record { head = h; answer = Err HeadBad })
  pub drop : (ws : List ℕ) (first last : ℕ) → drop_call_of h ws first last ≡ drop_ended (Err HeadBad) ws
  pub clear : clear_call_of h ≡ clear_ended (record { head = h; answer = Err HeadBad })
  pub room : room_call_of h ≡ room_ended (Err HeadBad)
  pub shown : (ws : List ℕ) (bytes number : ℕ) → shown_call_of h ws bytes number ≡ shown_ended (Err HeadBad)
  pub part : (ws : List ℕ) (bytes number : ℕ) → place_call_of h ws bytes number ≡ None
