-- A head out of range is refused with 1 by every call, and nothing changes; so is the head that stands where making
-- refused: 01, "Refused, in order of test". Assumes nothing.
use mathlib.Core.Path.{◌≡◌, refl}
use mathlib.Core.Bool.{Bool, false}
use Prim.Native.Nat.{ℕ}
use lib.IntN.{ℤ}
use Rattle.std.specs.Prelude.{Result, Ok, Err}
use Rattle.head.specs.Head.{head_ok, fresh_head, made_of, head_made}
use Rattle.head.specs.declared.refusal.Refusal.{Refusal}
use Rattle.head.specs.declared.state.Head.{Head}
use Rattle.feedback.specs.Acking.{full_ack_call_of, ack2_call_of}
use Rattle.feedback.specs.Loss.{report_call_of}
use Rattle.feedback.specs.Sync.{clock_call_of}
use Rattle.receiver.specs.Data.{data_call_of}
use Rattle.receiver.specs.Message.{pop_call_of}
use Rattle.upkeep.specs.Request.{drop_call_of, clear_call_of, room_call_of}
use Rattle.upkeep.specs.Show.{place_call_of, shown_call_of}
use Rattle.paper.specs.Refuses.{AllRefuse}

pub bad-refused : (h : Head) → head_ok h ≡ false → AllRefuse h
unfolding data_call_of pop_call_of report_call_of full_ack_call_of ack2_call_of clock_call_of drop_call_of clear_call_of room_call_of shown_call_of place_call_of
bad-refused h bad =
    record {
      packet = λ ws bs now p payload. rw bad;
      message = λ ws bs out now. rw bad;
      loss = λ ws list now. rw bad;
      full_ack = λ a now. rw bad;
      ack2 = λ a now number. rw bad;
      clock = λ now stamp. rw bad;
      drop = λ ws first last. rw bad;
      clear = rw bad;
      room = rw bad;
      shown = λ ws bytes number. rw bad;
      part = λ ws bytes number. rw bad;
    }

-- making that is refused returns no head; the one that stands for it is of no use
module _ (start : ℤ) (latency : ℕ) (dropping : Bool) (first capacity : ℕ) {e : Refusal} where
  pub unmade-bad : made_of start latency dropping first capacity ≡ Err e → head_ok (head_made (made_of start latency dropping first capacity)) ≡ false
  unfolding head_ok fresh_head
  unmade-bad f = rw f refl

  pub unmade-refused : made_of start latency dropping first capacity ≡ Err e → AllRefuse (head_made (made_of start latency dropping first capacity))
  unmade-refused f = bad-refused (head_made (made_of start latency dropping first capacity)) (unmade-bad f)
