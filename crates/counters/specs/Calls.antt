-- Each call of the receiver with its counters: the receiver's outcome as it is, and the counters by its answer. 01, "Counters follow 003".
use Rattle.std.specs.Prelude.{List, ℕ, ℤ, length}
use Rattle.window.specs.declared.push.Packet.{Packet}
use Rattle.head.specs.declared.state.Head.{Head}
use Rattle.feedback.specs.Acking.{FullAckOutcome, Ack2Outcome, ack2_call_of, full_ack_call_of}
use Rattle.receiver.specs.Data.{DataOutcome, data_call_of}
use Rattle.feedback.specs.Loss.{LossOutcome, report_call_of}
use Rattle.receiver.specs.Message.{MessageOutcome, pop_call_of}
use Rattle.upkeep.specs.Request.{DropOutcome, ClearOutcome, drop_call_of, clear_call_of}
use Rattle.feedback.specs.Sync.{ClockOutcome, clock_call_of}
use Rattle.counts.specs.Counts.{data_counts, ack2_counts, drop_counts, clock_counts}
use Rattle.counts.specs.declared.Counters.{Counters}

-- all that a call leaves, with its counters
pub record Counted (A : Type 0) : Type 0 where
  pub outcome : A
  pub counters : Counters

abbrev pub counted : {A : Type 0} → A → Counters → Counted A
counted o c = record { outcome = o; counters = c }

module _ (c : Counters) (h : Head) where
  -- those that count
  abbrev pub data_counted : List ℕ → List ℕ → ℤ → Packet → List ℕ → Counted DataOutcome
  data_counted ws bs now p payload = let o = data_call_of h ws bs now p payload in counted o (data_counts c (length payload) o.handled.answer)

  abbrev pub ack2_counted : List ℕ → ℤ → ℕ → Counted Ack2Outcome
  ack2_counted a now number = let o = ack2_call_of h a now number in counted o (ack2_counts c o.acked2.answer)

  abbrev pub drop_counted : List ℕ → ℕ → ℕ → Counted DropOutcome
  drop_counted ws first last = let o = drop_call_of h ws first last in counted o (drop_counts c o.answer)

  abbrev pub clock_counted : ℤ → ℕ → Counted ClockOutcome
  clock_counted now stamp = let o = clock_call_of h now stamp in counted o (clock_counts c o.clocked.answer)

  -- pops, reports, full ACKs and clears raise nothing
  abbrev pub message_counted : List ℕ → List ℕ → List ℕ → ℤ → Counted MessageOutcome
  message_counted ws bs out now = counted (pop_call_of h ws bs out now) c

  abbrev pub loss_counted : List ℕ → List ℕ → ℤ → Counted LossOutcome
  loss_counted ws list now = counted (report_call_of h ws list now) c

  abbrev pub full_ack_counted : List ℕ → ℤ → Counted FullAckOutcome
  full_ack_counted a now = counted (full_ack_call_of h a now) c

  abbrev pub clear_counted : Counted ClearOutcome
  clear_counted = counted (clear_call_of h) c
