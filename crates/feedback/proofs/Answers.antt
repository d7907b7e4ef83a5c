-- The line of a loss report, a full ACK, an ACK2 and a clock call is that of its answer, and a refused one leaves the head: 01, "Each returns its number; head, areas and output stay".
-- Of a loss report see Stays. Assumes nothing.
use mathlib.Core.Path.{◌≡◌, refl}
use mathlib.Core.List.{List}
use Prim.Native.Nat.{ℕ, ◌*◌}
use lib.Dec.{eqb}
use lib.IntN.{ℤ}
use lib.ListN.{length}
use Rattle.std.specs.Prelude.{Option, Some, None, Result, Ok, Err}
use Rattle.numbers.proofs.Flags.{by-test}
use Rattle.acks.specs.History.{full_ack_of, ack2_of}
use Rattle.acks.specs.declared.history.Acked.{Acked}
use Rattle.acks.specs.declared.history.Answered.{Answered}
use Rattle.acks.specs.declared.history.FasnWorn.{FasnWorn}
use Rattle.clock.specs.Sync.{synchronized}
use Rattle.clock.specs.declared.base.DriftRange.{DriftRange}
use Rattle.clock.specs.declared.time.Step.{Step}
use Rattle.clock.specs.declared.time.Synchronized.{Synchronized}
use Rattle.clock.specs.declared.time.Synchronized.TheVariants as clocks
use Rattle.window.specs.Window.{room_of}
use Rattle.head.specs.Rules.{first_refusal, timed_rules, clock_rules}
use Rattle.head.specs.Head.{head_ok}
use Rattle.head.specs.declared.refusal.Refusal.{Refusal}
use Rattle.head.specs.declared.state.Head.{Head}
use Rattle.head.proofs.Gates.{by-refusal}
use Rattle.feedback.specs.Acking.{FullAckOutcome, Ack2Outcome, after_ack, after_ack2, roomy_ack, due_ack, full_ack_call_of, held_ack2, ack2_call_of}
use Rattle.feedback.specs.Loss.{LossOutcome, reported_of, report_call_of}
use Rattle.feedback.specs.Sync.{ClockOutcome, after_sync, sync_of, clock_call_of}
use Rattle.feedback.specs.Paper.{loss_line, clock_line, full_ack_line, rtt_line}

module _ (h : Head) (b : List ℕ) (now : ℤ) where
  abbrev tests : ℕ → Result Unit Refusal
  tests need = first_refusal (timed_rules (head_ok h) (length b) need now h.latest)

  pub loss-line : (list : List ℕ) → (report_call_of h b list now).line ≡ loss_line (report_call_of h b list now).reported.answer (report_call_of h b list now).list
  unfolding report_call_of reported_of
  loss-line list =
      by-refusal (λ (o : LossOutcome). o.line ≡ loss_line o.reported.answer o.list) (tests (3 * h.window.capacity)) _ _ (λ x t. refl) (λ e t. refl)

  -- a full ACK
  pub full-ack-line : (full_ack_call_of h b now).line ≡ full_ack_line (full_ack_call_of h b now).acked.answer
  unfolding full_ack_call_of due_ack roomy_ack
  full-ack-line =
      by-refusal (λ (o : FullAckOutcome). o.line ≡ full_ack_line o.acked.answer) (tests 2048) _ _
      (λ x t. by-test (λ (o : FullAckOutcome). o.line ≡ full_ack_line o.acked.answer) (eqb (room_of h.window) 0) _ _ (λ u. refl) (λ u. refl))
      (λ e t. refl)

  ack-head : (x : Result (Option Acked) FasnWorn) → ((full_ack_line (after_ack h x now).answer).refusal ≡ 0 → ⊥) → (after_ack h x now).head ≡ h
  ack-head (Ok None) e = absurd (e refl)
  ack-head (Ok (Some k)) e = absurd (e refl)
  ack-head (Err _) e = refl

  pub full-ack-head : ((full_ack_call_of h b now).line.refusal ≡ 0 → ⊥) → (full_ack_call_of h b now).acked.head ≡ h
  unfolding full_ack_call_of due_ack roomy_ack
  full-ack-head =
      by-refusal (λ (o : FullAckOutcome). (o.line.refusal ≡ 0 → ⊥) → o.acked.head ≡ h) (tests 2048) _ _
      (λ x t.
      by-test (λ (o : FullAckOutcome). (o.line.refusal ≡ 0 → ⊥) → o.acked.head ≡ h) (eqb (room_of h.window) 0) _ _
      (λ u e. absurd (e refl))
      (λ u. ack-head (full_ack_of h.history b now h.rtt.mean h.latency h.window.lrsn).acked))
      (λ e t n. refl)

  -- an ACK2
  pub ack2-line : (number : ℕ) → (ack2_call_of h b now number).line ≡ rtt_line (ack2_call_of h b now number).acked2.answer
  unfolding ack2_call_of held_ack2
  ack2-line number = by-refusal (λ (o : Ack2Outcome). o.line ≡ rtt_line o.acked2.answer) (tests 2048) _ _ (λ x t. refl) (λ e t. refl)

  rtt-head : (x : Option Answered) → ((rtt_line (after_ack2 h x now).answer).refusal ≡ 0 → ⊥) → (after_ack2 h x now).head ≡ h
  rtt-head None e = absurd (e refl)
  rtt-head (Some k) e = absurd (e refl)

  pub ack2-head : (number : ℕ) → ((ack2_call_of h b now number).line.refusal ≡ 0 → ⊥) → (ack2_call_of h b now number).acked2.head ≡ h
  unfolding ack2_call_of held_ack2
  ack2-head number =
      by-refusal (λ (o : Ack2Outcome). (o.line.refusal ≡ 0 → ⊥) → o.acked2.head ≡ h) (tests 2048) _ _
      (λ x t. rtt-head (ack2_of h.history b now number))
      (λ e t n. refl)

-- a clock call
module _ (h : Head) (now : ℤ) (stamp : ℕ) where
  abbrev clock_tests : Result Unit Refusal
  clock_tests = first_refusal (clock_rules (head_ok h) now h.latest)

  pub clock-line : (clock_call_of h now stamp).line ≡ clock_line (clock_call_of h now stamp).clocked.answer
  unfolding clock_call_of sync_of
  clock-line = by-refusal (λ (o : ClockOutcome). o.line ≡ clock_line o.clocked.answer) clock_tests _ _ (λ x t. refl) (λ e t. refl)

  sync-zero : (a : Synchronized) → (clock_line (Ok a)).refusal ≡ 0
  sync-zero clocks.Nothing = refl
  sync-zero (clocks.Adjusted mean deviation) = refl
  sync-zero (clocks.Unsteady deviation v) = refl

  sync-head : (x : Result Step DriftRange) → ((clock_line (after_sync h x now).answer).refusal ≡ 0 → ⊥) → (after_sync h x now).head ≡ h
  sync-head (Ok s) e = absurd (e (sync-zero s.answer))
  sync-head (Err _) e = refl

  pub clock-head : ((clock_call_of h now stamp).line.refusal ≡ 0 → ⊥) → (clock_call_of h now stamp).clocked.head ≡ h
  unfolding clock_call_of sync_of
  clock-head =
      by-refusal (λ (o : ClockOutcome). (o.line.refusal ≡ 0 → ⊥) → o.clocked.head ≡ h) clock_tests _ _
      (λ x t. sync-head (synchronized h.clock now stamp))
      (λ e t n. refl)
