-- The clock call: 01, "Clock", with refusals 1, 3, 4 and 14.
use Rattle.std.specs.Prelude.{ℕ, ℤ, Result, Ok, Err}
use Rattle.clock.specs.Sync.{synchronized}
use Rattle.clock.specs.declared.base.DriftRange.{DriftRange}
use Rattle.clock.specs.declared.time.Step.{Step}
use Rattle.clock.specs.declared.time.Synchronized.{Synchronized}
use Rattle.head.specs.Rules.{first_refusal, judged, clock_rules}
use Rattle.head.specs.Head.{head_ok}
use Rattle.head.specs.Parts.{with_clock, with_latest}
use Rattle.head.specs.declared.refusal.Refusal.TheVariants as refusals
use Rattle.head.specs.declared.left.Left.{Left}
use Rattle.head.specs.declared.state.Head.{Head}
use Rattle.head.specs.Paper.{Line}
use Rattle.feedback.specs.Paper.{clock_line}

-- what the call gives back: the head and the answer or the refusal
abbrev pub Clocked : Type 0
Clocked = Left Synchronized

-- all that the call leaves: the head and the answer, and its line on paper
pub record ClockOutcome : Type 0 where
  pub clocked : Clocked
  pub line : Line

abbrev pub clock_ended : Clocked → ClockOutcome
clock_ended r = record { clocked = r; line = clock_line r.answer }

-- the clock's step as the call's; on refusal 14 the head stays
abbrev pub after_sync : Head → Result Step DriftRange → ℤ → Clocked
after_sync h (Ok s) now = record { head = with_latest (with_clock h s.clock) now; answer = Ok s.answer }
after_sync h (Err _) now = record { head = h; answer = Err refusals.DriftRange }

unfoldable pub sync_of : Head → ℤ → ℕ → Clocked
sync_of h now stamp = after_sync h (synchronized h.clock now stamp) now

unfoldable pub clock_call_of : Head → ℤ → ℕ → ClockOutcome
clock_call_of h now stamp =
    judged (first_refusal (clock_rules (head_ok h) now h.latest))
    (clock_ended (sync_of h now stamp))
    (λ e. clock_ended (record { head = h; answer = Err e }))
