-- The loss report call: 01, "Window", with refusals 1 to 4 and 12.
use Rattle.std.specs.Prelude.{List, ℕ, ◌*◌, ℤ, length, Option, Result, Ok, Err}
use Rattle.window_report.specs.Report.{ReportOutcome, report_of}
use Rattle.window_report.specs.declared.report.ListShort.{ListShort}
use Rattle.head.specs.Rules.{first_refusal, judged, timed_rules}
use Rattle.head.specs.Head.{head_ok}
use Rattle.head.specs.Parts.{with_latest}
use Rattle.head.specs.declared.refusal.Refusal.{Refusal}
use Rattle.head.specs.declared.refusal.Refusal.TheVariants as refusals
use Rattle.head.specs.declared.left.Left.{Left}
use Rattle.head.specs.declared.state.Head.{Head}
use Rattle.head.specs.Paper.{Line}
use Rattle.feedback.specs.Paper.{loss_line}

-- what the call gives back: the head and the answer or the refusal
abbrev pub Reported : Type 0
Reported = Left (Option ℕ)

-- all that the call leaves: the head and the answer, its line on paper, the slot area and the list of loss words
pub record LossOutcome : Type 0 where
  pub reported : Reported
  pub line : Line
  pub slots : List ℕ
  pub list : List ℕ

abbrev pub loss_ended : Reported → List ℕ → List ℕ → LossOutcome
loss_ended r ws list = record { reported = r; line = loss_line r.answer list; slots = ws; list = list }

-- the window's answer as the call's; 12 ListShort
abbrev pub answer_of : Result (Option ℕ) ListShort → Result (Option ℕ) Refusal
answer_of (Ok words) = Ok words
answer_of (Err _) = Err refusals.ListShort

-- on refusal 12 the head stays
abbrev pub head_after : Head → Result (Option ℕ) ListShort → ℤ → Head
head_after h (Ok _) now = with_latest h now
head_after h (Err _) now = h

abbrev pub after_report : Head → Result (Option ℕ) ListShort → ℤ → Reported
after_report h a now = record { head = head_after h a now; answer = answer_of a }

-- the window's outcome as the call's; on refusal 12 the window leaves slots and list
abbrev pub ending : Head → ℤ → ReportOutcome → LossOutcome
ending h now o = loss_ended (after_report h o.answer now) o.slots o.list

unfoldable pub reported_of : Head → List ℕ → List ℕ → ℤ → LossOutcome
reported_of h ws list now = ending h now (report_of h.window ws now h.rtt.mean list)

unfoldable pub report_call_of : Head → List ℕ → List ℕ → ℤ → LossOutcome
report_call_of h ws list now =
    judged (first_refusal (timed_rules (head_ok h) (length ws) (3 * h.window.capacity) now h.latest))
    (reported_of h ws list now)
    (λ e. loss_ended (record { head = h; answer = Err e }) ws list)
