-- A refused loss report leaves head, areas and output: 01, "Each returns its number; head, areas and output stay". Assumes nothing.
use mathlib.Core.Path.{refl}
use mathlib.Core.Bool.{Bool, true, false, cond}
use mathlib.Core.List.{List}
use Prim.Native.Nat.{ℕ, ◌*◌}
use lib.Dec.{eqb, ltb}
use lib.IntN.{ℤ}
use lib.ListN.{length}
use Rattle.std.specs.Prelude.{Some, None, Ok, Err}
use Rattle.window_report.specs.Report as report
use Rattle.head.specs.Rules.{first_refusal, timed_rules}
use Rattle.head.specs.Head.{head_ok}
use Rattle.head.specs.declared.state.Head.{Head}
use Rattle.head.proofs.Gates.{by-refusal}
use Rattle.feedback.specs.Stays.{LossStays}
use Rattle.feedback.specs.Loss as loss

module _ (h : Head) (ws list : List ℕ) (now : ℤ) where
  report-by : (t : Bool) (x y : report.ReportOutcome) → LossStays h ws list (loss.ending h now x) → LossStays h ws list (loss.ending h now y) → LossStays h ws list (loss.ending h now (cond t x y))
  report-by true x y p q = p
  report-by false x y p q = q

  reported-stays : LossStays h ws list (loss.reported_of h ws list now)
  unfolding loss.reported_of report.report_of
  reported-stays =
      let w = h.window in
      let m = h.rtt.mean in
      let n = report.needed w ws now m in
      let none = report.report_ended (Ok None) ws list in
      let short = report.report_ended (Err (record {})) ws list in
      let done = report.report_ended (Ok (Some n)) (report.slots_to w ws now m w.held) (report.list_all w ws now m list) in
      report-by (eqb n 0) none (cond (ltb (length list) n) short done)
      (λ e. absurd (e refl))
      (report-by (ltb (length list) n) short done (λ e. refl) (λ e. absurd (e refl)))

  pub loss-stays : LossStays h ws list (loss.report_call_of h ws list now)
  unfolding loss.report_call_of
  loss-stays =
      by-refusal (LossStays h ws list) (first_refusal (timed_rules (head_ok h) (length ws) (3 * h.window.capacity) now h.latest)) _ _
      (λ x t. reported-stays)
      (λ e t n. refl)
