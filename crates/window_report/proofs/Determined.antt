-- Any two outcomes that the promise of a loss report or a drop request allows coincide, whatever they are made of: 01, "Each proof's duty". Assumes nothing.
use mathlib.Core.Path.{◌≡◌, sym, ◌∙◌, ap}
use mathlib.Core.List.{List}
use Prim.Native.Nat.{ℕ}
use Rattle.std.specs.Prelude.{Option, Result}
use Rattle.window_report.specs.Drop.{Dropped, drop_ended}
use Rattle.window_report.specs.Report.{ReportOutcome, report_ended}
use Rattle.window_report.specs.declared.report.ListShort.{ListShort}

-- the answer, the slot area and the list of loss words
pub report-determined : {o : ReportOutcome} (r s : Result (Option ℕ) ListShort) (ws₁ ws₂ list₁ list₂ : List ℕ) → report_ended r ws₁ list₁ ≡ o → report_ended s ws₂ list₂ ≡ o
    → (r ≡ s) × ((ws₁ ≡ ws₂) × (list₁ ≡ list₂))
report-determined r s ws₁ ws₂ list₁ list₂ p q =
    let e = p ∙ sym q in
    (ap (λ x. x.answer) e, (ap (λ x. x.slots) e, ap (λ x. x.list) e))

-- the count and the slot area
pub drop-determined : {o : Dropped} (r s : ℕ) (ws₁ ws₂ : List ℕ) → drop_ended r ws₁ ≡ o → drop_ended s ws₂ ≡ o → (r ≡ s) × (ws₁ ≡ ws₂)
drop-determined r s ws₁ ws₂ p q = let e = p ∙ sym q in (ap (λ x. x.count) e, ap (λ x. x.slots) e)
