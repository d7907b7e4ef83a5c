-- For the loop of the report: no rule of 01 of its own.
use Rattle.std.specs.Prelude.{Bool, true, false, cond, List, ℕ, zero, suc, ◌+◌, ◌-◌, ◌*◌, ◌<◌, ◌≤◌, min, ℤ, nat_abs, Option, Some, None, ⊤}
use Rattle.slots.specs.Words.{entry_at, write_report}
use Rattle.window.specs.declared.Window.{Window}
use Rattle.window_report.specs.Report.{is_due, k_after, runs_after, run_put, slots_to, runs_to, list_to}
use Rattle.window_report.specs.declared.report.Runs.{Runs}

-- a run that is going on began before entry i
abbrev pub Before : Option ℕ → ℕ → Type 0
Before (Some first) i = first < i
Before None i = ⊤

-- what holds of a walk before entry i: at most two words an entry, and a run that goes on began before i
pub record Within (r : Runs) (i : ℕ) : Type 0 where
  pub words : r.words ≤ 2 * i
  pub before : Before r.first i

-- a report under way: the slot area, the list and the runs
pub record Reporting : Type 0 where
  pub slots : List ℕ
  pub list : List ℕ
  pub runs : Runs

abbrev pub reporting : List ℕ → List ℕ → Runs → Reporting
reporting ws list r = record { slots = ws; list = list; runs = r }

-- and after entry i, which lies in slot s: written if it is due; if not, the run before it is written
unfoldable pub report_one : Window → ℤ → ℕ → ℕ → ℕ → Reporting → Reporting
report_one w time mean s i x =
    let e = entry_at x.slots s in
    cond (is_due time mean e)
    (reporting (write_report x.slots s (k_after e) (nat_abs time)) x.list (runs_after x.runs i true))
    (reporting x.slots (run_put w x.list x.runs i) (runs_after x.runs i false))

-- after the first i entries
abbrev pub reported_to : Window → List ℕ → ℤ → ℕ → List ℕ → ℕ → Reporting
reported_to w ws time mean list i = reporting (slots_to w ws time mean i) (list_to w ws time mean list i) (runs_to w ws time mean i)

-- whether one of the n slots from s on holds an entry that is due
unfoldable pub due_from : List ℕ → ℤ → ℕ → ℕ → ℕ → Bool
due_from ws time mean s zero = false
due_from ws time mean s (suc n) = cond (is_due time mean (entry_at ws s)) true (due_from ws time mean (s + 1) n)

-- and whether one of the slots in use does: those up to the end of the ring, then those from slot 0 on
abbrev pub any_due : Window → List ℕ → ℤ → ℕ → Bool
any_due w ws time mean =
    cond (due_from ws time mean w.start (min w.held (w.capacity - w.start)))
    true
    (due_from ws time mean 0 (w.held - (w.capacity - w.start)))
