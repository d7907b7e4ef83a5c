-- Worked examples of the loss report, computed from the definitions: P3 to P6 of 01, "Both sides of the edge", and runs. Assumes nothing.
use mathlib.Core.Path.{◌≡◌, refl}
use mathlib.Core.List.{List, [], ◌∷◌}
use Prim.Native.Nat.{ℕ}
use lib.IntN.{pos}
use Rattle.std.specs.Prelude.{Some, None, Ok, Err}
use Rattle.numbers.specs.Circular.{sum}
use Rattle.slots.specs.Words.{entry_of, entry_at, write_report}
use Rattle.slots.specs.Ring.{slot_of}
use Rattle.window_report.specs.Report.{ReportOutcome, report_ended, is_due, run_put, slots_to, runs_to, list_to, report_of}
use Rattle.window.specs.declared.Window.{Window}

-- a window of four slots, whose first slots hold lost entries
abbrev lost_from : ℕ → ℕ → Window
lost_from first n = record { capacity = 4; start = 0; held = n; seqno0 = first; lrsn = first }

abbrev slots : ℕ → ℕ → ℕ → ℕ → List ℕ
slots k f k₁ f₁ = 0 ∷ k ∷ f ∷ 0 ∷ k₁ ∷ f₁ ∷ 1 ∷ 0 ∷ 0 ∷ 2 ∷ 0 ∷ 0 ∷ []

-- mean 10,000, loss at 0: not at 20,000 (P3), at 20,001 (P4)
abbrev edge : ℕ → ℕ → ℕ → ReportOutcome
edge k f time = report_of (lost_from 7 1) (slots k f 0 0) (pos time) 10000 (0 ∷ [])

p3 : edge 2 0 20000 ≡ report_ended (Ok None) (slots 2 0 0 0) (0 ∷ [])
unfolding report_of is_due runs_to entry_at entry_of slot_of
p3 = refl

p4 : edge 2 0 20001 ≡ report_ended (Ok (Some 1)) (slots 3 20001 0 0) (7 ∷ [])
unfolding report_of is_due slots_to runs_to list_to run_put write_report entry_at entry_of slot_of sum
p4 = refl

-- then not at 50,001 (P5), at 50,002 (P6)
p5 : edge 3 20001 50001 ≡ report_ended (Ok None) (slots 3 20001 0 0) (0 ∷ [])
unfolding report_of is_due runs_to entry_at entry_of slot_of
p5 = refl

p6 : edge 3 20001 50002 ≡ report_ended (Ok (Some 1)) (slots 4 50002 0 0) (7 ∷ [])
unfolding report_of is_due slots_to runs_to list_to run_put write_report entry_at entry_of slot_of sum
p6 = refl

-- k goes no further than 65,535; with k 0 a report is due at feedback + 1; feedback after now is not due (A43)
k_stays : edge 65535 0 655350001 ≡ report_ended (Ok (Some 1)) (slots 65535 655350001 0 0) (7 ∷ [])
unfolding report_of is_due slots_to runs_to list_to run_put write_report entry_at entry_of slot_of sum
k_stays = refl

k-zero : edge 0 4 5 ≡ report_ended (Ok (Some 1)) (slots 1 5 0 0) (7 ∷ [])
unfolding report_of is_due slots_to runs_to list_to run_put write_report entry_at entry_of slot_of sum
k-zero = refl

not_yet : edge 0 5 3 ≡ report_ended (Ok None) (slots 0 5 0 0) (0 ∷ [])
unfolding report_of is_due runs_to entry_at entry_of slot_of
not_yet = refl

-- two numbers make a run (A10); the wrap does not part it (A44); what the list has past the words stays
abbrev two : ℕ → List ℕ → ReportOutcome
two first list = report_of (lost_from first 2) (slots 2 0 2 0) (pos 20001) 10000 list

run-of-two : two 0 (0 ∷ 0 ∷ 9 ∷ []) ≡ report_ended (Ok (Some 2)) (slots 3 20001 3 20001) (2147483648 ∷ 1 ∷ 9 ∷ [])
unfolding report_of is_due slots_to runs_to list_to run_put write_report entry_at entry_of slot_of sum
run-of-two = refl

across-the-wrap : two 2147483647 (0 ∷ 0 ∷ []) ≡ report_ended (Ok (Some 2)) (slots 3 20001 3 20001) (4294967295 ∷ 0 ∷ [])
unfolding report_of is_due slots_to runs_to list_to run_put write_report entry_at entry_of slot_of sum
across-the-wrap = refl

-- a received entry does (A44): the ring starts in slot 3, and entries 0 and 2 of three are lost
parted : report_of (record { capacity = 4; start = 3; held = 3; seqno0 = 0; lrsn = 0 }) (1 ∷ 0 ∷ 0 ∷ 0 ∷ 2 ∷ 0 ∷ 2 ∷ 0 ∷ 0 ∷ 0 ∷ 2 ∷ 0 ∷ []) (pos 20001) 10000 (0 ∷ 0 ∷ [])
    ≡ report_ended (Ok (Some 2)) (1 ∷ 0 ∷ 0 ∷ 0 ∷ 3 ∷ 20001 ∷ 2 ∷ 0 ∷ 0 ∷ 0 ∷ 3 ∷ 20001 ∷ []) (0 ∷ 2 ∷ [])
unfolding report_of is_due slots_to runs_to list_to run_put write_report entry_at entry_of slot_of sum
parted = refl

-- two words do not fit in one (refusal 12)
short : two 0 (0 ∷ []) ≡ report_ended (Err (record {})) (slots 2 0 2 0) (0 ∷ [])
unfolding report_of is_due runs_to entry_at entry_of slot_of
short = refl
