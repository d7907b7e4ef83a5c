-- Worked examples: words read back, with the wrap inside a run. Assumes nothing.
use mathlib.Core.Path.{◌≡◌, refl}
use mathlib.Core.Bool.{not}
use mathlib.Core.List.{List, [], ◌∷◌}
use Prim.Native.Nat.{ℕ, ◌+◌, ◌^◌}
use lib.Dec.{eqb}
use lib.IntN.{pos}
use lib.ListN.{take}
use Rattle.numbers.specs.Circular.{distance, sum}
use Rattle.slots.specs.Words.{entry_of, entry_at, write_report}
use Rattle.slots.specs.Ring.{slot_of}
use Rattle.window_report.specs.Report.{is_due, run_put, slots_to, runs_to, list_to, report_of}
use Rattle.window.specs.declared.Window.{Window}
use Rattle.thm_report.specs.Named.{numbers_from, numbers_after, numbers_in, due_numbers}

-- a number; a run over the wrap; a number
over-the-wrap : numbers_in (7 ∷ (2 ^ 31 + 2147483646) ∷ 1 ∷ 5 ∷ []) ≡ (7 ∷ 2147483646 ∷ 2147483647 ∷ 0 ∷ 1 ∷ 5 ∷ [])
unfolding numbers_after numbers_from distance sum
over-the-wrap = refl

-- five entries from 2147483646 on, lost but for the fourth: three words, which name four numbers
abbrev five : Window
five = record { capacity = 5; start = 0; held = 5; seqno0 = 2147483646; lrsn = 2147483646 }

abbrev slots : List ℕ
slots = 0 ∷ 2 ∷ 0 ∷ 0 ∷ 2 ∷ 0 ∷ 0 ∷ 2 ∷ 0 ∷ 1 ∷ 0 ∷ 0 ∷ 0 ∷ 2 ∷ 0 ∷ []

words-written : take 3 (report_of five slots (pos 20001) 10000 (9 ∷ 9 ∷ 9 ∷ 9 ∷ [])).list ≡ ((2 ^ 31 + 2147483646) ∷ 0 ∷ 2 ∷ [])
unfolding report_of is_due slots_to runs_to list_to run_put write_report entry_at entry_of slot_of sum
words-written = refl

words-named : numbers_in ((2 ^ 31 + 2147483646) ∷ 0 ∷ 2 ∷ []) ≡ due_numbers five (λ i. not (eqb i 3)) 5
unfolding numbers_after numbers_from due_numbers distance sum
words-named = refl

numbers-due : due_numbers five (λ i. not (eqb i 3)) 5 ≡ (2147483646 ∷ 2147483647 ∷ 0 ∷ 2 ∷ [])
unfolding due_numbers sum
numbers-due = refl
