-- Worked examples of drop requests, computed from the definitions. Assumes nothing.
use mathlib.Core.Path.{◌≡◌, refl}
use mathlib.Core.List.{List, [], ◌∷◌}
use Prim.Native.Nat.{ℕ}
use Rattle.numbers.specs.Circular.{distance, equal, after, before, saturating, sum}
use Rattle.slots.specs.Words.{entry_of, entry_at, write_at}
use Rattle.slots.specs.Ring.{slot_of}
use Rattle.window_report.specs.Drop.{Dropped, drop_ended, give_up, sweep, end_in, drop_of}
use Rattle.window.specs.declared.Window.{Window}

-- first 0, entries 0 to 2 lost, entry 3 received; the ring starts in the last of four slots
abbrev window : Window
window = record { capacity = 4; start = 3; held = 4; seqno0 = 0; lrsn = 0 }

-- slots 0, 1 and 3, which hold entries 1, 2 and 0
abbrev area : ℕ → ℕ → ℕ → ℕ → ℕ → ℕ → List ℕ
area a b c d e f = a ∷ b ∷ 0 ∷ c ∷ d ∷ 0 ∷ 1 ∷ 0 ∷ 0 ∷ e ∷ f ∷ 0 ∷ []

abbrev request : ℕ → ℕ → Dropped
request first last = drop_of window (area 0 2 0 2 0 2) first last

-- an end at a tie reads as 0, each end by itself (A40): past the tie nothing is left ..
tie_end : request 0 1073741823 ≡ drop_ended 0 (area 0 2 0 2 0 2)
unfolding drop_of end_in sweep saturating before equal after distance sum
tie_end = refl

-- .. one before it all three lost entries go ..
before-tie : request 0 1073741822 ≡ drop_ended 3 (area 2 0 2 0 2 0)
unfolding drop_of end_in sweep give_up write_at entry_at entry_of slot_of saturating before equal after distance sum
before-tie = refl

-- .. and from the tie to 1 the first two
tie-start : request 1073741824 1 ≡ drop_ended 2 (area 2 0 0 2 2 0)
unfolding drop_of end_in sweep give_up write_at entry_at entry_of slot_of saturating before equal after distance sum
tie-start = refl

-- an end below its start gives up none (A41)
backwards : request 2 0 ≡ drop_ended 0 (area 0 2 0 2 0 2)
unfolding drop_of end_in sweep saturating before equal after distance sum
backwards = refl

-- a mark 3 is given up already: it is not counted, and its word stays (A42)
mark-three : drop_of window (area 3 7 0 2 0 2) 0 3 ≡ drop_ended 2 (area 3 7 2 0 2 0)
unfolding drop_of end_in sweep give_up write_at entry_at entry_of slot_of saturating before equal after distance sum
mark-three = refl
