-- Worked examples of 01, "Refused, in order of test", computed from the definitions. Assumes nothing.
use mathlib.Core.Path.{◌≡◌, refl}
use mathlib.Core.Bool.{true}
use mathlib.Core.List.{List, [], ◌∷◌}
use Prim.Native.Nat.{ℕ}
use lib.IntN.{pos}
use Rattle.std.specs.Prelude.{Ok, Err}
use Rattle.head.specs.Rules.{number_of, first_refusal, timed_rules, drop_rules}
use Rattle.head.specs.Paper.{refused, plain, refused_line}
use Rattle.head.specs.declared.refusal.Refusal.TheVariants.{AreaShort, ClockBack, BadNumber, PacketTooEarly, PacketTooLate, BadSetting}

-- the numbers of 01's table
early-number : ◌≡◌ {A = List ℕ} (number_of (PacketTooEarly 3 4) ∷ number_of PacketTooLate ∷ number_of BadSetting ∷ []) (8 ∷ 9 ∷ 15 ∷ [])
early-number = refl

-- a report of capacity 2 at 10, the latest reading 10: 5 words are short, 6 are not; at 9 it refuses ClockBack
short-area : first_refusal (timed_rules true 5 6 (pos 10) (pos 10)) ≡ Err AreaShort
short-area = refl

nothing-refuses : first_refusal (timed_rules true 6 6 (pos 10) (pos 10)) ≡ Ok tt
nothing-refuses = refl

goes-back : first_refusal (timed_rules true 6 6 (pos 9) (pos 10)) ≡ Err ClockBack
goes-back = refl

-- the first of two tests that hold answers: the area before the number
area-first : first_refusal (drop_rules true 2 5 0 2147483648) ≡ Err AreaShort
area-first = refl

end-too-large : first_refusal (drop_rules true 2 6 0 2147483648) ≡ Err BadNumber
end-too-large = refl

-- on paper 8 has its room and need, 9 nothing
early-line : refused_line (PacketTooEarly 3 4) ≡ record { word = refused; refusal = 8; values = plain 3 ∷ plain 4 ∷ []; exact = [] }
early-line = refl

late-line : refused_line PacketTooLate ≡ record { word = refused; refusal = 9; values = []; exact = [] }
late-line = refl
