-- Making's answer as 01 writes it, and which refusals 01 leaves to a right use: "Refused, in order of test".
use Rattle.std.specs.Prelude.{◌≡◌, Bool, true, false, not, ◌||◌, [], ◌⊎◌, ℕ, ◌≤◌, eqb, Result, Ok, Err}
use Rattle.head.specs.Rules.{number_of}
use Rattle.head.specs.declared.refusal.Refusal.{Refusal}
use Rattle.head.specs.declared.refusal.Refusal.TheVariants.{PacketTooEarly}
use Rattle.head.specs.declared.state.Head.{Head}
use Rattle.head.specs.Paper.{Line, made, said, refused_line}
use Rattle.receiver.specs.declared.data.DataAnswer.{DataAnswer}

-- making has no line in a trace; it answers a head, or refusal 15
abbrev pub made_line : Result Head Refusal → Line
made_line (Ok h) = said made []
made_line (Err e) = refused_line e

-- what a call can still answer once 1 to 6 cannot occur: no refusal, or one of its own, whose numbers go from one to another
abbrev pub OnlyIn : ℕ → ℕ → Line → Type 0
OnlyIn from to l = (l.refusal ≡ 0) ⊎ ((from ≤ l.refusal) × (l.refusal ≤ to))

-- and of a call that has none of its own: no refusal
abbrev pub Unrefused : Line → Type 0
Unrefused l = l.refusal ≡ 0

-- "8 PacketTooEarly .. returns both": 8 never comes without its room and need
abbrev pub has_both : Refusal → Bool
has_both (PacketTooEarly places need) = true
has_both _ = false

abbrev pub with_both : Result DataAnswer Refusal → Bool
with_both (Ok a) = true
with_both (Err e) = not (eqb (number_of e) 8) || has_both e
