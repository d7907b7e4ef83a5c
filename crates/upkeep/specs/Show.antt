-- Show and its second question: 01, "Window", "any other number, or refusal 1, 2 or 5, shows an empty part; a second question says which of these, or received".
use Rattle.std.specs.Prelude.{Bool, true, false, List, ℕ, length, Option, Some, None, Result, Ok, Err}
use Rattle.window.specs.Show.{shown_of}
use Rattle.window.specs.declared.show.Part.{Part}
use Rattle.head.specs.Rules.{first_refusal, judged, show_rules}
use Rattle.head.specs.Head.{head_ok}
use Rattle.head.specs.declared.refusal.Refusal.{Refusal}
use Rattle.head.specs.declared.state.Head.{Head}
use Rattle.head.specs.Paper.{Line}
use Rattle.upkeep.specs.Paper.{shown_line}

-- refusals 1, 2 and 5; bytes is the length of the payload area
abbrev pub refusal_of : Head → List ℕ → ℕ → ℕ → Result Unit Refusal
refusal_of h ws bytes number = first_refusal (show_rules (head_ok h) h.window.capacity (length ws) bytes number)

-- the part of an area of that many bytes
unfoldable pub place_call_of : Head → List ℕ → ℕ → ℕ → Option Part
place_call_of h ws bytes number = judged (refusal_of h ws bytes number) (shown_of h.window ws number) (λ e. None)

-- all that the second question leaves
pub record ShownOutcome : Type 0 where
  pub answer : Result Bool Refusal
  pub line : Line

abbrev pub shown_ended : Result Bool Refusal → ShownOutcome
shown_ended a = record { answer = a; line = shown_line a }

-- which of these, or received
abbrev pub found_as : Option Part → ShownOutcome
found_as (Some p) = shown_ended (Ok true)
found_as None = shown_ended (Ok false)

unfoldable pub shown_call_of : Head → List ℕ → ℕ → ℕ → ShownOutcome
shown_call_of h ws bytes number =
    judged (refusal_of h ws bytes number) (found_as (shown_of h.window ws number)) (λ e. shown_ended (Err e))
