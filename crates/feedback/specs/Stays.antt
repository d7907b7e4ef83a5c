-- A refused loss report leaves what it was given: 01, "Refused", "Each returns its number; head, areas and output stay".
use Rattle.std.specs.Prelude.{◌≡◌, List, ℕ}
use Rattle.head.specs.declared.state.Head.{Head}
use Rattle.feedback.specs.Loss.{LossOutcome, loss_ended}

-- refused, an outcome has the head and the areas of the call
abbrev pub LossStays : Head → List ℕ → List ℕ → LossOutcome → Type 0
LossStays h ws list x = (x.line.refusal ≡ 0 → ⊥) → x ≡ loss_ended (record { head = h; answer = x.reported.answer }) ws list
