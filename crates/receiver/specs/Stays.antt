-- A refused pop leaves what it was given: 01, "Refused", "Each returns its number; head, areas and output stay".
use Rattle.std.specs.Prelude.{◌≡◌, List, ℕ}
use Rattle.head.specs.declared.state.Head.{Head}
use Rattle.receiver.specs.Message.{MessageOutcome, message_ended}

-- refused, an outcome has the head and the areas of the call
abbrev pub MessageStays : Head → List ℕ → MessageOutcome → Type 0
MessageStays h out x = (x.line.refusal ≡ 0 → ⊥) → x ≡ message_ended (record { head = h; answer = x.given.answer }) out
