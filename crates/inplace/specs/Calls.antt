-- The calls on a head's words: each is the receiver's on the head that the words say, and the words of the head that it leaves are written unless it
-- refuses.
use Rattle.std.specs.Prelude.{cond, List, ℕ, eqb, ℤ, Result}
use Rattle.window.specs.declared.push.Packet.{Packet}
use Rattle.receiver.specs.Data.{DataOutcome, data_call_of}
use Rattle.receiver.specs.declared.data.DataAnswer.{DataAnswer}
use Rattle.receiver.specs.Message.{MessageOutcome, pop_call_of}
use Rattle.head.specs.Paper.{Line}
use Rattle.head.specs.declared.refusal.Refusal.{Refusal}
use Rattle.receiver.specs.Paper.{data_line, message_line}
use Rattle.window_pop.specs.declared.pop.PopAnswer.{PopAnswer}
use Rattle.packing.specs.Packed.{pack_of, unpack_of}

-- the words after a call by its refusal
abbrev pub kept_or : ℕ → List ℕ → List ℕ → List ℕ
kept_or n next ws = cond (eqb n 0) next ws

-- all that a pop leaves: the answer, its line on paper, the head's words and the output
pub record PopIn : Type 0 where
  pub answer : Result PopAnswer Refusal
  pub line : Line
  pub words : List ℕ
  pub output : List ℕ

abbrev pub pop_in : Result PopAnswer Refusal → List ℕ → List ℕ → PopIn
pop_in a ws out = record { answer = a; line = message_line a; words = ws; output = out }

abbrev pub message_left : List ℕ → MessageOutcome → PopIn
message_left ws o = record { answer = o.given.answer; line = o.line; words = kept_or o.line.refusal (pack_of o.given.head) ws; output = o.output }

abbrev pub message_in : List ℕ → List ℕ → List ℕ → List ℕ → ℤ → PopIn
message_in ws slots bs out now = message_left ws (pop_call_of (unpack_of ws) slots bs out now)

-- all that a data packet leaves: the answer, its line, the head's words, the slot area and the payload area
pub record DataLeft : Type 0 where
  pub answer : Result DataAnswer Refusal
  pub line : Line
  pub words : List ℕ
  pub slots : List ℕ
  pub payloads : List ℕ

abbrev pub data_left : Result DataAnswer Refusal → List ℕ → List ℕ → List ℕ → DataLeft
data_left a ws slots bs = record { answer = a; line = data_line a; words = ws; slots = slots; payloads = bs }

abbrev pub data_after : List ℕ → DataOutcome → DataLeft
data_after ws o =
    record { answer = o.handled.answer; line = o.line; words = kept_or o.line.refusal (pack_of o.handled.head) ws; slots = o.slots; payloads = o.payloads }

abbrev pub data_in : List ℕ → List ℕ → List ℕ → ℤ → Packet → List ℕ → DataLeft
data_in ws slots bs now p payload = data_after ws (data_call_of (unpack_of ws) slots bs now p payload)
