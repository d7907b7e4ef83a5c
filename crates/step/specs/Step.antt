-- One step: any call of the receiver on a head and its areas, with what is lent for that call. It says only which call is made; what each does is the receiver's definition.
use Rattle.std.specs.Prelude.{List, [], ℕ, ℤ}
use Rattle.window.specs.declared.push.Packet.{Packet}
use Rattle.head.specs.declared.state.Head.{Head}
use Rattle.feedback.specs.Acking.{ack2_call_of, full_ack_call_of}
use Rattle.receiver.specs.Data.{packet, data_call_of}
use Rattle.feedback.specs.Loss.{report_call_of}
use Rattle.receiver.specs.Message.{pop_call_of}
use Rattle.upkeep.specs.Request.{drop_call_of, clear_call_of}
use Rattle.head.specs.Paper.{Line}
use Rattle.receiver.specs.Paper.{data_line, message_line}
use Rattle.feedback.specs.Paper.{loss_line, clock_line, full_ack_line, rtt_line}
use Rattle.upkeep.specs.Paper.{drop_line, clear_line}
use Rattle.feedback.specs.Sync.{clock_call_of}
use Rattle.step.specs.declared.Call.{Call}
use Rattle.step.specs.declared.Call.TheVariants as calls
use Rattle.step.specs.declared.Answer.{Answer}
use Rattle.step.specs.declared.Answer.TheVariants as answers
use Rattle.step.specs.declared.Stepped.{Stepped}

-- what lasts from call to call: the head, the slot area, the payload area, the history area
pub record State : Type 0 where
  pub head : Head
  pub slots : List ℕ
  pub payloads : List ℕ
  pub history : List ℕ

abbrev pub state_of : Head → List ℕ → List ℕ → List ℕ → State
state_of h ws bs a = record { head = h; slots = ws; payloads = bs; history = a }

-- what is lent for one call: a packet's bytes, the output of a pop, the words of a loss report
pub record Lent : Type 0 where
  pub payload : List ℕ
  pub output : List ℕ
  pub list : List ℕ

abbrev pub lent_for : List ℕ → List ℕ → List ℕ → Lent
lent_for payload out list = record { payload = payload; output = out; list = list }

-- what one call leaves: head and answer, and the areas that it was lent to write, in its own order
pub record CallLeft : Type 0 where
  pub stepped : Stepped
  pub first_area : List ℕ
  pub second_area : List ℕ

abbrev pub call_left : Stepped → List ℕ → List ℕ → CallLeft
call_left r xs ys = record { stepped = r; first_area = xs; second_area = ys }

abbrev pub stepped : Head → Answer → Stepped
stepped h a = record { head = h; answer = a }

abbrev pub data_left : Head → List ℕ → List ℕ → ℤ → Packet → List ℕ → CallLeft
data_left h ws bs now p payload =
    let o = data_call_of h ws bs now p payload in
    call_left (stepped o.handled.head (answers.Data o.handled.answer)) o.slots o.payloads

-- of a pop, with the two areas that it only reads
pub record PopLeft : Type 0 where
  pub stepped : Stepped
  pub slots : List ℕ
  pub payloads : List ℕ
  pub output : List ℕ

abbrev pub pop_call_left : Stepped → List ℕ → List ℕ → List ℕ → PopLeft
pop_call_left r ws bs out = record { stepped = r; slots = ws; payloads = bs; output = out }

abbrev pub pop_left : Head → List ℕ → List ℕ → List ℕ → ℤ → PopLeft
pop_left h ws bs out now =
    let o = pop_call_of h ws bs out now in
    pop_call_left (stepped o.given.head (answers.Pop o.given.answer)) ws bs o.output

abbrev pub report_left : Head → List ℕ → List ℕ → ℤ → CallLeft
report_left h ws list now = let o = report_call_of h ws list now in call_left (stepped o.reported.head (answers.Report o.reported.answer)) o.slots o.list

abbrev pub full_ack_left : Head → List ℕ → ℤ → CallLeft
full_ack_left h a now = let o = full_ack_call_of h a now in call_left (stepped o.acked.head (answers.FullAck o.acked.answer)) o.area []

abbrev pub ack2_left : Head → List ℕ → ℤ → ℕ → CallLeft
ack2_left h a now number = let o = ack2_call_of h a now number in call_left (stepped o.acked2.head (answers.Ack2 o.acked2.answer)) [] []

abbrev pub drop_left : Head → List ℕ → ℕ → ℕ → CallLeft
drop_left h ws first last = let o = drop_call_of h ws first last in call_left (stepped h (answers.Drop o.answer)) o.slots []

abbrev pub clock_left : Head → ℤ → ℕ → CallLeft
clock_left h now stamp = let o = clock_call_of h now stamp in call_left (stepped o.clocked.head (answers.Clock o.clocked.answer)) [] []

abbrev pub clear_left : Head → CallLeft
clear_left h = let o = clear_call_of h in call_left (stepped o.cleared.head (answers.Clear o.cleared.answer)) [] []

-- an answer on paper; the words of a report are the first of the list
abbrev pub line_of : Answer → List ℕ → Line
line_of (answers.Data a) list = data_line a
line_of (answers.Pop a) list = message_line a
line_of (answers.Report a) list = loss_line a list
line_of (answers.FullAck a) list = full_ack_line a
line_of (answers.Ack2 a) list = rtt_line a
line_of (answers.Drop a) list = drop_line a
line_of (answers.Clock a) list = clock_line a
line_of (answers.Clear a) list = clear_line a

-- all that a step leaves: its answer and that answer's line, the state, and the output and the words
pub record Ended : Type 0 where
  pub answer : Answer
  pub line : Line
  pub state : State
  pub output : List ℕ
  pub list : List ℕ

abbrev pub ended : Stepped → List ℕ → List ℕ → List ℕ → List ℕ → List ℕ → Ended
ended r ws bs a out list = record { answer = r.answer; line = line_of r.answer list; state = state_of r.head ws bs a; output = out; list = list }

-- a call takes only the areas that it needs; all else stays
module _ (s : State) (l : Lent) where
  abbrev pub step_of : Call → Ended
  step_of (calls.Data time number message location stamp) =
      let t = data_left s.head s.slots s.payloads time (packet number message location stamp) l.payload in
      ended t.stepped t.first_area t.second_area s.history l.output l.list
  step_of (calls.Pop time) =
      let t = pop_left s.head s.slots s.payloads l.output time in
      ended t.stepped t.slots t.payloads s.history t.output l.list
  step_of (calls.Report time) =
      let t = report_left s.head s.slots l.list time in
      ended t.stepped t.first_area s.payloads s.history l.output t.second_area
  step_of (calls.FullAck time) =
      let t = full_ack_left s.head s.history time in
      ended t.stepped s.slots s.payloads t.first_area l.output l.list
  step_of (calls.Ack2 time number) =
      ended (ack2_left s.head s.history time number).stepped s.slots s.payloads s.history l.output l.list
  step_of (calls.Drop first last) =
      let t = drop_left s.head s.slots first last in
      ended t.stepped t.first_area s.payloads s.history l.output l.list
  step_of (calls.Clock time stamp) =
      ended (clock_left s.head time stamp).stepped s.slots s.payloads s.history l.output l.list
  step_of calls.Clear =
      ended (clear_left s.head).stepped s.slots s.payloads s.history l.output l.list
