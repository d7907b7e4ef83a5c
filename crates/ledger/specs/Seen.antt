-- What the ledger sees of a call and of its answer: plain cases, one a constructor.
use Rattle.std.specs.Prelude.{◌≡◌, Bool, true, false, List, [], ℕ, ◌+◌, ◌^◌, ◌<◌, ℤ, take, Result, Ok, Err}
use Rattle.numbers.specs.Circular.{distance}
use Rattle.head.specs.Rules.{number_of}
use Rattle.head.specs.declared.refusal.Refusal.{Refusal}
use Rattle.head.specs.declared.refusal.Refusal.TheVariants.{PacketTooEarly}
use Rattle.receiver.specs.declared.data.DataAnswer.{DataAnswer}
use Rattle.receiver.specs.declared.data.DataAnswer.TheVariants as datas
use Rattle.window_pop.specs.declared.pop.PopAnswer.{PopAnswer}
use Rattle.window_pop.specs.declared.pop.PopAnswer.TheVariants as messages
use Rattle.step.specs.Step.{line_of}
use Rattle.step.specs.declared.Call.{Call}
use Rattle.step.specs.declared.Call.TheVariants as calls
use Rattle.step.specs.declared.Answer.{Answer}
use Rattle.step.specs.declared.Answer.TheVariants as answers

-- the numbers of a call
abbrev pub number_in : Call → ℕ
number_in (calls.Data time number message location stamp) = number
number_in (calls.Pop time) = 0
number_in (calls.Report time) = 0
number_in (calls.FullAck time) = 0
number_in (calls.Ack2 time number) = 0
number_in (calls.Drop first last) = first
number_in (calls.Clock time stamp) = 0
number_in calls.Clear = 0

abbrev pub last_in : Call → ℕ
last_in (calls.Data time number message location stamp) = 0
last_in (calls.Pop time) = 0
last_in (calls.Report time) = 0
last_in (calls.FullAck time) = 0
last_in (calls.Ack2 time number) = 0
last_in (calls.Drop first last) = last
last_in (calls.Clock time stamp) = 0
last_in calls.Clear = 0

-- any call but clear; a stamp is a number of 32 bits, as its type in the code says
abbrev pub NotClear : Call → Type 0
NotClear (calls.Data time number message location stamp) = stamp < 2 ^ 32
NotClear (calls.Pop time) = Unit
NotClear (calls.Report time) = Unit
NotClear (calls.FullAck time) = Unit
NotClear (calls.Ack2 time number) = Unit
NotClear (calls.Drop first last) = Unit
NotClear (calls.Clock time stamp) = Unit
NotClear calls.Clear = ⊥

-- the bytes that an answer handed out
abbrev pub pop_bytes : Result PopAnswer Refusal → List ℕ → List ℕ
pop_bytes (Ok messages.Nothing) out = []
pop_bytes (Ok (messages.Message time bytes packets)) out = take bytes out
pop_bytes (Ok (messages.Late first end delay)) out = []
pop_bytes (Err e) out = []

abbrev pub out_bytes : Answer → List ℕ → List ℕ
out_bytes (answers.Data a) out = []
out_bytes (answers.Pop a) out = pop_bytes a out
out_bytes (answers.Report a) out = []
out_bytes (answers.FullAck a) out = []
out_bytes (answers.Ack2 a) out = []
out_bytes (answers.Drop a) out = []
out_bytes (answers.Clock a) out = []
out_bytes (answers.Clear a) out = []

-- how many places an answer entered
abbrev pub data_places : Result DataAnswer Refusal → ℕ
data_places (Ok (datas.Got lrsn true)) = 0
data_places (Ok (datas.Got lrsn false)) = 1
data_places (Ok (datas.Light lrsn true)) = 0
data_places (Ok (datas.Light lrsn false)) = 1
data_places (Ok (datas.Loss a b)) = distance 31 b a + 2
data_places (Err e) = 0

abbrev pub places_in : Answer → ℕ
places_in (answers.Data a) = data_places a
places_in (answers.Pop a) = 0
places_in (answers.Report a) = 0
places_in (answers.FullAck a) = 0
places_in (answers.Ack2 a) = 0
places_in (answers.Drop a) = 0
places_in (answers.Clock a) = 0
places_in (answers.Clear a) = 0

-- whether a packet came for a place that was lost
abbrev pub recovers : Result DataAnswer Refusal → Bool
recovers (Ok (datas.Got lrsn recovered)) = recovered
recovers (Ok (datas.Light lrsn recovered)) = recovered
recovers (Ok (datas.Loss a b)) = false
recovers (Err e) = false

-- whether it came in order
abbrev pub appends : Result DataAnswer Refusal → Bool
appends (Ok (datas.Got lrsn true)) = false
appends (Ok (datas.Got lrsn false)) = true
appends (Ok (datas.Light lrsn true)) = false
appends (Ok (datas.Light lrsn false)) = true
appends (Ok (datas.Loss a b)) = false
appends (Err e) = false

-- whether it came after a gap, and that the gap named is from a to b
abbrev pub is_loss : Result DataAnswer Refusal → Bool
is_loss (Ok (datas.Got lrsn recovered)) = false
is_loss (Ok (datas.Light lrsn recovered)) = false
is_loss (Ok (datas.Loss a b)) = true
is_loss (Err e) = false

abbrev pub LossIs : Result DataAnswer Refusal → ℕ → ℕ → Type 0
LossIs (Ok (datas.Got lrsn recovered)) first last = Unit
LossIs (Ok (datas.Light lrsn recovered)) first last = Unit
LossIs (Ok (datas.Loss a b)) first last = (a ≡ first) × (b ≡ last)
LossIs (Err e) first last = Unit

-- an answer is of its call's kind
abbrev pub kind_of : Call → ℕ
kind_of (calls.Data time number message location stamp) = 1
kind_of (calls.Pop time) = 2
kind_of (calls.Report time) = 3
kind_of (calls.FullAck time) = 4
kind_of (calls.Ack2 time number) = 5
kind_of (calls.Drop first last) = 6
kind_of (calls.Clock time stamp) = 7
kind_of calls.Clear = 8

abbrev pub kind_in : Answer → ℕ
kind_in (answers.Data a) = 1
kind_in (answers.Pop a) = 2
kind_in (answers.Report a) = 3
kind_in (answers.FullAck a) = 4
kind_in (answers.Ack2 a) = 5
kind_in (answers.Drop a) = 6
kind_in (answers.Clock a) = 7
kind_in (answers.Clear a) = 8

-- the reading of a call that has one, and the number of the refusal that an answer tells, 0 for none
abbrev pub reading_in : Call → ℤ → ℤ
reading_in (calls.Data time number message location stamp) z = time
reading_in (calls.Pop time) z = time
reading_in (calls.Report time) z = time
reading_in (calls.FullAck time) z = time
reading_in (calls.Ack2 time number) z = time
reading_in (calls.Drop first last) z = z
reading_in (calls.Clock time stamp) z = time
reading_in calls.Clear z = z

abbrev pub refusal_in : Answer → ℕ
refusal_in a = (line_of a []).refusal

-- the refusal itself, Ok if the answer is none
abbrev pub refusal_of : {A : Type 0} → Result A Refusal → Result Unit Refusal
refusal_of (Ok a) = Ok tt
refusal_of (Err e) = Err e

abbrev pub refused_in : Answer → Result Unit Refusal
refused_in (answers.Data a) = refusal_of a
refused_in (answers.Pop a) = refusal_of a
refused_in (answers.Report a) = refusal_of a
refused_in (answers.FullAck a) = refusal_of a
refused_in (answers.Ack2 a) = refusal_of a
refused_in (answers.Drop a) = refusal_of a
refused_in (answers.Clock a) = refusal_of a
refused_in (answers.Clear a) = refusal_of a

-- 8 never comes without its two numbers, and they are these
abbrev pub EarlyIs : Result DataAnswer Refusal → ℕ → ℕ → Type 0
EarlyIs (Ok (datas.Got lrsn recovered)) room need = Unit
EarlyIs (Ok (datas.Light lrsn recovered)) room need = Unit
EarlyIs (Ok (datas.Loss a b)) room need = Unit
EarlyIs (Err e) room need = number_of e ≡ 8 → e ≡ PacketTooEarly room need
