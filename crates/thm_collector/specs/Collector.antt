-- A collector that links the library: it keeps the head's words, the three areas and the counters' words, and calls the
-- functions of crates/exports, plain or counted as it likes, each on what the last left. A call gives what the contract
-- of its function says; what a function is not lent, or only reads, stays.
use Rattle.std.specs.Prelude.{◌≡◌, Bool, List, [], ◌∷◌, map, ℕ, ℤ, length, replicate}
use Rattle.receiver.specs.Data.{packet}
use Rattle.receiver.specs.Paper.{data_line, message_line}
use Rattle.feedback.specs.Paper.{full_ack_line, rtt_line, clock_line}
use Rattle.upkeep.specs.Paper.{drop_line, clear_line}
use Rattle.counts.specs.declared.Counters.{Counters}
use Rattle.tally.specs.Tally.{counted_of}
use Rattle.packing.specs.Packed.{unpack_of}
use Rattle.packing.specs.Tally.{counters_words}
use Rattle.cells.specs.Cells.{cells_of, loss_cells}
use Rattle.exports.specs.Calls.{left, new_of, data_export_of, message_export_of, loss_export_of, full_ack_export_of}
use Rattle.exports.specs.Calls.{ack2_export_of, drop_export_of, clock_export_of, clear_export_of}
use Rattle.exports.specs.Calls.{data_counted_of, ack2_counted_of, drop_counted_of, clock_counted_of}
use Rattle.step.specs.Step.{State, state_of, Lent, Ended, step_of}
use Rattle.step.specs.declared.Call.{Call}
use Rattle.step.specs.declared.Call.TheVariants as calls
use Rattle.step.specs.declared.Answer.{Answer}
use Rattle.step.specs.declared.Answer.TheVariants as answers
use Rattle.ledger.specs.Runs.{Event, Desk, Book, opening, answered, book_after}
use Rattle.ledger.specs.Claims.{Demanded}

-- what it keeps from call to call, and the receiver that this says
pub record Kept : Type 0 where
  pub words : List ℕ
  pub slots : List ℕ
  pub payloads : List ℕ
  pub history : List ℕ
  pub counts : List ℕ

abbrev pub state_in : Kept → State
state_in x = state_of (unpack_of x.words) x.slots x.payloads x.history

-- what a call gives back: the number that it returns, the answer's cells, what is kept now, and the output and the list
-- that were lent for it
pub record Back : Type 0 where
  pub returned : ℕ
  pub cells : List ℤ
  pub kept : Kept
  pub output : List ℕ
  pub list : List ℕ

-- its start: pt_new returned 0, and the counters' words are zero; the areas have any length and any contents
pub record Started (first : ℕ) (x : Kept) : Type 0 where
  pub before : List ℕ
  pub cells : List ℤ
  pub start : ℤ
  pub latency : ℕ
  pub dropping : Bool
  pub capacity : ℕ
  pub made : left 0 x.words cells [] ≡ new_of before start latency dropping first capacity
  pub zeroed : x.counts ≡ replicate 10 0

-- what it knows then: the settings that it made the receiver with, and the lengths of the areas that it lends
abbrev pub desk_at : {first : ℕ} {x : Kept} → Started first x → Desk
desk_at {x = x} s =
    record {
      capacity = s.capacity;
      latency = s.latency;
      dropping = s.dropping;
      slots = length x.slots;
      payloads = length x.payloads;
      history = length x.history;
      latest = s.start;
    }

-- the function of a call, pt_.., or its form that counts, pt_counted_..
pub data Form : Type 0 where
  plain : Form
  counted : Form

-- one call: x is kept before it, t is lent for it, r comes back
module _ (x : Kept) (t : Lent) (r : Back) where
  abbrev k : Kept
  k = r.kept

  -- the contract of the plain function, and what else stays; of the counters' words see below
  abbrev pub Promised : Call → Type 0
  Promised (calls.Data time number message location stamp) =
      (left r.returned k.words r.cells (k.slots ∷ k.payloads ∷ [])
      ≡ data_export_of x.words x.slots x.payloads time (packet number message location stamp) t.payload)
      × (k.history ≡ x.history) × (r.output ≡ t.output) × (r.list ≡ t.list)
  Promised (calls.Pop time) =
      (left r.returned k.words r.cells (r.output ∷ [])
      ≡ message_export_of x.words x.slots x.payloads t.output time)
      × (k.slots ≡ x.slots) × (k.payloads ≡ x.payloads) × (k.history ≡ x.history) × (r.list ≡ t.list)
  Promised (calls.Report time) =
      (left r.returned k.words r.cells (k.slots ∷ r.list ∷ [])
      ≡ loss_export_of x.words x.slots t.list time)
      × (k.payloads ≡ x.payloads) × (k.history ≡ x.history) × (r.output ≡ t.output)
  Promised (calls.FullAck time) =
      (left r.returned k.words r.cells (k.history ∷ []) ≡ full_ack_export_of x.words x.history time)
      × (k.slots ≡ x.slots) × (k.payloads ≡ x.payloads) × (r.output ≡ t.output) × (r.list ≡ t.list)
  Promised (calls.Ack2 time number) =
      (left r.returned k.words r.cells [] ≡ ack2_export_of x.words x.history time number)
      × (k.slots ≡ x.slots) × (k.payloads ≡ x.payloads) × (k.history ≡ x.history)
      × (r.output ≡ t.output) × (r.list ≡ t.list)
  Promised (calls.Drop first last) =
      (left r.returned x.words r.cells (k.slots ∷ []) ≡ drop_export_of x.words x.slots first last)
      × (k.words ≡ x.words) × (k.payloads ≡ x.payloads) × (k.history ≡ x.history)
      × (r.output ≡ t.output) × (r.list ≡ t.list)
  Promised (calls.Clock time stamp) =
      (left r.returned k.words r.cells [] ≡ clock_export_of x.words time stamp)
      × (k.slots ≡ x.slots) × (k.payloads ≡ x.payloads) × (k.history ≡ x.history)
      × (r.output ≡ t.output) × (r.list ≡ t.list)
  Promised calls.Clear =
      (left r.returned k.words r.cells [] ≡ clear_export_of x.words)
      × (k.slots ≡ x.slots) × (k.payloads ≡ x.payloads) × (k.history ≡ x.history)
      × (r.output ≡ t.output) × (r.list ≡ t.list)

  -- the contract of the form that counts, which writes the counters' words too; the calls that raise nothing have none
  abbrev pub PromisedCounted : Call → Type 0
  PromisedCounted (calls.Data time number message location stamp) =
      (left r.returned k.words r.cells (k.counts ∷ k.slots ∷ k.payloads ∷ [])
      ≡ data_counted_of x.words x.counts x.slots x.payloads time
      (packet number message location stamp) t.payload)
      × (k.history ≡ x.history) × (r.output ≡ t.output) × (r.list ≡ t.list)
  PromisedCounted (calls.Pop time) = ⊥
  PromisedCounted (calls.Report time) = ⊥
  PromisedCounted (calls.FullAck time) = ⊥
  PromisedCounted (calls.Ack2 time number) =
      (left r.returned k.words r.cells (k.counts ∷ [])
      ≡ ack2_counted_of x.words x.counts x.history time number)
      × (k.slots ≡ x.slots) × (k.payloads ≡ x.payloads) × (k.history ≡ x.history)
      × (r.output ≡ t.output) × (r.list ≡ t.list)
  PromisedCounted (calls.Drop first last) =
      (left r.returned x.words r.cells (k.counts ∷ k.slots ∷ [])
      ≡ drop_counted_of x.words x.counts x.slots first last)
      × (k.words ≡ x.words) × (k.payloads ≡ x.payloads) × (k.history ≡ x.history)
      × (r.output ≡ t.output) × (r.list ≡ t.list)
  PromisedCounted (calls.Clock time stamp) =
      (left r.returned k.words r.cells (k.counts ∷ []) ≡ clock_counted_of x.words x.counts time stamp)
      × (k.slots ≡ x.slots) × (k.payloads ≡ x.payloads) × (k.history ≡ x.history)
      × (r.output ≡ t.output) × (r.list ≡ t.list)
  PromisedCounted calls.Clear = ⊥

  -- a plain function is not lent the counters' words
  abbrev pub Gives : Form → Call → Type 0
  Gives plain c = Promised c × (k.counts ≡ x.counts)
  Gives counted c = PromisedCounted c

-- any calls, the newest first, each given what the last left. The questions of room and of a payload write only cells,
-- so they may come between any two.
pub record Turn : Type 0 where
  pub event : Event
  pub form : Form
  pub back : Back

abbrev pub events : List Turn → List Event
events us = map (λ (u : Turn). u.event) us

abbrev pub kept_after : Kept → List Turn → Kept
kept_after x [] = x
kept_after x (u ∷ us) = u.back.kept

abbrev pub Ran : Kept → List Turn → Type 0
Ran x [] = Unit
Ran x (u ∷ us) = Gives (kept_after x us) u.event.lent u.back u.form u.event.call × Ran x us

-- the cells of an answer: those of its line; a report's have the count of its words, which lie in the lent list
abbrev pub cells_in : Answer → List ℤ
cells_in (answers.Data a) = cells_of (data_line a)
cells_in (answers.Pop a) = cells_of (message_line a)
cells_in (answers.Report a) = loss_cells a
cells_in (answers.FullAck a) = cells_of (full_ack_line a)
cells_in (answers.Ack2 a) = cells_of (rtt_line a)
cells_in (answers.Drop a) = cells_of (drop_line a)
cells_in (answers.Clock a) = cells_of (clock_line a)
cells_in (answers.Clear a) = cells_of (clear_line a)

-- a call gives back what a step of the ledger's run leaves
pub record Same (r : Back) (e : Ended) : Type 0 where
  pub state : state_in r.kept ≡ e.state
  pub returned : r.returned ≡ e.line.refusal
  pub cells : r.cells ≡ cells_in e.answer
  pub output : r.output ≡ e.output
  pub list : r.list ≡ e.list

-- a form that counts raises the counters by its answer, a plain one does not
abbrev pub raised_by : Form → Counters → ℕ → Answer → Counters
raised_by plain c size a = c
raised_by counted c size a = counted_of c size a

-- the run of the same calls on the same receiver, with what the collector knows of it
module _ (first : ℕ) (d : Desk) (x : Kept) where
  abbrev pub run_of : List Turn → Book
  run_of us = book_after step_of (opening first d (state_in x)) (events us)

  abbrev pub answer_to : Turn → List Turn → Ended
  answer_to u us = answered step_of (run_of us) u.event

  abbrev pub AllSame : List Turn → Type 0
  AllSame [] = Unit
  AllSame (u ∷ us) = Same u.back (answer_to u us) × AllSame us

  -- the counters by the run's answers
  abbrev pub counters_after : Counters → List Turn → Counters
  counters_after c [] = c
  counters_after c (u ∷ us) =
      raised_by u.form (counters_after c us) (length u.event.lent.payload) (answer_to u us).answer

-- what is shown of it, with its counters from c on: demand 3 holds of the run of its calls, what it keeps is the
-- receiver of that run, each call gave what the run's call leaves, and the counters' words are what its answers count
pub record Collected (first : ℕ) (d : Desk) (x : Kept) (c : Counters) (us : List Turn) : Type 0 where
  pub demanded : Demanded step_of (opening first d (state_in x)) (events us)
  pub receiver : state_in (kept_after x us) ≡ (run_of first d x us).state
  pub same : AllSame first d x us
  pub counters : (kept_after x us).counts ≡ counters_words (counters_after first d x c us)
