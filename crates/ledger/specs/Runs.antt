-- Runs: any calls but clear on a fresh receiver, each given what the last left, with the ledger kept beside. `step` is what makes a call: the receiver's, or a wrong one.
use Rattle.std.specs.Prelude.{◌≡◌, Bool, true, cond, List, [], ◌∷◌, ◌++◌, map, ℕ, ◌+◌, eqb, ℤ, length, Ok}
use Rattle.head.specs.Head.{head_ok, made_of}
use Rattle.step.specs.Step.{State, Lent, Ended}
use Rattle.step.specs.declared.Call.{Call}
use Rattle.step.specs.declared.Answer.{Answer}
use Rattle.step.specs.declared.Call.TheVariants as calls
use Rattle.views.specs.View as views
use Rattle.ledger.specs.Seen.{NotClear, out_bytes, places_in, reading_in, refusal_in}
use Rattle.ledger.specs.Ledger.{Place, lost, received, given_up, Ledger, opened, number_of, front_of, ack_of, enter}

-- a call and what is lent for it; any contents
pub record Event : Type 0 where
  pub call : Call
  pub lent : Lent

-- what the station knows of its receiver beside the ledger: the settings that it made it with, how long the areas are that it lends, and the latest reading
-- of a call that was not refused, at first the start
pub record Desk : Type 0 where
  pub capacity : ℕ
  pub latency : ℕ
  pub dropping : Bool
  pub slots : ℕ
  pub payloads : ℕ
  pub history : ℕ
  pub latest : ℤ

-- a call is noted with its answer, and with nothing else
abbrev pub noted : Desk → Call → Answer → Desk
noted d c a =
    record {
      capacity = d.capacity;
      latency = d.latency;
      dropping = d.dropping;
      slots = d.slots;
      payloads = d.payloads;
      history = d.history;
      latest = cond (eqb (refusal_in a) 0) (reading_in c d.latest) d.latest;
    }

-- the station's ledger and desk beside the receiver's state
pub record Book : Type 0 where
  pub ledger : Ledger
  pub desk : Desk
  pub state : State

-- a new ledger, kept from here on
abbrev pub opening : (first : ℕ) → Desk → State → Book
opening first d s = record { ledger = opened first; desk = d; state = s }

-- a fresh receiver: what new made, with areas of any length and any contents
pub record Fresh (first : ℕ) (s : State) : Type 0 where
  pub start : ℤ
  pub latency : ℕ
  pub dropping : Bool
  pub capacity : ℕ
  pub made : made_of start latency dropping first capacity ≡ Ok s.head

-- what the station knows when it has made it
abbrev pub fresh_desk : {first : ℕ} {s : State} → Fresh first s → Desk
fresh_desk {s = s} f =
    record {
      capacity = f.capacity;
      latency = f.latency;
      dropping = f.dropping;
      slots = length s.slots;
      payloads = length s.payloads;
      history = length s.history;
      latest = f.start;
    }

abbrev pub fresh : {first : ℕ} {s : State} → Fresh first s → Book
fresh {first = first} {s = s} f = opening first (fresh_desk f) s

-- a receiver that holds nothing and has acknowledged all: a fresh one, and any other between two messages, after a clear of an empty window too
pub record Empty (first : ℕ) (s : State) : Type 0 where
  pub kept : head_ok s.head ≡ true
  pub none : s.head.window.held ≡ 0
  pub begins : s.head.window.seqno0 ≡ first
  pub acked : s.head.window.lrsn ≡ first

abbrev pub NoneClear : List Event → Type 0
NoneClear [] = Unit
NoneClear (e ∷ past) = NotClear e.call × NoneClear past

module _ (step : State → Lent → Call → Ended) where
  abbrev pub answered : Book → Event → Ended
  answered b e = step b.state e.lent e.call

  abbrev pub turned : Book → Event → Book
  turned b e =
      record { ledger = enter b.ledger e.call e.lent.payload (answered b e).answer; desk = noted b.desk e.call (answered b e).answer; state = (answered b e).state }

  -- the book after these calls; the newest stands first in the list
  unfoldable pub book_after : Book → List Event → Book
  book_after b [] = b
  book_after b (e ∷ past) = turned (book_after b past) e

  -- the bytes that all answers handed out, oldest first
  unfoldable pub handed_out : Book → List Event → List ℕ
  handed_out b [] = []
  handed_out b (e ∷ past) = handed_out b past ++ out_bytes (answered (book_after b past) e).answer (answered (book_after b past) e).output

  -- how many places were ever entered
  unfoldable pub entered : Book → List Event → ℕ
  entered b [] = 0
  entered b (e ∷ past) = entered b past + places_in (answered (book_after b past) e).answer

-- a packet of this number with these bytes was handed in
pub data Sent : List Event → ℕ → List ℕ → Type 0 where
  now : (time : ℤ) (number message location stamp : ℕ) (l : Lent) (past : List Event)
      → Sent (record { call = calls.Data time number message location stamp; lent = l } ∷ past) number l.payload
  before : (e : Event) (past : List Event) (number : ℕ) (bytes : List ℕ) → Sent past number bytes → Sent (e ∷ past) number bytes

-- ledger and receiver agree: the front, the entries held with their marks and bytes, and the acknowledgement number, which is that of the first
-- held place not received, else of the next
abbrev pub place_of : views.Seen → Place
place_of (views.lost k f) = lost
place_of (views.received l m t bytes) = received bytes
place_of views.given_up = given_up

pub record Agrees (l : Ledger) (s : State) : Type 0 where
  pub front : s.head.window.seqno0 ≡ number_of l (front_of l)
  pub entries : map place_of (views.entries s.head.window s.slots s.payloads) ≡ l.held
  pub lrsn : s.head.window.lrsn ≡ ack_of l

-- head and areas agree with what the station knows
pub record Known (d : Desk) (s : State) : Type 0 where
  pub capacity : s.head.window.capacity ≡ d.capacity
  pub latency : s.head.latency ≡ d.latency
  pub dropping : s.head.dropping ≡ d.dropping
  pub slots : length s.slots ≡ d.slots
  pub payloads : length s.payloads ≡ d.payloads
  pub history : length s.history ≡ d.history
  pub latest : s.head.latest ≡ d.latest
