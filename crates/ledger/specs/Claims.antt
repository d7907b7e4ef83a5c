-- What is claimed: demand 3, "for a fresh receiver and any calls past any number of wraps, nothing is released twice, out of order, with other bytes, or
-- dropped unseen". The ledger is in Ledger, a run in Runs. Above each claim is its phrase of the demand; docs/WHERE.md has the users' own words, phrase by phrase.
use Rattle.std.specs.Prelude.{◌≡◌, Bool, true, false, ◌||◌, List, [], map, ◌⊎◌, ℕ, ◌+◌, ◌-◌, ◌*◌, ◌^◌, ◌<◌, ◌≤◌, ℤ, length, take, drop, get_or, Option, Some, None, Result, Ok, Err, is_some}
use Rattle.std.specs.Borrow.{Bor}
use Rattle.numbers.specs.Circular.{distance, before, after, sum}
use Rattle.window.specs.Show.{ShownAt}
use Rattle.window.specs.declared.show.Part.{Part}
use Rattle.head.specs.Head.{head_ok}
use Rattle.head.specs.Paper as paper
use Rattle.head.specs.Rules as rules
use Rattle.head.specs.Rules.{first_refusal, push_rules, pop_rules, timed_rules, drop_rules, show_rules, clock_rules, head_rules}
use Rattle.head.specs.declared.refusal.Refusal.{Refusal}
use Rattle.receiver.specs.Data.{packet}
use Rattle.receiver.specs.Paper.{data_line}
use Rattle.receiver.specs.declared.data.DataAnswer.{DataAnswer}
use Rattle.receiver.specs.declared.data.DataAnswer.TheVariants as datas
use Rattle.feedback.specs.declared.acking.FullAck.{FullAck}
use Rattle.window_pop.specs.declared.pop.PopAnswer.{PopAnswer}
use Rattle.window_pop.specs.declared.pop.PopAnswer.TheVariants as messages
use Rattle.step.specs.Step.{State, Lent, Ended, line_of}
use Rattle.step.specs.declared.Call.{Call}
use Rattle.step.specs.declared.Call.TheVariants as calls
use Rattle.step.specs.declared.Answer.{Answer}
use Rattle.step.specs.declared.Answer.TheVariants as answers
use Rattle.ledger.specs.Seen.{NotClear, number_in, last_in, appends, recovers, is_loss, LossIs, EarlyIs, kind_of, kind_in, refusal_in, refused_in}
use Rattle.ledger.specs.Ledger.{lost, received, given_up, released, discarded, Ledger, number_of, front_of, next_of, ack_of, bytes_of, received_run, lost_count, released_bytes, enter_drop}
use Rattle.ledger.specs.Runs.{Event, Desk, Book, opening, Known, Fresh, fresh, Empty, NoneClear, answered, turned, book_after, handed_out, Sent, Agrees}

-- after any calls: past has them all, out is all that they handed out
pub record Holds (l : Ledger) (d : Desk) (s : State) (past : List Event) (out : List ℕ) : Type 0 where
  -- nothing dropped unseen: what the receiver holds is what the ledger says, where a place leaves only by an answer that says so; and its settings and latest reading are what the station knows
  pub agrees : Agrees l s
  pub known : Known d s
  -- nothing twice, nothing out of order: all that was handed out is the bytes of the places released, place by place
  pub handed : out ≡ released_bytes l.gone
  -- no other bytes: what a place was released with, or holds, came in a packet of its number
  pub own : (p : ℕ) (bytes : List ℕ) → get_or l.gone p discarded ≡ released bytes → Sent past (number_of l p) bytes
  pub held : (i : ℕ) (bytes : List ℕ) → get_or l.held i lost ≡ received bytes → Sent past (number_of l (front_of l + i)) bytes
  -- two held places never share a number
  pub apart : (i j : ℕ) → i < length l.held → j < length l.held → number_of l (front_of l + i) ≡ number_of l (front_of l + j) → i ≡ j
  -- no run is ever refused 1
  pub in_range : head_ok s.head ≡ true

-- the answer to a packet, by its number and by the earlier refusal, the first of 1 to 6 (Ok for none), whose tests look
-- at no place; the capacity is the station's
pub record Judges (l : Ledger) (capacity : ℕ) (earlier : Result Unit Refusal) (number : ℕ) (a : Result DataAnswer Refusal) : Type 0 where
  -- taken in order: its number is the next; for a lost place: a held place of its number is lost; after a gap: the gap is what lies between
  pub in_order : appends a ≡ true → number ≡ number_of l (next_of l)
  pub for_lost : recovers a ≡ true → (i : ℕ) × (i < length l.held) × (number_of l (front_of l + i) ≡ number) × (get_or l.held i given_up ≡ lost)
  pub after_gap : is_loss a ≡ true → after 31 number (number_of l (next_of l)) ≡ true
  pub gap_named : LossIs a (number_of l (next_of l)) (sum 31 number (2 ^ 31 - 1))
  -- and a packet of each of these kinds is taken: one of the number next expected, after any number of wraps, if there is room ..
  pub next : earlier ≡ Ok tt → number ≡ number_of l (next_of l) → length l.held < capacity → appends a ≡ true
  -- .. one whose held place is lost ..
  pub taken : earlier ≡ Ok tt → (i : ℕ) → i < length l.held → number_of l (front_of l + i) ≡ number → get_or l.held i given_up ≡ lost → recovers a ≡ true
  -- .. and one after a gap, if there is room for both
  pub gap : earlier ≡ Ok tt → after 31 number (number_of l (next_of l)) ≡ true → length l.held + distance 31 number (number_of l (next_of l)) + 1 ≤ capacity → is_loss a ≡ true
  -- one that is not refused is taken
  pub took : (data_line a).refusal ≡ 0 → (appends a || recovers a || is_loss a) ≡ true
  -- 7 and 8: there is no room for it at the next expected number, or after it; 8 has both numbers, the room and the need
  pub full : (data_line a).refusal ≡ 7 → (number ≡ number_of l (next_of l)) × (length l.held ≡ capacity)
  pub early : (data_line a).refusal ≡ 8 → (after 31 number (number_of l (next_of l)) ≡ true) × (capacity < length l.held + distance 31 number (number_of l (next_of l)) + 1)
  pub room : EarlyIs a (capacity - length l.held) (distance 31 number (number_of l (next_of l)) + 1)
  -- 9: it is before the front, and not after the next expected, which is tested before; 7, 8 and 9: it has no held place
  pub late : (data_line a).refusal ≡ 9 → (before 31 number (number_of l (front_of l)) ≡ true) × (after 31 number (number_of l (next_of l)) ≡ false)
  pub unplaced : 7 ≤ (data_line a).refusal → (data_line a).refusal ≤ 9 → (i : ℕ) → i < length l.held → number_of l (front_of l + i) ≡ number → ⊥
  -- 10, a duplicate: its held place is received or given up
  pub duplicate : (data_line a).refusal ≡ 10 → (i : ℕ) × (i < length l.held) × (number_of l (front_of l + i) ≡ number) × (get_or l.held i lost ≡ lost → ⊥)

-- the bytes of the first held places, in order
abbrev pub front_bytes : Ledger → (places : ℕ) → List ℕ
front_bytes l n = released_bytes (map (λ x. released (bytes_of x)) (take n l.held))

-- a pop: a message's places are all received, its output is their bytes, in order, and their count is right; a late drop names the places that it discards, and
-- there is none where the station turned dropping off; 11 comes only if the received places in front have more bytes than the output that was lent
abbrev pub Tells : Ledger → Desk → Result PopAnswer Refusal → (output : List ℕ) → Type 0
Tells l d (Ok messages.Nothing) out = Unit
Tells l d (Ok (messages.Message time bytes packets)) out =
    (0 < packets) × (packets ≤ received_run l.held) × (take bytes out ≡ front_bytes l packets) × (bytes ≡ length (front_bytes l packets))
Tells l d (Ok (messages.Late first end delay)) out =
    (d.dropping ≡ true)
    × (0 < distance 31 end first)
    × (distance 31 end first ≤ length l.held)
    × (first ≡ number_of l (front_of l))
    × (end ≡ number_of l (front_of l + distance 31 end first))
Tells l d (Err e) out = rules.number_of e ≡ 11 → (packets : ℕ) × (0 < packets) × (packets ≤ received_run l.held) × (length out < length (front_bytes l packets))

-- a drop request counts the places that it gives up
abbrev pub Counts : Ledger → ℕ → ℕ → Result ℕ Refusal → Type 0
Counts l first last (Ok n) = lost_count l.held ≡ lost_count (enter_drop l first last (Ok n)).held + n
Counts l first last (Err e) = Unit

-- a loss report has words, as many as the list has room for at most; 12 comes only if the list that was lent has less than a word for each held place
abbrev pub Reports : (held : ℕ) → Result (Option ℕ) Refusal → (list : List ℕ) → Type 0
Reports held (Ok None) list = Unit
Reports held (Ok (Some words)) list = (0 < words) × (words ≤ length list)
Reports held (Err e) list = rules.number_of e ≡ 12 → length list < held

-- the first of the refusals 1 to 6 whose test holds for a call, Ok if none does: ok says that the head is in range; the
-- other arguments are capacity, the lengths of the areas, and the latest reading
module _ (ok : Bool) (capacity slots payloads history : ℕ) (latest : ℤ) (t : Lent) where
  abbrev pub early_by : Call → Result Unit Refusal
  early_by (calls.Data time number message location stamp) =
      first_refusal (push_rules ok capacity slots payloads time latest (packet number message location stamp) (length t.payload))
  early_by (calls.Pop time) = first_refusal (pop_rules ok capacity slots payloads time latest)
  early_by (calls.Report time) = first_refusal (timed_rules ok slots (3 * capacity) time latest)
  early_by (calls.FullAck time) = first_refusal (timed_rules ok history 2048 time latest)
  early_by (calls.Ack2 time number) = first_refusal (timed_rules ok history 2048 time latest)
  early_by (calls.Drop first last) = first_refusal (drop_rules ok capacity slots first last)
  early_by (calls.Clock time stamp) = first_refusal (clock_rules ok time latest)
  early_by calls.Clear = first_refusal (head_rules ok)

-- by what the station knows; a receiver that it made is never refused 1
abbrev pub early_refusal : Desk → Lent → Call → Result Unit Refusal
early_refusal d t c = early_by true d.capacity d.slots d.payloads d.history d.latest t c

-- the later refusals of each call
abbrev pub Later : Call → ℕ → Type 0
Later (calls.Data time number message location stamp) n = (7 ≤ n) × (n ≤ 10)
Later (calls.Pop time) n = n ≡ 11
Later (calls.Report time) n = n ≡ 12
Later (calls.FullAck time) n = n ≡ 13
Later (calls.Ack2 time number) n = ⊥
Later (calls.Drop first last) n = ⊥
Later (calls.Clock time stamp) n = n ≡ 14
Later calls.Clear n = ⊥

-- a call is refused by 1 to 6 just if a test holds, else by none or by a later number of its own; and a refusal never has the number 0
pub record Refuses (earlier : Result Unit Refusal) (c : Call) (a : Answer) : Type 0 where
  pub tested : (refused_in a ≡ earlier) ⊎ ((earlier ≡ Ok tt) × Later c (refusal_in a))
  pub numbered : (line_of a []).word ≡ paper.refused → 0 < refusal_in a

-- what an answer says is so, with the output and the list as they are after it
abbrev pub Says : Ledger → Desk → Lent → Call → Answer → (output list : List ℕ) → Type 0
Says l d t c (answers.Data a) out list = Judges l d.capacity (early_refusal d t c) (number_in c) a
Says l d t c (answers.Pop a) out list = Tells l d a out
Says l d t c (answers.Report a) out list = Reports (length l.held) a list
Says l d t c (answers.FullAck a) out list = Unit
Says l d t c (answers.Ack2 a) out list = Unit
Says l d t c (answers.Drop a) out list = Counts l (number_in c) (last_in c) a
Says l d t c (answers.Clock a) out list = Unit
Says l d t c (answers.Clear a) out list = Unit

-- the acknowledgement number that an answer tells is the ledger's, after the call, and so is the room that a full ACK tells
abbrev pub DataAcks : (lrsn : ℕ) → Result DataAnswer Refusal → Type 0
DataAcks n (Ok (datas.Got lrsn recovered)) = lrsn ≡ n
DataAcks n (Ok (datas.Light lrsn recovered)) = lrsn ≡ n
DataAcks n (Ok (datas.Loss a b)) = Unit
DataAcks n (Err e) = Unit

abbrev pub FullAcks : (lrsn room : ℕ) → Result (Option FullAck) Refusal → Type 0
FullAcks n m (Ok None) = Unit
FullAcks n m (Ok (Some a)) = (a.lrsn ≡ n) × (a.room ≡ m)
FullAcks n m (Err e) = Unit

abbrev pub Acks : (lrsn room : ℕ) → Answer → Type 0
Acks n m (answers.Data a) = DataAcks n a
Acks n m (answers.Pop a) = Unit
Acks n m (answers.Report a) = Unit
Acks n m (answers.FullAck a) = FullAcks n m a
Acks n m (answers.Ack2 a) = Unit
Acks n m (answers.Drop a) = Unit
Acks n m (answers.Clock a) = Unit
Acks n m (answers.Clear a) = Unit

-- one call more: the answer is of its call's kind, its line is its own, output and list are as long as they were lent, the number it acknowledges and the room
-- are the ledger's after it, and what it says is so
pub record Told (b b₁ : Book) (e : Event) (r : Ended) : Type 0 where
  pub kind : kind_in r.answer ≡ kind_of e.call
  pub line : r.line ≡ line_of r.answer r.list
  pub lent : (length r.output ≡ length e.lent.output) × (length r.list ≡ length e.lent.list)
  pub acks : Acks (ack_of b₁.ledger) (b₁.desk.capacity - length b₁.ledger.held) r.answer
  pub refuses : Refuses (early_refusal b.desk e.lent e.call) e.call r.answer
  pub says : Says b.ledger b.desk e.lent e.call r.answer r.output r.list

-- demand 3, of what makes a call, from a book just opened
pub record Demanded (step : State → Lent → Call → Ended) (b : Book) (past : List Event) : Type 0 where
  pub holds : Holds (book_after step b past).ledger (book_after step b past).desk (book_after step b past).state past (handed_out step b past)
  pub told : (e : Event) → NotClear e.call → Told (book_after step b past) (turned step (book_after step b past) e) e (answered step (book_after step b past) e)

abbrev pub Demand3 : (step : State → Lent → Call → Ended) → Type 0
Demand3 step = (first : ℕ) (s : State) (f : Fresh first s) (past : List Event) → NoneClear past → Demanded step (fresh f) past

-- the same from any moment at which the receiver holds nothing and has acknowledged all, with what the station knows then
abbrev pub Stretch : (step : State → Lent → Call → Ended) → Type 0
Stretch step =
    (first : ℕ) (d : Desk) (s : State) → Empty first s → Known d s → (past : List Event) → NoneClear past → Demanded step (opening first d s) past

-- show, asked for a number: the tests are by what the station knows
abbrev pub show_refusal : Desk → (number : ℕ) → Result Unit Refusal
show_refusal d number = first_refusal (show_rules true d.capacity d.slots d.payloads number)

-- its second question, by the refusal and by whether a part was shown
abbrev pub questioned : Result Unit Refusal → (shown : Bool) → Result Bool Refusal
questioned (Ok _) shown = Ok shown
questioned (Err e) shown = Err e

-- what show shows is the ledger's bytes of a held received place, and they are shown exactly then; where there is no
-- part, what is shown is empty
pub record Shows (l : Ledger) (refusal : Result Unit Refusal) (number : ℕ) (payloads : List ℕ) (p : Option Part) (a : Result Bool Refusal) : Type 0 where
  pub found : (q : Part) → p ≡ Some q → (i : ℕ) × (i < length l.held) × (number_of l (front_of l + i) ≡ number) × (get_or l.held i lost ≡ received (take q.len (drop q.at payloads)))
  pub inside : (q : Part) → p ≡ Some q → q.at + q.len ≤ length payloads
  pub shown : refusal ≡ Ok tt → (i : ℕ) (bytes : List ℕ) → i < length l.held → number_of l (front_of l + i) ≡ number → get_or l.held i lost ≡ received bytes
      → (q : Part) × (p ≡ Some q) × (take q.len (drop q.at payloads) ≡ bytes) × (q.len ≡ length bytes)
  pub empty : p ≡ None → (s r : Bor (List ℕ)) → ShownAt p s r → length r.now ≡ 0
  pub answer : a ≡ questioned refusal (is_some p)

-- after any calls, of what shows and what answers the second question
abbrev pub DemandShown : (step : State → Lent → Call → Ended) → (place : State → ℕ → Option Part) → (question : State → ℕ → Result Bool Refusal) → Type 0
DemandShown step place question =
    (first : ℕ) (s : State) (f : Fresh first s) (past : List Event) → NoneClear past → (number : ℕ)
    → let b = book_after step (fresh f) past in
    Shows b.ledger (show_refusal b.desk number) number b.state.payloads (place b.state number) (question b.state number)
