-- The ledger of a receiver: what a station would write down that hands in packets and requests and reads the answers. It never looks at head or areas.
-- A place is a position in the stream, counted 0, 1, 2 and never restarting; place p has the number (first + p) mod 2^31, however often that has wrapped.
use Rattle.std.specs.Prelude.{Bool, true, false, cond, List, [], ◌∷◌, ◌++◌, map, ℕ, suc, ◌+◌, eqb, length, take, drop, replicate, Result, Ok, Err}
use Rattle.numbers.specs.Circular.{distance, sum}
use Rattle.window_report.specs.Drop.{end_from}
use Rattle.views.specs.Lists.{run_of, changed_in}
use Rattle.head.specs.declared.refusal.Refusal.{Refusal}
use Rattle.receiver.specs.declared.data.DataAnswer.{DataAnswer}
use Rattle.receiver.specs.declared.data.DataAnswer.TheVariants as datas
use Rattle.window_pop.specs.declared.pop.PopAnswer.{PopAnswer}
use Rattle.window_pop.specs.declared.pop.PopAnswer.TheVariants as messages
use Rattle.step.specs.declared.Call.{Call}
use Rattle.step.specs.declared.Answer.{Answer}
use Rattle.step.specs.declared.Answer.TheVariants as answers
use Rattle.ledger.specs.Seen.{number_in, last_in}

-- a place that is still held: a gap, a packet with the bytes handed in for it, or a gap that a drop request gave up
pub data Place : Type 0 where
  lost : Place
  received : List ℕ → Place
  given_up : Place

-- what became of a place that is gone: handed out in a message, with its bytes, or discarded late, as an answer said
pub data Fate : Type 0 where
  released : List ℕ → Fate
  discarded : Fate

-- the places gone are 0 and on, in order, and those held follow them
pub record Ledger : Type 0 where
  pub first : ℕ
  pub gone : List Fate
  pub held : List Place

abbrev pub opened : ℕ → Ledger
opened first = record { first = first; gone = []; held = [] }

abbrev pub number_of : Ledger → ℕ → ℕ
number_of l p = sum 31 l.first p

-- the place at the front, the first that is held, and the place that the next packet in order will have
abbrev pub front_of : Ledger → ℕ
front_of l = length l.gone

abbrev pub next_of : Ledger → ℕ
next_of l = front_of l + length l.held

abbrev pub holding : Ledger → List Place → Ledger
holding l ps = record { first = l.first; gone = l.gone; held = ps }

-- the held place with this number has these bytes; the first of the list is place p
unfoldable pub marked : ℕ → ℕ → ℕ → List ℕ → List Place → List Place
marked first p number bytes [] = []
marked first p number bytes (x ∷ xs) = cond (eqb (sum 31 first p) number) (received bytes) x ∷ marked first (suc p) number bytes xs

-- a packet that came in order, or for a place that was lost
abbrev pub took_in : Ledger → ℕ → List ℕ → Bool → Ledger
took_in l number bytes recovered =
    holding l (cond recovered (marked l.first (front_of l) number bytes l.held) (l.held ++ (received bytes ∷ [])))

-- a packet, by its answer: `loss` adds the lost places that it names and then the packet
abbrev pub enter_data : Ledger → ℕ → List ℕ → Result DataAnswer Refusal → Ledger
enter_data l number bytes (Ok (datas.Got lrsn recovered)) = took_in l number bytes recovered
enter_data l number bytes (Ok (datas.Light lrsn recovered)) = took_in l number bytes recovered
enter_data l number bytes (Ok (datas.Loss a b)) = holding l (l.held ++ replicate (distance 31 b a + 1) lost ++ (received bytes ∷ []))
enter_data l number bytes (Err e) = l

-- the first n places leave
abbrev pub leave : Ledger → ℕ → (Place → Fate) → Ledger
leave l n f = record { first = l.first; gone = l.gone ++ map f (take n l.held); held = drop n l.held }

abbrev pub bytes_of : Place → List ℕ
bytes_of lost = []
bytes_of (received bytes) = bytes
bytes_of given_up = []

-- a pop, by its answer: a message releases as many places as it has packets, `late` discards its range
abbrev pub enter_pop : Ledger → Result PopAnswer Refusal → Ledger
enter_pop l (Ok messages.Nothing) = l
enter_pop l (Ok (messages.Message time bytes packets)) = leave l packets (λ x. released (bytes_of x))
enter_pop l (Ok (messages.Late first end delay)) = leave l (distance 31 end first) (λ x. discarded)
enter_pop l (Err e) = l

-- a drop request gives up the lost places of its range: 01, both ends are saturating differences from the front's number, at most as many as are held
abbrev pub gave_up : Place → Place
gave_up lost = given_up
gave_up (received bytes) = received bytes
gave_up given_up = given_up

abbrev pub given_in : ℕ → ℕ → ℕ → List Place → List Place
given_in from to i xs = changed_in gave_up from to i xs

abbrev pub end_in : Ledger → ℕ → ℕ
end_in l number = end_from (number_of l (front_of l)) (length l.held) number

abbrev pub enter_drop : Ledger → ℕ → ℕ → Result ℕ Refusal → Ledger
enter_drop l first last (Ok n) = holding l (given_in (end_in l first) (end_in l (sum 31 last 1)) 0 l.held)
enter_drop l first last (Err e) = l

-- a call with the bytes handed in for it and its answer; reports, ACKs and the clock move no place
abbrev pub enter : Ledger → Call → List ℕ → Answer → Ledger
enter l c bytes (answers.Data a) = enter_data l (number_in c) bytes a
enter l c bytes (answers.Pop a) = enter_pop l a
enter l c bytes (answers.Report a) = l
enter l c bytes (answers.FullAck a) = l
enter l c bytes (answers.Ack2 a) = l
enter l c bytes (answers.Drop a) = enter_drop l (number_in c) (last_in c) a
enter l c bytes (answers.Clock a) = l
enter l c bytes (answers.Clear a) = l

-- of the places held, how many from the front on are received, and how many are lost
abbrev pub is_received : Place → Bool
is_received lost = false
is_received (received bytes) = true
is_received given_up = false

abbrev pub received_run : List Place → ℕ
received_run xs = run_of is_received xs

-- the acknowledgement number: that of the first held place not received, else of the next expected
abbrev pub ack_of : Ledger → ℕ
ack_of l = number_of l (front_of l + received_run l.held)

unfoldable pub lost_count : List Place → ℕ
lost_count [] = 0
lost_count (lost ∷ xs) = lost_count xs + 1
lost_count (received bytes ∷ xs) = lost_count xs
lost_count (given_up ∷ xs) = lost_count xs

-- the bytes of the places released, in the order of the places
unfoldable pub released_bytes : List Fate → List ℕ
released_bytes [] = []
released_bytes (released bytes ∷ fs) = bytes ++ released_bytes fs
released_bytes (discarded ∷ fs) = released_bytes fs
