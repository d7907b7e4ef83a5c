-- The entries of a window as a list, front first: what a reader of 01, "Window", thinks of.
use Rattle.std.specs.Prelude.{◌≡◌, Bool, true, false, cond, List, [], ◌∷◌, ◌++◌, map, ℕ, zero, suc, ◌<◌, ◌≤◌, ℤ, nat_abs, length, set, take, drop, replicate, Option, Some, None, Result, Ok, Err}
use Rattle.numbers.specs.Circular.{distance}
use Rattle.slots.specs.Words.{entry_at}
use Rattle.slots.specs.Ring.{slot_of, payload_at}
use Rattle.slots.specs.declared.entry.Entry.{Entry}
use Rattle.slots.specs.declared.entry.Entry.TheVariants.{Lost, Received, GivenUp}
use Rattle.window.specs.Window.{number_in, next_of}
use Rattle.window.specs.Push.{PushOutcome, window_after, answered}
use Rattle.window.specs.declared.Window.{Window}
use Rattle.window.specs.declared.push.Packet.{Packet}
use Rattle.window.specs.declared.push.PushAnswer.{PushAnswer}
use Rattle.window.specs.declared.push.PushAnswer.TheVariants as answers
use Rattle.window.specs.declared.push.PushRefusal.{PushRefusal}
use Rattle.window_pop.specs.Pop.{PopOutcome}
use Rattle.window_pop.specs.declared.pop.OutShort.{OutShort}
use Rattle.window_pop.specs.declared.pop.PopAnswer.{PopAnswer}
use Rattle.window_pop.specs.declared.pop.PopAnswer.TheVariants as pops
use Rattle.window_report.specs.Report.{is_due, k_after}
use Rattle.window_report.specs.declared.report.ListShort.{ListShort}
use Rattle.views.specs.Lists.{run_of, changed_in}

-- an entry with its bytes
pub data Seen : Type 0 where
  lost : ℕ → ℕ → Seen
  received : ℕ → ℕ → ℕ → List ℕ → Seen
  given_up : Seen

abbrev pub seen_of : List ℕ → ℕ → Entry → Seen
seen_of bs s (Lost k f) = lost k f
seen_of bs s (Received n l m t) = received l m t (payload_at bs s n)
seen_of bs s GivenUp = given_up

abbrev pub seen_at : List ℕ → List ℕ → ℕ → Seen
seen_at ws bs s = seen_of bs s (entry_at ws s)

-- the n entries from entry i on
unfoldable pub entries_from : ℕ → ℕ → List ℕ → List ℕ → ℕ → ℕ → List Seen
entries_from capacity start ws bs i zero = []
entries_from capacity start ws bs i (suc n) = seen_at ws bs (slot_of capacity start i) ∷ entries_from capacity start ws bs (suc i) n

abbrev pub entries : Window → List ℕ → List ℕ → List Seen
entries w ws bs = entries_from w.capacity w.start ws bs 0 w.held

abbrev pub is_received : Seen → Bool
is_received (lost k f) = false
is_received (received l m t b) = true
is_received given_up = false

-- how many entries are received before the first that is not
abbrev pub gap_in : List Seen → ℕ
gap_in es = run_of is_received es

-- lrsn names the first held entry not received, else the next expected number
abbrev pub LrsnRight : Window → List Seen → Type 0
LrsnRight w es = w.lrsn ≡ number_in w (gap_in es)

-- what a push does to the list, by its answer
abbrev pub packet_seen : Packet → List ℕ → Seen
packet_seen p payload = received p.location p.message p.stamp payload

abbrev pub after_push : Window → ℤ → Packet → List ℕ → List Seen → Result PushAnswer PushRefusal → List Seen
after_push w time p payload es (Ok (answers.Got lrsn true)) = set es (distance 31 p.number w.seqno0) (packet_seen p payload)
after_push w time p payload es (Ok (answers.Got lrsn false)) = es ++ (packet_seen p payload ∷ [])
after_push w time p payload es (Ok (answers.Loss first last)) = es ++ replicate (distance 31 p.number (next_of w)) (lost 2 (nat_abs time)) ++ (packet_seen p payload ∷ [])
after_push w time p payload es (Err e) = es

-- the entries after a push are that list
abbrev pub SeenAfter : Window → List ℕ → List ℕ → ℤ → Packet → List ℕ → PushOutcome → Type 0
SeenAfter w ws bs time p payload o = entries (window_after w o.pushed) o.slots o.payloads ≡ after_push w time p payload (entries w ws bs) (answered o.pushed)

-- lrsn is right after a push of this window
abbrev pub RightAfter : Window → PushOutcome → Type 0
RightAfter w o = LrsnRight (window_after w o.pushed) (entries (window_after w o.pushed) o.slots o.payloads)

-- what a pop does to the list, by its answer: a message takes its packets off the front, a late drop its range
abbrev pub after_pop : List Seen → Result PopAnswer OutShort → List Seen
after_pop es (Ok pops.Nothing) = es
after_pop es (Ok (pops.Message time bytes packets)) = drop packets es
after_pop es (Ok (pops.Late first end delay)) = drop (distance 31 end first) es
after_pop es (Err e) = es

-- the bytes of entries, one after the other
abbrev pub bytes_in : Seen → List ℕ
bytes_in (lost k f) = []
bytes_in (received l m t b) = b
bytes_in given_up = []

unfoldable pub joined : List Seen → List ℕ
joined [] = []
joined (e ∷ es) = bytes_in e ++ joined es

-- a message's output is the bytes of its entries, one after the other, all of them received; past them the output stays
pub record Handed (w : Window) (es : List Seen) (out : List ℕ) (x : PopOutcome) (bytes packets : ℕ) : Type 0 where
  pub some : 0 < packets
  pub held : packets ≤ w.held
  pub whole : packets ≤ gap_in es
  pub long : bytes ≡ length (joined (take packets es))
  pub output : x.output ≡ joined (take packets es) ++ drop bytes out

-- what a loss report does to the list: only k and feedback of lost entries that are due change
abbrev pub reported_seen : ℤ → ℕ → Seen → Seen
reported_seen time mean (lost k f) = cond (is_due time mean (Lost k f)) (lost (k_after (Lost k f)) (nat_abs time)) (lost k f)
reported_seen time mean (received l m t b) = received l m t b
reported_seen time mean given_up = given_up

abbrev pub after_report : ℤ → ℕ → List Seen → Result (Option ℕ) ListShort → List Seen
after_report time mean es (Ok None) = es
after_report time mean es (Ok (Some words)) = map (reported_seen time mean) es
after_report time mean es (Err e) = es

-- what a drop request does to the list: lost entries in its range, counted from the front, are given up
abbrev pub gave_up : Seen → Seen
gave_up (lost k f) = given_up
gave_up (received l m t b) = received l m t b
gave_up given_up = given_up

abbrev pub given_in : ℕ → ℕ → ℕ → List Seen → List Seen
given_in from to i es = changed_in gave_up from to i es
