-- Pop: 01, "Window", from "Pop: if the front is received" to "+ latency)".
use Rattle.std.specs.Prelude.{Bool, not, ◌&&◌, ◌||◌, cond, List, ℕ, zero, suc, ◌+◌, ltb, ℤ, pos, ◌+ℤ◌, ◌-ℤ◌, length, Option, Some, None, Result, Ok, Err}
use Rattle.std.proofs.Math.Seq.{paste}
use Rattle.std.specs.Int.Signed.{lt_z, le_z}
use Rattle.numbers.specs.Instants.{interval_of}
use Rattle.clock.specs.Base.{instant_of}
use Rattle.clock.specs.Release.{release_of}
use Rattle.clock.specs.declared.base.TimeBase.{TimeBase}
use Rattle.clock.specs.declared.time.SynchronizedRemoteClock.{SynchronizedRemoteClock}
use Rattle.slots.specs.Words.{is_received, entry_at, length_in, stamp_in, message_in, is_first, is_last, in_message}
use Rattle.slots.specs.Ring.{slot_of, payload_at}
use Rattle.slots.specs.declared.entry.Entry.{Entry}
use Rattle.window.specs.Window.{entry_in, number_in, lrsn_from, cut, with_lrsn}
use Rattle.window.specs.declared.Window.{Window}
use Rattle.window_pop.specs.declared.pop.Message.{Message}
use Rattle.window_pop.specs.declared.pop.Walk.{Walk}
use Rattle.window_pop.specs.declared.pop.Popped.{Popped}
use Rattle.window_pop.specs.declared.pop.OutShort.{OutShort}
use Rattle.window_pop.specs.declared.pop.PopAnswer.{PopAnswer}
use Rattle.window_pop.specs.declared.pop.PopAnswer.TheVariants as answers

-- all that a pop leaves: window, clock and answer, or refusal 11; and the output
pub record PopOutcome : Type 0 where
  pub popped : Result Popped OutShort
  pub output : List ℕ

abbrev pub pop_ended : Result Popped OutShort → List ℕ → PopOutcome
pop_ended r out = record { popped = r; output = out }

-- the window and the clock after it: those of a refusal are as they were
abbrev pub window_after : Window → Result Popped OutShort → Window
window_after w (Ok r) = r.window
window_after w (Err e) = w

abbrev pub clock_after : SynchronizedRemoteClock → Result Popped OutShort → SynchronizedRemoteClock
clock_after k (Ok r) = r.clock
clock_after k (Err e) = k

-- what it answers
abbrev pub answered : Result Popped OutShort → Result PopAnswer OutShort
answered (Ok r) = Ok r.answer
answered (Err e) = Err e

-- the run of received entries with this message number, through the first LAST: n entries are left from entry i on, `total` bytes lie before it
unfoldable pub run_from : ℕ → ℕ → List ℕ → ℕ → ℕ → ℕ → ℕ → Option Message
run_from capacity start ws message i total zero = None
run_from capacity start ws message i total (suc n) =
    let e = entry_at ws (slot_of capacity start i) in
    cond (in_message message e)
    (cond (is_last e)
    (Some (record { packets = i + 1; bytes = total + length_in e }))
    (run_from capacity start ws message (i + 1) (total + length_in e) n))
    None

-- count the message: with the front's message number, the first with FIRST
unfoldable pub message_of : Window → List ℕ → Option Message
message_of w ws =
    let e = entry_in w ws 0 in
    cond (is_first e) (run_from w.capacity w.start ws (message_in e) 0 0 w.held) None

-- the payloads of the first n entries, in order, in the output
pub record Filled : Type 0 where
  pub out : List ℕ
  pub at : ℕ

unfoldable pub filled : ℕ → ℕ → List ℕ → List ℕ → List ℕ → ℕ → Filled
filled capacity start ws bs out zero = record { out = out; at = 0 }
filled capacity start ws bs out (suc n) =
    let f = filled capacity start ws bs out n in
    let s = slot_of capacity start n in
    let len = length_in (entry_at ws s) in
    record { out = paste f.out f.at (payload_at bs s len) len; at = f.at + len }

-- walked over: time at most now - latency - 5,000, or without FIRST
unfoldable pub is_late : TimeBase → ℤ → Entry → Bool
is_late base limit e = le_z (instant_of base (stamp_in e)) limit || not (is_first e)

-- one more received entry walked: entry i
abbrev pub walked_to : Option Walk → ℕ → Entry → Walk
walked_to None i e = record { count = i + 1; first_stamp = stamp_in e }
walked_to (Some k) i e = record { count = i + 1; first_stamp = k.first_stamp }

-- the walk over entries not received, or late: how many entries go through the last received one walked, if there is one,
-- and the stamp of the first
unfoldable pub walk_from : TimeBase → ℤ → ℕ → ℕ → List ℕ → ℕ → Option Walk → ℕ → Option Walk
walk_from base limit capacity start ws i k zero = k
walk_from base limit capacity start ws i k (suc n) =
    let e = entry_at ws (slot_of capacity start i) in
    cond (is_received e)
    (cond (is_late base limit e) (walk_from base limit capacity start ws (i + 1) (Some (walked_to k i e)) n) k)
    (walk_from base limit capacity start ws (i + 1) k n)

-- time + latency
unfoldable pub due_of : TimeBase → ℕ → ℕ → ℤ
due_of base latency stamp = instant_of base stamp +ℤ pos latency

unfoldable pub limit_of : ℤ → ℕ → ℤ
limit_of now latency = now -ℤ pos latency -ℤ pos 5000

-- window and clock stay
abbrev pub nothing : SynchronizedRemoteClock → Window → Popped
nothing k w = record { window = w; clock = k; answer = answers.Nothing }

-- n entries are discarded; lrsn is searched from the new front
unfoldable pub discard_front : Window → List ℕ → ℕ → Window
discard_front w ws n = with_lrsn (cut w n) (lrsn_from (cut w n) ws 0)

-- discard through the last received one walked (none: nothing)
unfoldable pub discarded : SynchronizedRemoteClock → ℕ → Window → List ℕ → ℤ → Option Walk → Popped
discarded k latency w ws now None = nothing k w
discarded k latency w ws now (Some walk) =
    record {
      window = discard_front w ws walk.count;
      clock = k;
      answer = answers.Late w.seqno0 (number_in w walk.count) (interval_of (due_of k.base latency walk.first_stamp) now);
    }

-- refusal 11 if the message is longer than the output; else its payloads in order, and the release time
unfoldable pub released_of : SynchronizedRemoteClock → Window → List ℕ → List ℕ → List ℕ → ℕ → Message → PopOutcome
released_of k w ws bs out stamp m =
    cond (ltb (length out) m.bytes)
    (pop_ended (Err (record {})) out)
    (pop_ended
    (Ok
    (record {
      window = cut w m.packets;
      clock = (release_of k stamp).clock;
      answer = answers.Message (release_of k stamp).time m.bytes m.packets;
    }))
    (filled w.capacity w.start ws bs out m.packets).out)

module _ (k : SynchronizedRemoteClock) (latency : ℕ) (drop : Bool) (w : Window) (ws : List ℕ) (now : ℤ) where
  -- nothing if late dropping is off; if on, walk from the front
  unfoldable pub late_of : Popped
  late_of =
      cond drop
      (discarded k latency w ws now (walk_from k.base (limit_of now latency) w.capacity w.start ws 0 None w.held))
      (nothing k w)

  module _ (bs out : List ℕ) where
    -- if complete, release; otherwise the late walk
    abbrev pub by_message : ℕ → Option Message → PopOutcome
    by_message stamp (Some m) = released_of k w ws bs out stamp m
    by_message stamp None = pop_ended (Ok late_of) out

    -- the front is received: nothing if now is before its time + latency
    unfoldable pub front_of : ℕ → PopOutcome
    front_of stamp = cond (lt_z now (due_of k.base latency stamp)) (pop_ended (Ok (nothing k w)) out) (by_message stamp (message_of w ws))

    unfoldable pub pop_of : PopOutcome
    pop_of =
        cond (ltb 0 w.held && is_received (entry_in w ws 0))
        (front_of (stamp_in (entry_in w ws 0)))
        (pop_ended (Ok late_of) out)
