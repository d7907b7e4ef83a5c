-- How the code of message.rt pops on words. `Calls` says what comes of it.
use Rattle.std.specs.Prelude.{◌≡◌, Bool, true, not, ◌&&◌, List, ℕ, ◌^◌, ◌<◌, ◌≤◌, ltb, ℤ, nat_abs, length, set, Result, Ok, Err}
use Rattle.std.proofs.Math.Seq.{paste}
use Rattle.std.specs.Int.Signed.{lt_z}
use Rattle.clock.specs.Base.{instant_of}
use Rattle.clock.specs.Release.{later_of}
use Rattle.clock.specs.declared.base.TimeBase.{TimeBase}
use Rattle.slots.specs.Words.{entry_at, length_in, stamp_in, is_first, is_last}
use Rattle.slots.specs.Ring.{payload_at}
use Rattle.window.specs.Window.{cut}
use Rattle.window.specs.Ready.{Good, Bytes}
use Rattle.clock.specs.declared.time.SynchronizedRemoteClock.{SynchronizedRemoteClock}
use Rattle.window.specs.declared.Window.{Window}
use Rattle.window_pop.specs.Pop.{PopOutcome, pop_of, due_of}
use Rattle.window_pop.specs.Ready.{PopReady}
use Rattle.window_pop.specs.declared.pop.Popped.{Popped}
use Rattle.window_pop.specs.declared.pop.OutShort.{OutShort}
use Rattle.window_pop.specs.declared.pop.PopAnswer.{PopAnswer}
use Rattle.window_pop.specs.declared.pop.PopAnswer.TheVariants as answers
use Rattle.head.specs.Rules.{first_refusal, pop_rules}
use Rattle.head.specs.Head.{head_ok}
use Rattle.head.specs.declared.refusal.Refusal.{Refusal}
use Rattle.receiver.specs.Message.{answer_of, taken_of}
use Rattle.packing.specs.Words.{word_of, whole_of, number_of, flag_of, moment_of}
use Rattle.packing.specs.Packed.{at, window_of, base_of, clock_of, head_of, formed, unpack_of}
use Rattle.packing.specs.Puts.{put_window, put_base, put_stats}
use Rattle.inplace.specs.Calls.{PopIn, pop_in, message_left}

-- the window and clock after a pop, and the reading as the latest
unfoldable pub put_popped : List ℕ → Window → SynchronizedRemoteClock → ℤ → List ℕ
put_popped ws w k now = set (put_stats (put_base (put_window ws w) k) k) 0 (word_of now)

-- an answer and the words
pub record Settled : Type 0 where
  pub answer : Result PopAnswer Refusal
  pub words : List ℕ

abbrev pub settled : Result PopAnswer Refusal → List ℕ → Settled
settled a ws = record { answer = a; words = ws }

-- an output that is short leaves the words
abbrev pub words_after : List ℕ → Result Popped OutShort → ℤ → List ℕ
words_after ws (Ok p) now = put_popped ws p.window p.clock now
words_after ws (Err _) now = ws

abbrev pub settled_of : List ℕ → Result Popped OutShort → ℤ → Settled
settled_of ws r now = settled (answer_of r) (words_after ws r now)

abbrev pub settled_by : List ℕ → ℤ → PopOutcome → PopIn
settled_by ws now o =
    let s = settled_of ws o.popped now in pop_in s.answer s.words o.output

unfoldable pub released_of : List ℕ → List ℕ → List ℕ → List ℕ → ℤ → PopIn
released_of ws slots bs out now = settled_by ws now (pop_of (clock_of ws) (number_of (at ws 6)) (flag_of (at ws 7)) (window_of ws) slots now bs out)

-- the front is a message of one packet, due, and of at most `room` bytes
unfoldable pub is_single : Window → TimeBase → ℕ → List ℕ → ℕ → ℤ → Bool
is_single w base latency slots room now =
    let e = entry_at slots w.start in
    ltb 0 w.held && (is_first e && is_last e && not (lt_z now (due_of base latency (stamp_in e))) && not (ltb room (length_in e)))

-- its time, never before the last one
abbrev pub release_time : List ℕ → TimeBase → ℕ → ℤ
release_time ws base stamp = later_of (moment_of (at ws 10) (at ws 11)) (instant_of base stamp)

-- the words that its release moves: the front, the last released time and the latest reading
unfoldable pub put_single : List ℕ → Window → ℤ → ℤ → List ℕ
put_single ws w released now =
    set (set (set (set (set (set ws 2 w.start) 3 w.held) 4 w.seqno0) 10 1) 11 (word_of released)) 0 (word_of now)

-- what its release counts on
pub record Single (w : Window) (base : TimeBase) (slots bs out : List ℕ) : Type 0 where
  pub good : Good w slots
  pub payloads : Bytes w bs
  pub some : 0 < w.held
  pub reference : nat_abs base.time ≤ 2 ^ 61
  pub fits : length_in (entry_at slots w.start) ≤ length out

-- its release: `released_of` where `is_single` holds
unfoldable pub single_of : List ℕ → Window → TimeBase → List ℕ → List ℕ → List ℕ → ℤ → PopIn
single_of ws w base slots bs out now =
    let e = entry_at slots w.start in
    let t = release_time ws base (stamp_in e) in
    pop_in (Ok (answers.Message t (length_in e) 1)) (put_single ws (cut w 1) t now) (paste out 0 (payload_at bs w.start (length_in e)) (length_in e))

-- the same on the words
pub record Fronted (ws slots : List ℕ) : Type 0 where
  pub good : Good (window_of ws) slots
  pub reference : nat_abs (base_of ws).time ≤ 2 ^ 61
  pub setting : number_of (at ws 6) ≤ 65535000

unfoldable pub is_usual : List ℕ → List ℕ → ℕ → ℤ → Bool
is_usual ws slots room now = is_single (window_of ws) (base_of ws) (number_of (at ws 6)) slots room now

-- `Single` by the words alone, as search finds it
pub record Usual (ws slots bs out : List ℕ) : Type 0 where
  pub single : Single (window_of ws) (base_of ws) slots bs out

unfoldable pub usual_of : List ℕ → List ℕ → List ℕ → List ℕ → ℤ → PopIn
usual_of ws slots bs out now = single_of ws (window_of ws) (base_of ws) slots bs out now

unfoldable pub pop_refusal : List ℕ → ℕ → ℕ → ℤ → Result Unit Refusal
pop_refusal ws slots bytes now = first_refusal (pop_rules (head_ok (unpack_of ws)) (at ws 1) slots bytes now (whole_of (at ws 0)))

-- once nothing refuses it: the words say a head, and the window asks for this
pub record Popping (ws slots bs : List ℕ) (now : ℤ) : Type 0 where
  pub says : formed ws ≡ true
  pub ready : PopReady (clock_of ws) (number_of (at ws 6)) (window_of ws) slots bs now

-- the call on that head
abbrev pub message_taken : List ℕ → List ℕ → List ℕ → List ℕ → ℤ → PopIn
message_taken ws slots bs out now = message_left ws (taken_of (head_of ws) slots bs out now)
