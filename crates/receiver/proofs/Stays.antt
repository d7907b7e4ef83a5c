-- A refused pop leaves head, areas and output: 01, "Each returns its number; head, areas and output stay". Assumes nothing.
use mathlib.Core.Path.{◌≡◌, refl}
use mathlib.Core.Bool.{Bool, true, false, ◌&&◌, cond}
use mathlib.Core.List.{List}
use Prim.Native.Nat.{ℕ}
use lib.Dec.{ltb}
use lib.IntN.{ℤ}
use lib.ListN.{length}
use lib.Signed.{lt_z}
use Rattle.std.specs.Prelude.{Option, Some, None, Ok, Err}
use Rattle.clock.specs.Release.{release_of}
use Rattle.clock.specs.declared.time.SynchronizedRemoteClock.{SynchronizedRemoteClock}
use Rattle.slots.specs.Words.{is_received, stamp_in}
use Rattle.window.specs.Window.{entry_in, cut}
use Rattle.window.specs.declared.Window.{Window}
use Rattle.window_pop.specs.Pop as pop
use Rattle.window_pop.specs.declared.pop.Popped.{Popped}
use Rattle.window_pop.specs.declared.pop.Message.{Message}
use Rattle.window_pop.specs.declared.pop.PopAnswer.{PopAnswer}
use Rattle.window_pop.specs.declared.pop.PopAnswer.TheVariants as pops
use Rattle.head.specs.Rules.{first_refusal, pop_rules}
use Rattle.head.specs.Head.{head_ok}
use Rattle.head.specs.declared.state.Head.{Head}
use Rattle.head.proofs.Gates.{by-refusal}
use Rattle.receiver.specs.Stays.{MessageStays}
use Rattle.receiver.specs.Message as message
use Rattle.receiver.specs.Paper.{message_line}

-- an answer is no refusal
ok-zero : (a : PopAnswer) → (message_line (Ok a)).refusal ≡ 0
ok-zero pops.Nothing = refl
ok-zero (pops.Message time bytes packets) = refl
ok-zero (pops.Late first end delay) = refl

module _ (h : Head) (ws bs out : List ℕ) (now : ℤ) where
  pop-by : (t : Bool) (x y : pop.PopOutcome) → MessageStays h out (message.popped h now x) → MessageStays h out (message.popped h now y) → MessageStays h out (message.popped h now (cond t x y))
  pop-by true x y p q = p
  pop-by false x y p q = q

  moved : (p : Popped) (o : List ℕ) → MessageStays h out (message.popped h now (pop.pop_ended (Ok p) o))
  moved p o e = absurd (e (ok-zero p.answer))

  released-stays : (k : SynchronizedRemoteClock) (w : Window) (stamp : ℕ) (m : Message) → MessageStays h out (message.popped h now (pop.released_of k w ws bs out stamp m))
  unfolding pop.released_of
  released-stays k w stamp m =
      let gone : Popped = record {
        window = cut w m.packets;
        clock = (release_of k stamp).clock;
        answer = pops.Message (release_of k stamp).time m.bytes m.packets;
      } in
      let o = (pop.filled w.capacity w.start ws bs out m.packets).out in
      pop-by (ltb (length out) m.bytes) (pop.pop_ended (Err (record {})) out) (pop.pop_ended (Ok gone) o) (λ e. refl) (moved gone o)

  whole-stays : (k : SynchronizedRemoteClock) (latency : ℕ) (drop : Bool) (w : Window) (stamp : ℕ) (m : Option Message)
      → MessageStays h out (message.popped h now (pop.by_message k latency drop w ws now bs out stamp m))
  whole-stays k latency drop w stamp (Some m) = released-stays k w stamp m
  whole-stays k latency drop w stamp None = moved (pop.late_of k latency drop w ws now) out

  front-stays : (k : SynchronizedRemoteClock) (latency : ℕ) (drop : Bool) (w : Window) (stamp : ℕ) → MessageStays h out (message.popped h now (pop.front_of k latency drop w ws now bs out stamp))
  unfolding pop.front_of
  front-stays k latency drop w stamp =
      let m = pop.message_of w ws in
      pop-by (lt_z now (pop.due_of k.base latency stamp)) (pop.pop_ended (Ok (pop.nothing k w)) out) (pop.by_message k latency drop w ws now bs out stamp m)
      (moved (pop.nothing k w) out)
      (whole-stays k latency drop w stamp m)

  taken-stays : MessageStays h out (message.taken_of h ws bs out now)
  unfolding message.taken_of pop.pop_of
  taken-stays =
      let w = h.window in
      let e = entry_in w ws 0 in
      let late = pop.late_of h.clock h.latency h.dropping w ws now in
      pop-by (ltb 0 w.held && is_received e)
      (pop.front_of h.clock h.latency h.dropping w ws now bs out (stamp_in e))
      (pop.pop_ended (Ok late) out)
      (front-stays h.clock h.latency h.dropping w (stamp_in e))
      (moved late out)

  pub message-stays : MessageStays h out (message.pop_call_of h ws bs out now)
  unfolding message.pop_call_of
  message-stays =
      by-refusal (MessageStays h out) (first_refusal (pop_rules (head_ok h) h.window.capacity (length ws) (length bs) now h.latest)) _ _
      (λ x t. taken-stays)
      (λ e t n. refl)
