-- The pop call: 01, "Window", with refusals 1 to 4 and 11.
use Rattle.std.specs.Prelude.{List, ℕ, ℤ, length, Result, Ok, Err}
use Rattle.clock.specs.declared.time.SynchronizedRemoteClock.{SynchronizedRemoteClock}
use Rattle.window.specs.declared.Window.{Window}
use Rattle.window_pop.specs.Pop.{PopOutcome, pop_of}
use Rattle.window_pop.specs.declared.pop.PopAnswer.{PopAnswer}
use Rattle.window_pop.specs.declared.pop.Popped.{Popped}
use Rattle.window_pop.specs.declared.pop.OutShort.{OutShort}
use Rattle.head.specs.Rules.{first_refusal, judged, pop_rules}
use Rattle.head.specs.Head.{head_ok}
use Rattle.head.specs.Parts.{with_window, with_clock, with_latest}
use Rattle.head.specs.declared.refusal.Refusal.{Refusal}
use Rattle.head.specs.declared.refusal.Refusal.TheVariants as refusals
use Rattle.head.specs.declared.left.Left.{Left}
use Rattle.head.specs.declared.state.Head.{Head}
use Rattle.head.specs.Paper.{Line}
use Rattle.receiver.specs.Paper.{message_line}

-- what the call gives back: the head and the answer or the refusal
abbrev pub Given : Type 0
Given = Left PopAnswer

-- all that the call leaves: the head and the answer, its line on paper, and the output
pub record MessageOutcome : Type 0 where
  pub given : Given
  pub line : Line
  pub output : List ℕ

abbrev pub message_ended : Given → List ℕ → MessageOutcome
message_ended r out = record { given = r; line = message_line r.answer; output = out }

-- the head with the window and clock after a pop, and the reading as its latest
abbrev pub popped_of : Head → Window → SynchronizedRemoteClock → ℤ → Head
popped_of h w k now = with_latest (with_clock (with_window h w) k) now

-- the window's answer as the call's; 11 OutShort
abbrev pub answer_of : Result Popped OutShort → Result PopAnswer Refusal
answer_of (Ok p) = Ok p.answer
answer_of (Err _) = Err refusals.OutShort

-- on refusal 11 the head stays
abbrev pub head_after : Head → Result Popped OutShort → ℤ → Head
head_after h (Ok p) now = popped_of h p.window p.clock now
head_after h (Err _) now = h

abbrev pub after_pop : Head → Result Popped OutShort → ℤ → Given
after_pop h r now = record { head = head_after h r now; answer = answer_of r }

-- the window's outcome as the call's; on refusal 11 the window leaves the output
abbrev pub popped : Head → ℤ → PopOutcome → MessageOutcome
popped h now o = message_ended (after_pop h o.popped now) o.output

unfoldable pub taken_of : Head → List ℕ → List ℕ → List ℕ → ℤ → MessageOutcome
taken_of h ws bs out now = popped h now (pop_of h.clock h.latency h.dropping h.window ws now bs out)

unfoldable pub pop_call_of : Head → List ℕ → List ℕ → List ℕ → ℤ → MessageOutcome
pop_call_of h ws bs out now =
    judged (first_refusal (pop_rules (head_ok h) h.window.capacity (length ws) (length bs) now h.latest))
    (taken_of h ws bs out now)
    (λ e. message_ended (record { head = h; answer = Err e }) out)
