-- The drop request, clear and room: 01, "Window", with refusals 1, 2 and 5; 1; and 1.
use Rattle.std.specs.Prelude.{List, ℕ, length, Result, Ok, Err}
use Rattle.acks.specs.History as histories
use Rattle.window.specs.Window.{room_of}
use Rattle.window_report.specs.Drop.{drop_of}
use Rattle.head.specs.Rules.{first_refusal, judged, drop_rules, head_rules}
use Rattle.head.specs.Head.{head_ok}
use Rattle.head.specs.Parts.{with_window, with_history}
use Rattle.head.specs.declared.refusal.Refusal.{Refusal}
use Rattle.head.specs.declared.left.Left.{Left}
use Rattle.head.specs.declared.state.Head.{Head}
use Rattle.head.specs.Paper.{Line}
use Rattle.upkeep.specs.Paper.{drop_line, clear_line, room_line}

-- all that a drop request leaves: its answer and the line on paper, and the slot area; the head is not its to change
pub record DropOutcome : Type 0 where
  pub answer : Result ℕ Refusal
  pub line : Line
  pub slots : List ℕ

abbrev pub drop_ended : Result ℕ Refusal → List ℕ → DropOutcome
drop_ended a ws = record { answer = a; line = drop_line a; slots = ws }

abbrev pub gone_of : Head → List ℕ → ℕ → ℕ → DropOutcome
gone_of h ws first last = drop_ended (Ok (drop_of h.window ws first last).count) (drop_of h.window ws first last).slots

unfoldable pub drop_call_of : Head → List ℕ → ℕ → ℕ → DropOutcome
drop_call_of h ws first last =
    judged (first_refusal (drop_rules (head_ok h) h.window.capacity (length ws) first last))
    (gone_of h ws first last)
    (λ e. drop_ended (Err e) ws)

-- clear only sets held and history count to 0 and largest_ack2_dsn to lrsn
unfoldable pub cleared_of : Head → Head
cleared_of h =
    let w = h.window in
    with_history (with_window h (record { capacity = w.capacity; start = w.start; held = 0; seqno0 = w.seqno0; lrsn = w.lrsn }))
    (histories.cleared_of h.history w.lrsn)

-- what a clear gives back: the head and the answer or the refusal
abbrev pub Cleared : Type 0
Cleared = Left Unit

-- all that a clear leaves
pub record ClearOutcome : Type 0 where
  pub cleared : Cleared
  pub line : Line

abbrev pub clear_ended : Cleared → ClearOutcome
clear_ended r = record { cleared = r; line = clear_line r.answer }

unfoldable pub clear_call_of : Head → ClearOutcome
clear_call_of h =
    judged (first_refusal (head_rules (head_ok h)))
    (clear_ended (record { head = cleared_of h; answer = Ok tt }))
    (λ e. clear_ended (record { head = h; answer = Err e }))

-- all that the question of room leaves
pub record RoomOutcome : Type 0 where
  pub answer : Result ℕ Refusal
  pub line : Line

abbrev pub room_ended : Result ℕ Refusal → RoomOutcome
room_ended a = record { answer = a; line = room_line a }

-- room is capacity - held
unfoldable pub room_call_of : Head → RoomOutcome
room_call_of h = judged (first_refusal (head_rules (head_ok h))) (room_ended (Ok (room_of h.window))) (λ e. room_ended (Err e))
