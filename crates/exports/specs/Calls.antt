-- Each call on words: what the receiver's call does on the head that the words say. 01, "Refused, in order of test": a refusal leaves the head, so its words stay.
use Rattle.std.specs.Prelude.{Bool, cond, List, [], ◌∷◌, ℕ, eqb, ℤ, length, Option, Some, None, Result, Ok, Err}
use Rattle.window.specs.declared.push.Packet.{Packet}
use Rattle.window.specs.declared.show.Part.{Part}
use Rattle.head.specs.Head.{made_of, head_made}
use Rattle.head.specs.declared.refusal.Refusal.{Refusal}
use Rattle.head.specs.declared.state.Head.{Head}
use Rattle.feedback.specs.Acking.{FullAckOutcome, full_ack_call_of, Ack2Outcome, ack2_call_of}
use Rattle.receiver.specs.Data.{DataOutcome, data_call_of}
use Rattle.feedback.specs.Loss.{LossOutcome, report_call_of}
use Rattle.receiver.specs.Message.{MessageOutcome, pop_call_of}
use Rattle.upkeep.specs.Request.{DropOutcome, drop_call_of, ClearOutcome, clear_call_of, RoomOutcome, room_call_of}
use Rattle.upkeep.specs.Show.{ShownOutcome, shown_call_of, place_call_of}
use Rattle.feedback.specs.Sync.{ClockOutcome, clock_call_of}
use Rattle.counters.specs.Calls.{Counted, data_counted, ack2_counted, drop_counted, clock_counted}
use Rattle.packing.specs.Packed.{pack_of, unpack_of}
use Rattle.packing.specs.Tally.{counters_words, counters_of}
use Rattle.cells.specs.Cells.{refusal_of, cells_of, loss_cells, shown_cells, made_cells}

-- all that a call leaves: the number that it returns, the head's words and the head that they say, the answer's cells, and each area that it may write
pub record Left : Type 0 where
  pub returned : ℕ
  pub words : List ℕ
  pub says : Head
  pub cells : List ℤ
  pub areas : List (List ℕ)

abbrev pub left : ℕ → List ℕ → List ℤ → List (List ℕ) → Left
left n ws cells areas = record { returned = n; words = ws; says = unpack_of ws; cells = cells; areas = areas }

-- the head's words after a call: those of its head, and on a refusal the same; and what they say, so that the next call begins with the head that this one ended with
abbrev pub kept : List ℕ → ℕ → Head → List ℕ
kept ws refusal h = cond (eqb refusal 0) (pack_of h) ws

abbrev pub saying : List ℕ → ℕ → Head → Head
saying ws refusal h = cond (eqb refusal 0) h (unpack_of ws)

abbrev pub after : List ℕ → ℕ → Head → List ℤ → List (List ℕ) → Left
after ws refusal h cells areas = record { returned = refusal; words = kept ws refusal h; says = saying ws refusal h; cells = cells; areas = areas }

-- each outcome of the receiver on words
module _ (ws : List ℕ) where
  abbrev pub from_made : Result Head Refusal → Left
  from_made m = after ws (refusal_of m) (head_made m) (made_cells m) []

  abbrev pub from_data : DataOutcome → Left
  from_data o = after ws o.line.refusal o.handled.head (cells_of o.line) (o.slots ∷ o.payloads ∷ [])

  abbrev pub from_message : MessageOutcome → Left
  from_message o = after ws o.line.refusal o.given.head (cells_of o.line) (o.output ∷ [])

  -- the words of a report lie in the lent list; its answer has their count
  abbrev pub from_loss : LossOutcome → Left
  from_loss o = after ws o.line.refusal o.reported.head (loss_cells o.reported.answer) (o.slots ∷ o.list ∷ [])

  abbrev pub from_full_ack : FullAckOutcome → Left
  from_full_ack o = after ws o.line.refusal o.acked.head (cells_of o.line) (o.area ∷ [])

  abbrev pub from_ack2 : Ack2Outcome → Left
  from_ack2 o = after ws o.line.refusal o.acked2.head (cells_of o.line) []

  abbrev pub from_clock : ClockOutcome → Left
  from_clock o = after ws o.line.refusal o.clocked.head (cells_of o.line) []

  abbrev pub from_clear : ClearOutcome → Left
  from_clear o = after ws o.line.refusal o.cleared.head (cells_of o.line) []

  -- a drop request and the questions leave the head
  abbrev pub from_drop : DropOutcome → Left
  from_drop o = left o.line.refusal ws (cells_of o.line) (o.slots ∷ [])

  abbrev pub from_room : RoomOutcome → Left
  from_room o = left o.line.refusal ws (cells_of o.line) []

  abbrev pub from_shown : ShownOutcome → Option Part → Left
  from_shown o (Some p) = left o.line.refusal ws (shown_cells o.answer p.at p.len) []
  from_shown o None = left o.line.refusal ws (shown_cells o.answer 0 0) []

-- an outcome with the counters' words as one more area
abbrev pub counting : {A : Type 0} → (A → Left) → Counted A → Left
counting from o =
    let l = from o.outcome in
    record { returned = l.returned; words = l.words; says = l.says; cells = l.cells; areas = counters_words o.counters ∷ l.areas }

-- the calls; ws are the head's words
module _ (ws : List ℕ) where
  unfoldable pub new_of : ℤ → ℕ → Bool → ℕ → ℕ → Left
  new_of start latency dropping first capacity = from_made ws (made_of start latency dropping first capacity)

  unfoldable pub data_export_of : List ℕ → List ℕ → ℤ → Packet → List ℕ → Left
  data_export_of slots payloads now p payload = from_data ws (data_call_of (unpack_of ws) slots payloads now p payload)

  unfoldable pub message_export_of : List ℕ → List ℕ → List ℕ → ℤ → Left
  message_export_of slots payloads output now = from_message ws (pop_call_of (unpack_of ws) slots payloads output now)

  unfoldable pub loss_export_of : List ℕ → List ℕ → ℤ → Left
  loss_export_of slots list now = from_loss ws (report_call_of (unpack_of ws) slots list now)

  unfoldable pub full_ack_export_of : List ℕ → ℤ → Left
  full_ack_export_of history now = from_full_ack ws (full_ack_call_of (unpack_of ws) history now)

  unfoldable pub ack2_export_of : List ℕ → ℤ → ℕ → Left
  ack2_export_of history now number = from_ack2 ws (ack2_call_of (unpack_of ws) history now number)

  unfoldable pub drop_export_of : List ℕ → ℕ → ℕ → Left
  drop_export_of slots first last = from_drop ws (drop_call_of (unpack_of ws) slots first last)

  unfoldable pub clock_export_of : ℤ → ℕ → Left
  clock_export_of now stamp = from_clock ws (clock_call_of (unpack_of ws) now stamp)

  unfoldable pub clear_export_of : Left
  clear_export_of = from_clear ws (clear_call_of (unpack_of ws))

  unfoldable pub room_export_of : Left
  room_export_of = from_room ws (room_call_of (unpack_of ws))

  unfoldable pub show_export_of : List ℕ → List ℕ → ℕ → Left
  show_export_of slots payloads number =
      from_shown ws (shown_call_of (unpack_of ws) slots (length payloads) number) (place_call_of (unpack_of ws) slots (length payloads) number)

  -- those that count; cs are the counters' words
  unfoldable pub data_counted_of : List ℕ → List ℕ → List ℕ → ℤ → Packet → List ℕ → Left
  data_counted_of cs slots payloads now p payload = counting (from_data ws) (data_counted (counters_of cs) (unpack_of ws) slots payloads now p payload)

  unfoldable pub ack2_counted_of : List ℕ → List ℕ → ℤ → ℕ → Left
  ack2_counted_of cs history now number = counting (from_ack2 ws) (ack2_counted (counters_of cs) (unpack_of ws) history now number)

  unfoldable pub drop_counted_of : List ℕ → List ℕ → ℕ → ℕ → Left
  drop_counted_of cs slots first last = counting (from_drop ws) (drop_counted (counters_of cs) (unpack_of ws) slots first last)

  unfoldable pub clock_counted_of : List ℕ → ℤ → ℕ → Left
  clock_counted_of cs now stamp = counting (from_clock ws) (clock_counted (counters_of cs) (unpack_of ws) now stamp)
