-- What a refusal leaves, and that words which are not formed are refused with 1: the head's words stay on every number but 0, for every call that may write them.
-- Assumes nothing.
use mathlib.Core.Path.{◌≡◌}
use mathlib.Core.Bool.{Bool, false}
use mathlib.Core.List.{List, [], ◌∷◌}
use Prim.Native.Nat.{ℕ}
use borrow.Author.Tests.{ne_eqb}
use lib.IntN.{ℤ}
use Rattle.window.specs.declared.push.Packet.{Packet}
use Rattle.head.specs.Head.{fresh_head, head_ok}
use Rattle.head.specs.declared.state.Head.{Head}
use Rattle.feedback.specs.Acking.{full_ack_call_of, ack2_call_of}
use Rattle.receiver.specs.Data.{data_call_of}
use Rattle.feedback.specs.Loss.{report_call_of}
use Rattle.receiver.specs.Message.{pop_call_of}
use Rattle.upkeep.specs.Request.{drop_call_of, clear_call_of, room_call_of}
use Rattle.upkeep.specs.Show.{shown_call_of, place_call_of}
use Rattle.feedback.specs.Sync.{clock_call_of}
use Rattle.packing.specs.Packed.{formed, unpack_of}
use Rattle.packing.specs.Tally.{counters_words, counters_of}
use Rattle.cells.specs.Cells.{cells_of}
use Rattle.head.specs.Paper.{refused_line}
use Rattle.head.specs.declared.refusal.Refusal.TheVariants.{HeadBad}
use Rattle.exports.specs.Calls.{left, kept, new_of, data_export_of, message_export_of, loss_export_of, full_ack_export_of, ack2_export_of, drop_export_of, clock_export_of, clear_export_of, room_export_of, show_export_of, data_counted_of, ack2_counted_of, drop_counted_of, clock_counted_of}

-- on a refusal the head's words stay
kept_same : (ws : List ℕ) (n : ℕ) (h : Head) → (n ≡ 0 → ⊥) → kept ws n h ≡ ws
kept_same ws n h e = rw (ne_eqb n 0 e)

module _ (ws : List ℕ) where
  pub new-stays : (start : ℤ) (latency : ℕ) (dropping : Bool) (first capacity : ℕ) → ((new_of ws start latency dropping first capacity).returned ≡ 0 → ⊥) → (new_of ws start latency dropping first capacity).words ≡ ws
  unfolding new_of
  new-stays start latency dropping first capacity e = kept_same ws _ _ e

  pub data-stays : (slots payloads : List ℕ) (now : ℤ) (p : Packet) (payload : List ℕ) → ((data_export_of ws slots payloads now p payload).returned ≡ 0 → ⊥) → (data_export_of ws slots payloads now p payload).words ≡ ws
  unfolding data_export_of
  data-stays slots payloads now p payload e = kept_same ws _ _ e

  pub message-stays : (slots payloads output : List ℕ) (now : ℤ) → ((message_export_of ws slots payloads output now).returned ≡ 0 → ⊥) → (message_export_of ws slots payloads output now).words ≡ ws
  unfolding message_export_of
  message-stays slots payloads output now e = kept_same ws _ _ e

  pub loss-stays : (slots list : List ℕ) (now : ℤ) → ((loss_export_of ws slots list now).returned ≡ 0 → ⊥) → (loss_export_of ws slots list now).words ≡ ws
  unfolding loss_export_of
  loss-stays slots list now e = kept_same ws _ _ e

  pub full-ack-stays : (history : List ℕ) (now : ℤ) → ((full_ack_export_of ws history now).returned ≡ 0 → ⊥) → (full_ack_export_of ws history now).words ≡ ws
  unfolding full_ack_export_of
  full-ack-stays history now e = kept_same ws _ _ e

  pub ack2-stays : (history : List ℕ) (now : ℤ) (number : ℕ) → ((ack2_export_of ws history now number).returned ≡ 0 → ⊥) → (ack2_export_of ws history now number).words ≡ ws
  unfolding ack2_export_of
  ack2-stays history now number e = kept_same ws _ _ e

  pub clock-stays : (now : ℤ) (stamp : ℕ) → ((clock_export_of ws now stamp).returned ≡ 0 → ⊥) → (clock_export_of ws now stamp).words ≡ ws
  unfolding clock_export_of
  clock-stays now stamp e = kept_same ws _ _ e

  pub clear_stays : ((clear_export_of ws).returned ≡ 0 → ⊥) → (clear_export_of ws).words ≡ ws
  unfolding clear_export_of
  clear_stays e = kept_same ws _ _ e

  pub data-counted-stays : (cs slots payloads : List ℕ) (now : ℤ) (p : Packet) (payload : List ℕ) → ((data_counted_of ws cs slots payloads now p payload).returned ≡ 0 → ⊥) → (data_counted_of ws cs slots payloads now p payload).words ≡ ws
  unfolding data_counted_of
  data-counted-stays cs slots payloads now p payload e = kept_same ws _ _ e

  pub ack2-counted-stays : (cs history : List ℕ) (now : ℤ) (number : ℕ) → ((ack2_counted_of ws cs history now number).returned ≡ 0 → ⊥) → (ack2_counted_of ws cs history now number).words ≡ ws
  unfolding ack2_counted_of
  ack2-counted-stays cs history now number e = kept_same ws _ _ e

  pub clock-counted-stays : (cs : List ℕ) (now : ℤ) (stamp : ℕ) → ((clock_counted_of ws cs now stamp).returned ≡ 0 → ⊥) → (clock_counted_of ws cs now stamp).words ≡ ws
  unfolding clock_counted_of
  clock-counted-stays cs now stamp e = kept_same ws _ _ e

-- words that are not formed say a head of no capacity
unformed : (ws : List ℕ) → formed ws ≡ false → head_ok (unpack_of ws) ≡ false
unfolding unpack_of head_ok fresh_head
unformed ws e = rw e

-- so each call refuses them with 1, and all that it was lent stays; counters go through their own words, which ten words do unchanged (packing's `tally-words`)
abbrev head_bad : List ℤ
head_bad = cells_of (refused_line HeadBad)

abbrev tally : List ℕ → List ℕ
tally cs = counters_words (counters_of cs)

module _ (ws : List ℕ) (e : formed ws ≡ false) where
  pub data-unformed : (slots payloads : List ℕ) (now : ℤ) (p : Packet) (payload : List ℕ) → data_export_of ws slots payloads now p payload ≡ left 1 ws head_bad (slots ∷ payloads ∷ [])
  unfolding data_export_of data_call_of
  data-unformed slots payloads now p payload = rw (unformed ws e)

  pub message-unformed : (slots payloads output : List ℕ) (now : ℤ) → message_export_of ws slots payloads output now ≡ left 1 ws head_bad (output ∷ [])
  unfolding message_export_of pop_call_of
  message-unformed slots payloads output now = rw (unformed ws e)

  pub loss-unformed : (slots list : List ℕ) (now : ℤ) → loss_export_of ws slots list now ≡ left 1 ws head_bad (slots ∷ list ∷ [])
  unfolding loss_export_of report_call_of
  loss-unformed slots list now = rw (unformed ws e)

  pub full-ack-unformed : (history : List ℕ) (now : ℤ) → full_ack_export_of ws history now ≡ left 1 ws head_bad (history ∷ [])
  unfolding full_ack_export_of full_ack_call_of
  full-ack-unformed history now = rw (unformed ws e)

  pub ack2-unformed : (history : List ℕ) (now : ℤ) (number : ℕ) → ack2_export_of ws history now number ≡ left 1 ws head_bad []
  unfolding ack2_export_of ack2_call_of
  ack2-unformed history now number = rw (unformed ws e)

  pub drop-unformed : (slots : List ℕ) (first last : ℕ) → drop_export_of ws slots first last ≡ left 1 ws head_bad (slots ∷ [])
  unfolding drop_export_of drop_call_of
  drop-unformed slots first last = rw (unformed ws e)

  pub clock-unformed : (now : ℤ) (stamp : ℕ) → clock_export_of ws now stamp ≡ left 1 ws head_bad []
  unfolding clock_export_of clock_call_of
  clock-unformed now stamp = rw (unformed ws e)

  pub clear-unformed : clear_export_of ws ≡ left 1 ws head_bad []
  unfolding clear_export_of clear_call_of
  clear-unformed = rw (unformed ws e)

  pub room-unformed : room_export_of ws ≡ left 1 ws head_bad []
  unfolding room_export_of room_call_of
  room-unformed = rw (unformed ws e)

  pub show-unformed : (slots payloads : List ℕ) (number : ℕ) → show_export_of ws slots payloads number ≡ left 1 ws head_bad []
  unfolding show_export_of shown_call_of place_call_of
  show-unformed slots payloads number = rw (unformed ws e)

  pub data-counted-unformed : (cs slots payloads : List ℕ) (now : ℤ) (p : Packet) (payload : List ℕ) → data_counted_of ws cs slots payloads now p payload ≡ left 1 ws head_bad (tally cs ∷ slots ∷ payloads ∷ [])
  unfolding data_counted_of data_call_of
  data-counted-unformed cs slots payloads now p payload = rw (unformed ws e)

  pub ack2-counted-unformed : (cs history : List ℕ) (now : ℤ) (number : ℕ) → ack2_counted_of ws cs history now number ≡ left 1 ws head_bad (tally cs ∷ [])
  unfolding ack2_counted_of ack2_call_of
  ack2-counted-unformed cs history now number = rw (unformed ws e)

  pub drop-counted-unformed : (cs slots : List ℕ) (first last : ℕ) → drop_counted_of ws cs slots first last ≡ left 1 ws head_bad (tally cs ∷ slots ∷ [])
  unfolding drop_counted_of drop_call_of
  drop-counted-unformed cs slots first last = rw (unformed ws e)

  pub clock-counted-unformed : (cs : List ℕ) (now : ℤ) (stamp : ℕ) → clock_counted_of ws cs now stamp ≡ left 1 ws head_bad (tally cs ∷ [])
  unfolding clock_counted_of clock_call_of
  clock-counted-unformed cs now stamp = rw (unformed ws e)
