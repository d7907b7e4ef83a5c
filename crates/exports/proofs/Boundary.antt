-- Each call on words, from what packing, the receiver, the counters and the cells promise and nothing else. A signed number stands twice, as it is and as the
-- machine reads it back. Assumes nothing.
use mathlib.Core.Path.{◌≡◌, refl, sym, ◌∙◌, ap}
use mathlib.Core.Bool.{Bool, false}
use mathlib.Core.List.{List, [], ◌∷◌}
use Prim.Native.Nat.{ℕ}
use borrow.Author.Rules.{rules}
use borrow.Author.Tests.{eqb-true}
use lib.Dec.{eqb}
use lib.IntN.{ℤ}
use lib.ListN.{length}
use Rattle.std.specs.Prelude.{Option, Some, None, Result, Ok, Err}
use Rattle.std.specs.Result.{result_unwrap_or, result_and, MatchResult, IsOkAnd}
use Rattle.numbers.proofs.Flags.{by_bool}
use Rattle.window.specs.declared.push.Packet.{Packet}
use Rattle.window.specs.declared.show.Part.{Part}
use Rattle.window_pop.specs.declared.pop.PopAnswer.{PopAnswer}
use Rattle.head.specs.Head.{made_of}
use Rattle.head.specs.Paper.{Line}
use Rattle.head.specs.Rules.{number_of, judged}
use Rattle.head.specs.declared.refusal.Refusal.{Refusal}
use Rattle.head.specs.declared.refusal.Refusal.TheVariants as refusals
use Rattle.head.specs.declared.state.Head.{Head}
use Rattle.receiver.specs.Paper.{data_line, message_line}
use Rattle.feedback.specs.Paper.{full_ack_line, rtt_line, clock_line}
use Rattle.upkeep.specs.Paper.{drop_line, clear_line, room_line}
use Rattle.feedback.specs.Acking.{Ack2ed, FullAcked, full_ack_ended, full_ack_call_of, ack2_ended, ack2_call_of}
use Rattle.receiver.specs.Data.{DataOutcome, data_call_of}
use Rattle.feedback.specs.Loss.{Reported, loss_ended, report_call_of}
use Rattle.receiver.specs.Message.{pop_call_of}
use Rattle.upkeep.specs.Request.{Cleared, drop_ended, drop_call_of, clear_ended, clear_call_of, room_ended, room_call_of}
use Rattle.window.specs.Show.{shown_of}
use Rattle.upkeep.specs.Show as shows
use Rattle.upkeep.specs.Show.{shown_ended, shown_call_of, place_call_of}
use Rattle.feedback.specs.Sync.{Clocked, clock_ended, clock_call_of}
use Rattle.receiver.specs.declared.data.DataAnswer.{DataAnswer}
use Rattle.counts.specs.declared.Counters.{Counters}
use Rattle.counters.specs.Calls.{counted, ack2_counted, drop_counted, clock_counted}
use Rattle.packing.specs.Packed.{pack_of, unpack_of}
use Rattle.packing.specs.Tally.{counters_words, counters_of}
use Rattle.cells.specs.Cells.{refusal_of, answer_line, cells_of, count_line, part_line, making_line}
use Rattle.cells.proofs.Answers.{told, data-refusal, message-refusal, loss-refusal, full-ack-refusal, rtt-refusal, drop-refusal, clear-refusal, room-refusal, clock-refusal}
use Rattle.counts.specs.Counts.{data_counts}
use Rattle.inplace.specs.Calls.{PopIn, pop_in, message_in, DataLeft, data_left, data_after, data_in}
use Rattle.inplace.proofs.Says.{message-says, data-says}
use Rattle.cells.specs.declared.Gone.{Gone}
use Rattle.cells.specs.declared.Room.{Room}
use Rattle.exports.specs.Calls.{Left, left, kept, saying, after, from_made, from_data, from_loss, from_full_ack, from_ack2, from_clock, from_clear, from_drop, from_room, from_shown, counting, new_of, data_export_of, message_export_of, loss_export_of, full_ack_export_of, ack2_export_of, drop_export_of, clock_export_of, clear_export_of, room_export_of, show_export_of, data_counted_of, ack2_counted_of, drop_counted_of, clock_counted_of}

-- a refusal has a number but 0
pub not-none : (e : Refusal) → eqb (number_of e) 0 ≡ false
not-none refusals.HeadBad = refl
not-none refusals.AreaShort = refl
not-none refusals.ClockRange = refl
not-none refusals.ClockBack = refl
not-none refusals.BadNumber = refl
not-none refusals.PayloadLong = refl
not-none refusals.BufferFull = refl
not-none (refusals.PacketTooEarly room need) = refl
not-none refusals.PacketTooLate = refl
not-none refusals.DiscardedDuplicate = refl
not-none refusals.OutShort = refl
not-none refusals.ListShort = refl
not-none refusals.FasnWorn = refl
not-none refusals.DriftRange = refl
not-none refusals.BadSetting = refl

-- an answer's number and cells are those of its line
module _ {A : Type 0} (line : Result A Refusal → Line) (p : (e : Refusal) → line (Err e) ≡ answer_line (λ (x : A). line (Ok x)) (Err e)) (q : (a : Result A Refusal) → (line a).refusal ≡ refusal_of a) (a : Result A Refusal) where
  cells-said : {c : List ℤ} → c ≡ cells_of (answer_line (λ (x : A). line (Ok x)) a) → c ≡ cells_of (line a)
  cells-said l = l ∙ ap cells_of (sym (told line p a))

  number-said : {n : ℕ} → n ≡ refusal_of a → n ≡ (line a).refusal
  number-said i = i ∙ sym (q a)

  same-after : (ws : List ℕ) (h : Head) (areas : List (List ℕ))
      → after ws (refusal_of a) h (cells_of (answer_line (λ (x : A). line (Ok x)) a)) areas ≡ after ws (line a).refusal h (cells_of (line a)) areas
  same-after ws h areas = rw (q a) (ap (λ (l : Line). after ws (refusal_of a) h (cells_of l) areas) (sym (told line p a)))

-- an answer that a caller puts in a type of its own, and what it was
module _ {A B : Type 0} (g : B → A) where
  abbrev pub under : Result B Refusal → Result A Refusal
  under (Ok r) = Ok (g r)
  under (Err e) = Err e

  pub mapped : (a : Result A Refusal) (b : Result B Refusal) (P : A → B → Type 0) → ((x : A) (r : B) → P x r → g r ≡ x) → MatchResult a (λ x. IsOkAnd b (P x)) (λ e. b ≡ Err e) → under b ≡ a
  mapped (Ok x) (Ok r) P f h = ap Ok (f x r h)
  mapped (Ok x) (Err e) P f h = absurd h
  mapped (Err e) b P f h = rw h

  under-refusal : (b : Result B Refusal) → refusal_of b ≡ refusal_of (under b)
  under-refusal (Ok r) = refl
  under-refusal (Err e) = refl

  under-line : (line : A → Line) (b : Result B Refusal) → answer_line (λ (r : B). line (g r)) b ≡ answer_line line (under b)
  under-line line (Ok r) = refl
  under-line line (Err e) = refl

  module _ (line : Result A Refusal → Line) (p : (e : Refusal) → line (Err e) ≡ answer_line (λ (x : A). line (Ok x)) (Err e)) (q : (a : Result A Refusal) → (line a).refusal ≡ refusal_of a)
      (a : Result A Refusal) (b : Result B Refusal) (m : under b ≡ a) where
    number-mapped : {n : ℕ} → n ≡ refusal_of b → n ≡ (line a).refusal
    number-mapped i = number-said line p q a (i ∙ under-refusal b ∙ ap refusal_of m)

    cells-mapped : {c : List ℤ} → c ≡ cells_of (answer_line (λ (r : B). line (Ok (g r))) b) → c ≡ cells_of (line a)
    cells-mapped l =
        cells-said line p q a (l ∙ ap cells_of (under-line (λ (x : A). line (Ok x)) b ∙ ap (answer_line (λ (x : A). line (Ok x))) m))

-- whether a payload is received, and where it lies: both are asked of one head
place-as : (ws : List ℕ) (t : Result Unit Refusal) (s : Option Part)
    → left (refusal_of (result_and (judged t (shows.found_as s) (λ e. shown_ended (Err e))).answer (Ok (judged t s (λ e. None)))))
    ws
    (cells_of (answer_line part_line (result_and (judged t (shows.found_as s) (λ e. shown_ended (Err e))).answer (Ok (judged t s (λ e. None))))))
    []
    ≡ from_shown ws (judged t (shows.found_as s) (λ e. shown_ended (Err e))) (judged t s (λ e. None))
place-as ws (Ok _) (Some p) = refl
place-as ws (Ok _) None = refl
place-as ws (Err e) s = refl

-- making, and a report, whose cells have the count in place of the words
made-as : (ws : List ℕ) (m : Result Head Refusal) (d : Head)
    → after ws (refusal_of m) (result_unwrap_or m d) (cells_of (answer_line (λ x. making_line (Ok x)) m)) [] ≡ from_made ws m
made-as ws (Ok h) d = refl
made-as ws (Err e) d = rw (not-none e)

loss-as : (ws : List ℕ) (r : Reported) (s o : List ℕ)
    → after ws (refusal_of r.answer) r.head (cells_of (answer_line (λ x. count_line (Ok x)) r.answer)) (s ∷ o ∷ []) ≡ from_loss ws (loss_ended r s o)
loss-as ws r s o = rw (loss-refusal r.answer o) (ap (λ (l : Line). after ws (refusal_of r.answer) r.head (cells_of l) (s ∷ o ∷ [])) (sym (told count_line (λ e. refl) r.answer)))

-- the two calls of every packet are made on the words where they lie; what these say after it is the head that it ended with
says-kept : (ws : List ℕ) (n : ℕ) (h : Head) → (n ≡ 0 → unpack_of (pack_of h) ≡ h) → unpack_of (kept ws n h) ≡ saying ws n h
says-kept ws n h f = by_bool (eqb n 0) (λ b. rw b (f (eqb-true n 0 b))) (λ b. rw b)

module _ (ws : List ℕ) {c : List ℤ} {n : ℕ} {k : List ℕ} where
  pub message-ends : (slots payloads output : List ℕ) (now : ℤ) {a : Result PopAnswer Refusal} {o : List ℕ} {z : ℤ}
      → pop_in a k o ≡ message_in ws slots payloads output z → z ≡ now → n ≡ refusal_of a → c ≡ cells_of (answer_line (λ x. message_line (Ok x)) a)
      → left n k c (o ∷ []) ≡ message_export_of ws slots payloads output now
  unfolding message_export_of
  message-ends slots payloads output now {a} {o} e z i l =
      let x = pop_call_of (unpack_of ws) slots payloads output now in
      let f : pop_in a k o ≡ message_in ws slots payloads output now = e ∙ rw z in
      rw (number-said message_line (λ d. refl) message-refusal a i, cells-said message_line (λ d. refl) message-refusal a l)
      (ap (λ (y : PopIn). left y.line.refusal y.words (cells_of y.line) (y.output ∷ [])) f
      ∙ ap (λ (h : Head). record { returned = x.line.refusal; words = kept ws x.line.refusal x.given.head; says = h; cells = cells_of x.line; areas = x.output ∷ [] }) (says-kept ws x.line.refusal x.given.head (message-says ws slots payloads output now)))

  module _ (slots payloads : List ℕ) (now : ℤ) (p : Packet) (payload : List ℕ) {a : Result DataAnswer Refusal} {s b : List ℕ} {z : ℤ}
      (e : data_left a k s b ≡ data_in ws slots payloads z p payload) (q : z ≡ now) (i : n ≡ refusal_of a) (l : c ≡ cells_of (answer_line (λ x. data_line (Ok x)) a)) where
    abbrev outcome : DataOutcome
    outcome = data_call_of (unpack_of ws) slots payloads now p payload

    same : data_left a k s b ≡ data_after ws outcome
    same = e ∙ rw q

    pub data-ends : left n k c (s ∷ b ∷ []) ≡ data_export_of ws slots payloads now p payload
    unfolding data_export_of
    data-ends =
        rw (number-said data_line (λ d. refl) data-refusal a i, cells-said data_line (λ d. refl) data-refusal a l)
        (ap (λ (y : DataLeft). left y.line.refusal y.words (cells_of y.line) (y.slots ∷ y.payloads ∷ [])) same
        ∙ ap (λ (h : Head). record { returned = outcome.line.refusal; words = kept ws outcome.line.refusal outcome.handled.head; says = h; cells = cells_of outcome.line; areas = outcome.slots ∷ outcome.payloads ∷ [] }) (says-kept ws outcome.line.refusal outcome.handled.head (data-says ws slots payloads now p payload)))

    pub data-counts : (cs : List ℕ) {ts : List ℕ} {t d : Counters} {m : ℕ} → t ≡ counters_of cs → ts ≡ counters_words d → d ≡ data_counts t m a → m ≡ length payload
        → left n k c (ts ∷ s ∷ b ∷ []) ≡ data_counted_of ws cs slots payloads now p payload
    unfolding data_counted_of data_export_of
    data-counts cs f g h j =
        rw (g, h, f, j)
        (ap (λ (y : Left). record { returned = y.returned; words = y.words; says = y.says; cells = y.cells; areas = counters_words (data_counts (counters_of cs) (length payload) a) ∷ y.areas }) data-ends
        ∙ ap (λ (y : DataLeft). let x = from_data ws outcome in record { returned = x.returned; words = x.words; says = x.says; cells = x.cells; areas = counters_words (data_counts (counters_of cs) (length payload) y.answer) ∷ x.areas }) same)

module _ (ws : List ℕ) where
  pub new-ends : (start : ℤ) (latency : ℕ) (dropping : Bool) (first capacity : ℕ) {m : Result Head Refusal} {h : Head} (d : Head) {s : ℤ} {n : ℕ} {c : List ℤ} {k : List ℕ}
      → m ≡ made_of s latency dropping first capacity → s ≡ start → h ≡ result_unwrap_or m d
      → ((areas : List (List ℕ)) → left n k c areas ≡ after ws (refusal_of m) h (cells_of (answer_line (λ x. making_line (Ok x)) m)) areas)
      → left n k c [] ≡ new_of ws start latency dropping first capacity
  unfolding new_of
  new-ends start latency dropping first capacity {m} d a z u l =
      l [] ∙ rw u (made-as ws m d) ∙ ap (from_made ws) (rw z at a)

  module _ {h : Head} (u : h ≡ unpack_of ws) {n : ℕ} {k : List ℕ} {c : List ℤ} where
    pub loss-ends : (slots list : List ℕ) (now : ℤ) {r : Reported} {s o : List ℕ} {z : ℤ}
        → loss_ended r s o ≡ report_call_of h slots list z → z ≡ now
        → ((areas : List (List ℕ)) → left n k c areas ≡ after ws (refusal_of r.answer) r.head (cells_of (answer_line (λ x. count_line (Ok x)) r.answer)) areas)
        → left n k c (s ∷ o ∷ []) ≡ loss_export_of ws slots list now
    unfolding loss_export_of
    loss-ends slots list now {r} {s} {o} e z l = l (s ∷ o ∷ []) ∙ loss-as ws r s o ∙ ap (from_loss ws) (rw (u, z) at e)

    pub full-ack-ends : (history : List ℕ) (now : ℤ) {r : FullAcked} {a : List ℕ} {z : ℤ}
        → full_ack_ended r a ≡ full_ack_call_of h history z → z ≡ now
        → ((areas : List (List ℕ)) → left n k c areas ≡ after ws (refusal_of r.answer) r.head (cells_of (answer_line (λ x. full_ack_line (Ok x)) r.answer)) areas)
        → left n k c (a ∷ []) ≡ full_ack_export_of ws history now
    unfolding full_ack_export_of
    full-ack-ends history now {r} {a} e z l =
        l (a ∷ []) ∙ same-after full_ack_line (λ d. refl) full-ack-refusal r.answer ws r.head (a ∷ []) ∙ ap (from_full_ack ws) (rw (u, z) at e)

    pub ack2-ends : (history : List ℕ) (now : ℤ) (number : ℕ) {r : Ack2ed} {z : ℤ}
        → ack2_ended r ≡ ack2_call_of h history z number → z ≡ now
        → ((areas : List (List ℕ)) → left n k c areas ≡ after ws (refusal_of r.answer) r.head (cells_of (answer_line (λ x. rtt_line (Ok x)) r.answer)) areas)
        → left n k c [] ≡ ack2_export_of ws history now number
    unfolding ack2_export_of
    ack2-ends history now number {r} e z l = l [] ∙ same-after rtt_line (λ d. refl) rtt-refusal r.answer ws r.head [] ∙ ap (from_ack2 ws) (rw (u, z) at e)

    pub clock-ends : (now : ℤ) (stamp : ℕ) {r : Clocked} {z : ℤ}
        → clock_ended r ≡ clock_call_of h z stamp → z ≡ now
        → ((areas : List (List ℕ)) → left n k c areas ≡ after ws (refusal_of r.answer) r.head (cells_of (answer_line (λ x. clock_line (Ok x)) r.answer)) areas)
        → left n k c [] ≡ clock_export_of ws now stamp
    unfolding clock_export_of
    clock-ends now stamp {r} e z l = l [] ∙ same-after clock_line (λ d. refl) clock-refusal r.answer ws r.head [] ∙ ap (from_clock ws) (rw (u, z) at e)

    pub clear-ends : {r : Cleared}
        → clear_ended r ≡ clear_call_of h
        → ((areas : List (List ℕ)) → left n k c areas ≡ after ws (refusal_of r.answer) r.head (cells_of (answer_line (λ x. clear_line (Ok x)) r.answer)) areas)
        → left n k c [] ≡ clear_export_of ws
    unfolding clear_export_of
    clear-ends {r} e l = l [] ∙ same-after clear_line (λ d. refl) clear-refusal r.answer ws r.head [] ∙ ap (from_clear ws) (rw u at e)

    module _ (cs : List ℕ) {ts : List ℕ} {t d : Counters} (q : t ≡ counters_of cs) (v : ts ≡ counters_words d) where
      pub ack2-counts : (history : List ℕ) (now : ℤ) (number : ℕ) {r : Ack2ed} {z : ℤ}
          → counted (ack2_ended r) d ≡ ack2_counted t h history z number → z ≡ now
          → ((areas : List (List ℕ)) → left n k c areas ≡ after ws (refusal_of r.answer) r.head (cells_of (answer_line (λ x. rtt_line (Ok x)) r.answer)) areas)
          → left n k c (ts ∷ []) ≡ ack2_counted_of ws cs history now number
      unfolding ack2_counted_of
      ack2-counts history now number {r} e z l =
          l (ts ∷ []) ∙ same-after rtt_line (λ d. refl) rtt-refusal r.answer ws r.head (ts ∷ []) ∙ rw v (ap (counting (from_ack2 ws)) (rw (u, z, q) at e))

      pub clock-counts : (now : ℤ) (stamp : ℕ) {r : Clocked} {z : ℤ}
          → counted (clock_ended r) d ≡ clock_counted t h z stamp → z ≡ now
          → ((areas : List (List ℕ)) → left n k c areas ≡ after ws (refusal_of r.answer) r.head (cells_of (answer_line (λ x. clock_line (Ok x)) r.answer)) areas)
          → left n k c (ts ∷ []) ≡ clock_counted_of ws cs now stamp
      unfolding clock_counted_of
      clock-counts now stamp {r} e z l =
          l (ts ∷ []) ∙ same-after clock_line (λ d. refl) clock-refusal r.answer ws r.head (ts ∷ []) ∙ rw v (ap (counting (from_clock ws)) (rw (u, z, q) at e))

  -- those that leave the head
  module _ {h : Head} (u : h ≡ unpack_of ws) {n : ℕ} {c : List ℤ} where
    pub drop-ends : (slots : List ℕ) (first last : ℕ) {a : Result ℕ Refusal} (b : Result Gone Refusal) {s : List ℕ}
        → drop_ended a s ≡ drop_call_of h slots first last → under (λ (r : Gone). r.0) b ≡ a
        → n ≡ refusal_of b → c ≡ cells_of (answer_line (λ r. drop_line (Ok r.0)) b)
        → left n ws c (s ∷ []) ≡ drop_export_of ws slots first last
    unfolding drop_export_of
    drop-ends slots first last {a} b e m i l =
        rw (number-mapped (λ (r : Gone). r.0) drop_line (λ d. refl) drop-refusal a b m i, cells-mapped (λ (r : Gone). r.0) drop_line (λ d. refl) drop-refusal a b m l)
        (ap (from_drop ws) (rw u at e))

    pub room-ends : {a : Result ℕ Refusal} (b : Result Room Refusal)
        → room_ended a ≡ room_call_of h → under (λ (r : Room). r.0) b ≡ a
        → n ≡ refusal_of b → c ≡ cells_of (answer_line (λ r. room_line (Ok r.0)) b)
        → left n ws c [] ≡ room_export_of ws
    unfolding room_export_of
    room-ends {a} b e m i l =
        rw (number-mapped (λ (r : Room). r.0) room_line (λ d. refl) room-refusal a b m i, cells-mapped (λ (r : Room). r.0) room_line (λ d. refl) room-refusal a b m l)
        (ap (from_room ws) (rw u at e))

    pub show-ends : (slots payloads : List ℕ) (number : ℕ) {a : Result Bool Refusal} {p : Option Part} {b : Result (Option Part) Refusal}
        → shown_ended a ≡ shown_call_of h slots (length payloads) number → p ≡ place_call_of h slots (length payloads) number
        → b ≡ result_and a (Ok p) → n ≡ refusal_of b → c ≡ cells_of (answer_line part_line b)
        → left n ws c [] ≡ show_export_of ws slots payloads number
    unfolding show_export_of shown_call_of place_call_of
    show-ends slots payloads number e f g i l =
        rw (i, l, g, ap (λ o. o.answer) (rw u at e), rw u at f)
        (place-as ws (shows.refusal_of (unpack_of ws) slots (length payloads) number) (shown_of (unpack_of ws).window slots number))

    pub drop-counts : (cs : List ℕ) {ts : List ℕ} {t d : Counters} → t ≡ counters_of cs → ts ≡ counters_words d
        → (slots : List ℕ) (first last : ℕ) {a : Result ℕ Refusal} (b : Result Gone Refusal) {s : List ℕ}
        → counted (drop_ended a s) d ≡ drop_counted t h slots first last → under (λ (r : Gone). r.0) b ≡ a
        → n ≡ refusal_of b → c ≡ cells_of (answer_line (λ r. drop_line (Ok r.0)) b)
        → left n ws c (ts ∷ s ∷ []) ≡ drop_counted_of ws cs slots first last
    unfolding drop_counted_of
    drop-counts cs q v slots first last {a} b e m i l =
        rw (number-mapped (λ (r : Gone). r.0) drop_line (λ d. refl) drop-refusal a b m i, cells-mapped (λ (r : Gone). r.0) drop_line (λ d. refl) drop-refusal a b m l, v)
        (ap (counting (from_drop ws)) (rw (u, q) at e))

pub ruleset boundary = (new-ends, data-ends, message-ends, loss-ends, full-ack-ends, ack2-ends, clock-ends, clear-ends, drop-ends, room-ends, show-ends, data-counts, ack2-counts, clock-counts, drop-counts, rules)
