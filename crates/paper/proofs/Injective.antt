-- An answer is read back from its line, so that two answers with one line are the same: 01, "a definition gives this paper's number and values". Assumes nothing.
use mathlib.Core.Path.{◌≡◌, refl, sym, ◌∙◌, ap}
use mathlib.Core.Bool.{Bool, true, false, cond}
use mathlib.Core.List.{List, [], ◌∷◌}
use Prim.Native.Nat.{ℕ, zero, suc, ◌*◌, ◌≤◌}
use borrow.Author.Tests.{ltb-false}
use lib.Dec.{eqb, ltb}
use lib.IntN.{ℤ, pos, nat_abs}
use lib.Ieee.{Float, nan}
use lib.ListN.{length, take, length-map}
use lib.Seq.{length-take-le}
use Rattle.numbers.proofs.Flags.{by-test}
use Rattle.std.specs.Prelude.{Option, Some, None, Result, Ok, Err}
use Rattle.std.specs.Result.{result_err}
use Rattle.acks.specs.declared.rtt.Rtt.{Rtt}
use Rattle.window.specs.declared.Window.{Window}
use Rattle.window_report.specs.Report.{ReportOutcome, needed, report_of}
use Rattle.window_report.proofs.ReportLaws.{list-keeps}
use Rattle.head.specs.Rules.{number_of, first_refusal, timed_rules}
use Rattle.head.specs.Head.{head_ok}
use Rattle.head.specs.declared.refusal.Refusal.{Refusal}
use Rattle.head.specs.declared.refusal.Refusal.TheVariants.{HeadBad, AreaShort, ClockRange, ClockBack, BadNumber, PayloadLong, BufferFull, PacketTooEarly, PacketTooLate, DiscardedDuplicate, OutShort, ListShort, FasnWorn, DriftRange, BadSetting}
use Rattle.head.specs.declared.state.Head.{Head}
use Rattle.head.proofs.Gates.{by-refusal}
use Rattle.feedback.specs.Loss.{LossOutcome, answer_of, reported_of, report_call_of}
use Rattle.receiver.specs.declared.data.DataAnswer.{DataAnswer}
use Rattle.receiver.specs.declared.data.DataAnswer.TheVariants as datas
use Rattle.window_pop.specs.declared.pop.PopAnswer.{PopAnswer}
use Rattle.window_pop.specs.declared.pop.PopAnswer.TheVariants as messages
use Rattle.clock.specs.declared.time.Synchronized.{Synchronized}
use Rattle.clock.specs.declared.time.Synchronized.TheVariants as clocks
use Rattle.feedback.specs.declared.acking.FullAck.{FullAck}
use Rattle.head.specs.Paper.{Word, got, light, loss, refused, message, late, report, ack, rtt, gone, adjusted, unsteady, clear, none, made, room, received, other, Value, whole, dash, plain, Line, refusal_values}
use Rattle.receiver.specs.Paper.{data_line, message_line}
use Rattle.feedback.specs.Paper.{loss_line, clock_line, rate_value, full_ack_line, rtt_line}
use Rattle.upkeep.specs.Paper.{drop_line, clear_line, room_line, shown_line}
use Rattle.paper.specs.Reach.{made_line}

-- a word by its place among the words
abbrev place_of : Word → ℕ
place_of got = 0
place_of light = 1
place_of loss = 2
place_of refused = 3
place_of message = 4
place_of late = 5
place_of report = 6
place_of ack = 7
place_of rtt = 8
place_of gone = 9
place_of adjusted = 10
place_of unsteady = 11
place_of clear = 12
place_of none = 13
place_of made = 14
place_of room = 15
place_of received = 16
place_of other = 17

abbrev is : Word → Word → Bool
is v w = eqb (place_of v) (place_of w)

-- value i of a line, `-` if it has none
abbrev at : List Value → ℕ → Value
at [] i = dash
at (v ∷ vs) zero = v
at (v ∷ vs) (suc i) = at vs i

-- a value as a number; 0 for `-`
abbrev as_whole : Value → ℤ
as_whole (whole z) = z
as_whole dash = pos 0

abbrev signed : List Value → ℕ → ℤ
signed vs i = as_whole (at vs i)

abbrev natural : List Value → ℕ → ℕ
natural vs i = nat_abs (signed vs i)

abbrev is_one : ℕ → Bool
is_one zero = false
is_one (suc n) = true

abbrev holds : List Value → ℕ → Bool
holds vs i = is_one (natural vs i)

-- two answers with one line are the same if each is read back from its own
by-reading : {A : Type 0} (line : A → Line) (back : Line → A) → ((a : A) → back (line a) ≡ a) → (a b : A) → line a ≡ line b → a ≡ b
by-reading line back r a b e = sym (r a) ∙ (ap back e ∙ r b)

-- a refusal is read back from its number and values
abbrev pub refusal_back : ℕ → List Value → Refusal
refusal_back n vs =
    cond (eqb n 1) HeadBad
    (cond (eqb n 2) AreaShort
    (cond (eqb n 3) ClockRange
    (cond (eqb n 4) ClockBack
    (cond (eqb n 5) BadNumber
    (cond (eqb n 6) PayloadLong
    (cond (eqb n 7) BufferFull
    (cond (eqb n 8) (PacketTooEarly (natural vs 0) (natural vs 1))
    (cond (eqb n 9) PacketTooLate
    (cond (eqb n 10) DiscardedDuplicate
    (cond (eqb n 11) OutShort
    (cond (eqb n 12) ListShort
    (cond (eqb n 13) FasnWorn
    (cond (eqb n 14) DriftRange
    BadSetting)))))))))))))

refusal-back : (e : Refusal) → refusal_back (number_of e) (refusal_values e) ≡ e
refusal-back HeadBad = refl
refusal-back AreaShort = refl
refusal-back ClockRange = refl
refusal-back ClockBack = refl
refusal-back BadNumber = refl
refusal-back PayloadLong = refl
refusal-back BufferFull = refl
refusal-back (PacketTooEarly places need) = refl
refusal-back PacketTooLate = refl
refusal-back DiscardedDuplicate = refl
refusal-back OutShort = refl
refusal-back ListShort = refl
refusal-back FasnWorn = refl
refusal-back DriftRange = refl
refusal-back BadSetting = refl

abbrev data_back : Word → ℕ → List Value → Result DataAnswer Refusal
data_back w n vs =
    cond (is w got) (Ok (datas.Got (natural vs 0) (holds vs 1)))
    (cond (is w light) (Ok (datas.Light (natural vs 0) (holds vs 1)))
    (cond (is w loss) (Ok (datas.Loss (natural vs 0) (natural vs 1)))
    (Err (refusal_back n vs))))

data-back : (a : Result DataAnswer Refusal) → data_back (data_line a).word (data_line a).refusal (data_line a).values ≡ a
data-back (Ok (datas.Got lrsn true)) = refl
data-back (Ok (datas.Got lrsn false)) = refl
data-back (Ok (datas.Light lrsn true)) = refl
data-back (Ok (datas.Light lrsn false)) = refl
data-back (Ok (datas.Loss first last)) = refl
data-back (Err e) = rw (refusal-back e)

pub data-injective : (a b : Result DataAnswer Refusal) → data_line a ≡ data_line b → a ≡ b
data-injective = by-reading data_line (λ l. data_back l.word l.refusal l.values) data-back

abbrev message_back : Word → ℕ → List Value → Result PopAnswer Refusal
message_back w n vs =
    cond (is w none) (Ok messages.Nothing)
    (cond (is w message) (Ok (messages.Message (signed vs 0) (natural vs 1) (natural vs 2)))
    (cond (is w late) (Ok (messages.Late (natural vs 0) (natural vs 1) (signed vs 2)))
    (Err (refusal_back n vs))))

message-back : (a : Result PopAnswer Refusal) → message_back (message_line a).word (message_line a).refusal (message_line a).values ≡ a
message-back (Ok messages.Nothing) = refl
message-back (Ok (messages.Message time bytes packets)) = refl
message-back (Ok (messages.Late first end delay)) = refl
message-back (Err e) = rw (refusal-back e)

pub message-injective : (a b : Result PopAnswer Refusal) → message_line a ≡ message_line b → a ≡ b
message-injective = by-reading message_line (λ l. message_back l.word l.refusal l.values) message-back

-- a report is read back by the count of its words, if the list has them
abbrev loss_back : Word → ℕ → List Value → Result (Option ℕ) Refusal
loss_back w n vs =
    cond (is w none) (Ok None)
    (cond (is w report) (Ok (Some (length vs)))
    (Err (refusal_back n vs)))

-- a list of n words has those of the report
abbrev pub Fits : Result (Option ℕ) Refusal → ℕ → Type 0
Fits (Ok None) n = Unit
Fits (Ok (Some words)) n = words ≤ n
Fits (Err e) n = Unit

loss-back : (a : Result (Option ℕ) Refusal) (list : List ℕ) → Fits a (length list) → loss_back (loss_line a list).word (loss_line a list).refusal (loss_line a list).values ≡ a
loss-back (Ok None) list i = refl
loss-back (Ok (Some words)) list i = ap (λ (n : ℕ). Ok (Some n)) (length-map (take words list) plain ∙ length-take-le words list i)
loss-back (Err e) list i = rw (refusal-back e)

pub loss-injective : (a b : Result (Option ℕ) Refusal) (l m : List ℕ) → Fits a (length l) → Fits b (length m) → loss_line a l ≡ loss_line b m → a ≡ b
loss-injective a b l m i j e = sym (loss-back a l i) ∙ (ap (λ (x : Line). loss_back x.word x.refusal x.values) e ∙ loss-back b m j)

-- so it is of every loss report: refusal 12 is tested before
words-fit : (w : Window) (ws : List ℕ) (time : ℤ) (mean : ℕ) (list : List ℕ) → Fits (answer_of (report_of w ws time mean list).answer) (length list)
unfolding report_of
words-fit w ws time mean list =
    let P : ReportOutcome → Type 0 = λ x. Fits (answer_of x.answer) (length list) in
    by-test P (eqb (needed w ws time mean) 0) _ _
    (λ t. tt)
    (λ t. by-test P (ltb (length list) (needed w ws time mean)) _ _ (λ u. tt) (λ u. ltb-false (length list) (needed w ws time mean) u))

pub loss-fits : (h : Head) (ws list : List ℕ) (now : ℤ) → Fits (report_call_of h ws list now).reported.answer (length (report_call_of h ws list now).list)
unfolding report_call_of reported_of
loss-fits h ws list now =
    let m = h.rtt.mean in
    by-refusal (λ (x : LossOutcome). Fits x.reported.answer (length x.list)) (first_refusal (timed_rules (head_ok h) (length ws) (3 * h.window.capacity) now h.latest)) _ _
    (λ x t. rw (list-keeps h.window ws now m list) (words-fit h.window ws now m list))
    (λ e t. tt)

abbrev drop_back : Word → ℕ → List Value → Result ℕ Refusal
drop_back w n vs =
    cond (is w gone) (Ok (natural vs 0))
    (Err (refusal_back n vs))

drop-back : (a : Result ℕ Refusal) → drop_back (drop_line a).word (drop_line a).refusal (drop_line a).values ≡ a
drop-back (Ok count) = refl
drop-back (Err e) = rw (refusal-back e)

pub drop-injective : (a b : Result ℕ Refusal) → drop_line a ≡ drop_line b → a ≡ b
drop-injective = by-reading drop_line (λ l. drop_back l.word l.refusal l.values) drop-back

abbrev clear_back : Word → ℕ → List Value → Result Unit Refusal
clear_back w n vs =
    cond (is w clear) (Ok tt)
    (Err (refusal_back n vs))

clear-back : (a : Result Unit Refusal) → clear_back (clear_line a).word (clear_line a).refusal (clear_line a).values ≡ a
clear-back (Ok _) = refl
clear-back (Err e) = rw (refusal-back e)

pub clear-injective : (a b : Result Unit Refusal) → clear_line a ≡ clear_line b → a ≡ b
clear-injective = by-reading clear_line (λ l. clear_back l.word l.refusal l.values) clear-back

abbrev room_back : Word → ℕ → List Value → Result ℕ Refusal
room_back w n vs =
    cond (is w room) (Ok (natural vs 0))
    (Err (refusal_back n vs))

room-back : (a : Result ℕ Refusal) → room_back (room_line a).word (room_line a).refusal (room_line a).values ≡ a
room-back (Ok places) = refl
room-back (Err e) = rw (refusal-back e)

pub room-injective : (a b : Result ℕ Refusal) → room_line a ≡ room_line b → a ≡ b
room-injective = by-reading room_line (λ l. room_back l.word l.refusal l.values) room-back

abbrev shown_back : Word → ℕ → List Value → Result Bool Refusal
shown_back w n vs =
    cond (is w received) (Ok true)
    (cond (is w other) (Ok false)
    (Err (refusal_back n vs)))

shown-back : (a : Result Bool Refusal) → shown_back (shown_line a).word (shown_line a).refusal (shown_line a).values ≡ a
shown-back (Ok true) = refl
shown-back (Ok false) = refl
shown-back (Err e) = rw (refusal-back e)

pub shown-injective : (a b : Result Bool Refusal) → shown_line a ≡ shown_line b → a ≡ b
shown-injective = by-reading shown_line (λ l. shown_back l.word l.refusal l.values) shown-back

abbrev first_of : List Float → Float
first_of [] = nan
first_of (x ∷ xs) = x

abbrev clock_back : Word → ℕ → List Value → List Float → Result Synchronized Refusal
clock_back w n vs xs =
    cond (is w none) (Ok clocks.Nothing)
    (cond (is w adjusted) (Ok (clocks.Adjusted (signed vs 0) (natural vs 1)))
    (cond (is w unsteady) (Ok (clocks.Unsteady (natural vs 0) (first_of xs)))
    (Err (refusal_back n vs))))

clock-back : (a : Result Synchronized Refusal) → clock_back (clock_line a).word (clock_line a).refusal (clock_line a).values (clock_line a).exact ≡ a
clock-back (Ok clocks.Nothing) = refl
clock-back (Ok (clocks.Adjusted mean deviation)) = refl
clock-back (Ok (clocks.Unsteady deviation v)) = refl
clock-back (Err e) = rw (refusal-back e)

pub clock-injective : (a b : Result Synchronized Refusal) → clock_line a ≡ clock_line b → a ≡ b
clock-injective = by-reading clock_line (λ l. clock_back l.word l.refusal l.values l.exact) clock-back

abbrev rate_back : Value → Option ℕ
rate_back (whole n) = Some (nat_abs n)
rate_back dash = None

rate-back : (a : Option ℕ) → rate_back (rate_value a) ≡ a
rate-back None = refl
rate-back (Some n) = refl

abbrev full_ack_back : Word → ℕ → List Value → Result (Option FullAck) Refusal
full_ack_back w n vs =
    cond (is w none) (Ok None)
    (cond (is w ack)
    (Ok
    (Some
    (record {
      number = natural vs 0;
      lrsn = natural vs 1;
      mean = natural vs 2;
      variance = natural vs 3;
      room = natural vs 4;
      packet_receive_rate = rate_back (at vs 5);
      estimated_link_capacity = rate_back (at vs 6);
      data_receive_rate = rate_back (at vs 7);
    })))
    (Err (refusal_back n vs)))

full-ack-back : (a : Result (Option FullAck) Refusal) → full_ack_back (full_ack_line a).word (full_ack_line a).refusal (full_ack_line a).values ≡ a
full-ack-back (Ok None) = refl
full-ack-back (Ok (Some a)) = rw (rate-back a.packet_receive_rate, rate-back a.estimated_link_capacity, rate-back a.data_receive_rate)
full-ack-back (Err e) = rw (refusal-back e)

pub full-ack-injective : (a b : Result (Option FullAck) Refusal) → full_ack_line a ≡ full_ack_line b → a ≡ b
full-ack-injective = by-reading full_ack_line (λ l. full_ack_back l.word l.refusal l.values) full-ack-back

abbrev rtt_back : Word → ℕ → List Value → Result (Option Rtt) Refusal
rtt_back w n vs =
    cond (is w none) (Ok None)
    (cond (is w rtt) (Ok (Some (record { mean = natural vs 0; variance = natural vs 1 })))
    (Err (refusal_back n vs)))

rtt-back : (a : Result (Option Rtt) Refusal) → rtt_back (rtt_line a).word (rtt_line a).refusal (rtt_line a).values ≡ a
rtt-back (Ok None) = refl
rtt-back (Ok (Some t)) = refl
rtt-back (Err e) = rw (refusal-back e)

pub rtt-injective : (a b : Result (Option Rtt) Refusal) → rtt_line a ≡ rtt_line b → a ≡ b
rtt-injective = by-reading rtt_line (λ l. rtt_back l.word l.refusal l.values) rtt-back

-- making's line has its refusal, not its head
abbrev made_back : Word → ℕ → List Value → Option Refusal
made_back w n vs = cond (is w made) None (Some (refusal_back n vs))

made-back : (a : Result Head Refusal) → made_back (made_line a).word (made_line a).refusal (made_line a).values ≡ result_err a
made-back (Ok h) = refl
made-back (Err e) = rw (refusal-back e)

pub made-refusal : (a b : Result Head Refusal) → made_line a ≡ made_line b → result_err a ≡ result_err b
made-refusal a b e = sym (made-back a) ∙ (ap (λ (l : Line). made_back l.word l.refusal l.values) e ∙ made-back b)
