-- An answer is read back from its cells and its refusal, so that two answers of one call with the same cells and the same refusal are the same. Assumes nothing.
-- Each law asks that the numbers fit 64 bits, as those of the machine do: past them two numbers have one cell.
use mathlib.Core.Path.{◌≡◌, refl, sym, ◌∙◌, ap}
use mathlib.Core.Bool.{Bool, true, false, cond}
use mathlib.Core.List.{List, [], ◌∷◌}
use Prim.Native.Nat.{ℕ, zero, suc, ◌^◌, ◌<◌}
use native.Mathlib.Omega.{arith}
use lib.Dec.{T, eqb}
use lib.IntN.{ℤ, pos, negsuc, nat_abs}
use lib.Ieee.{Float, binary64, fits, to_bits, of_bits}
use lib.Ieee.Bits.{of_bits-to_bits, to_bits-lt}
use mir.Syntax.{w64}
use mir.Val.{SFits}
use Rattle.std.specs.Prelude.{Option, Some, None, Result, Ok, Err}
use Rattle.numbers.specs.Circular.{wrap}
use Rattle.numbers.proofs.Signs.{signed-congruent}
use Rattle.acks.specs.declared.rtt.Rtt.{Rtt}
use Rattle.window_pop.specs.declared.pop.PopAnswer.{PopAnswer}
use Rattle.window_pop.specs.declared.pop.PopAnswer.TheVariants as messages
use Rattle.head.specs.Rules.{number_of}
use Rattle.head.specs.Paper.{refused_line}
use Rattle.head.specs.declared.refusal.Refusal.{Refusal}
use Rattle.head.specs.declared.refusal.Refusal.TheVariants as refusals
use Rattle.receiver.specs.declared.data.DataAnswer.{DataAnswer}
use Rattle.receiver.specs.declared.data.DataAnswer.TheVariants as datas
use Rattle.clock.specs.declared.time.Synchronized.{Synchronized}
use Rattle.clock.specs.declared.time.Synchronized.TheVariants as clocks
use Rattle.feedback.specs.declared.acking.FullAck.{FullAck}
use Rattle.receiver.specs.Paper.{data_line, message_line}
use Rattle.feedback.specs.Paper.{rate_value, full_ack_line, rtt_line, clock_line}
use Rattle.upkeep.specs.Paper.{drop_line, clear_line, room_line, shown_line}
use Rattle.cells.specs.Cells.{cell, value_cell, cells_of, count_line, loss_cells, shown_cells}
use Rattle.cells.proofs.Numbers.{cell_same, cell-wraps, cell-low}

-- cell i
abbrev at : List ℤ → ℕ → ℤ
at [] i = pos 0
at (z ∷ zs) zero = z
at (z ∷ zs) (suc i) = at zs i

abbrev coded : List ℤ → ℕ → Bool
coded zs k = eqb (nat_abs (at zs 0)) k

-- a number below 2^64 from its cell
abbrev natural : List ℤ → ℕ → ℕ
natural zs i = wrap 64 (at zs i)

back : (n : ℕ) → n < 2 ^ 64 → wrap 64 (cell (pos n)) ≡ n
back n h = rw (cell-wraps n h) (signed-congruent 64 n h)

abbrev holds : ℕ → Bool
holds zero = false
holds (suc n) = true

flag-back : (t : Bool) → holds (wrap 64 (cell (pos (cond t 1 0)))) ≡ t
flag-back true = rw (back 1 (omega arith))
flag-back false = rw (back 0 (omega arith))

whole_back : (z : ℤ) → SFits w64 z → cell z ≡ z
whole_back z f = sym (cell_same z f)

module _ {A : Type 0} (cells : A → List ℤ) (refusal : A → ℕ) (Ok : A → Type 0) (read : ℕ → List ℤ → A) (r : (a : A) → Ok a → read (refusal a) (cells a) ≡ a) where
  by-reading : (a b : A) → Ok a → Ok b → cells a ≡ cells b → refusal a ≡ refusal b → a ≡ b
  by-reading a b i j p q = sym (r a i) ∙ (ap (λ (n : ℕ). read n (cells a)) q ∙ ap (read (refusal b)) p ∙ r b j)

-- a refusal from its number and the cells; 8 has its room and need
abbrev pub RefusalFits : Refusal → Type 0
RefusalFits (refusals.PacketTooEarly places need) = (places < 2 ^ 64) × (need < 2 ^ 64)
RefusalFits _ = Unit

abbrev refusal_back : ℕ → List ℤ → Refusal
refusal_back n zs =
    cond (eqb n 1) refusals.HeadBad
    (cond (eqb n 2) refusals.AreaShort
    (cond (eqb n 3) refusals.ClockRange
    (cond (eqb n 4) refusals.ClockBack
    (cond (eqb n 5) refusals.BadNumber
    (cond (eqb n 6) refusals.PayloadLong
    (cond (eqb n 7) refusals.BufferFull
    (cond (eqb n 8) (refusals.PacketTooEarly (natural zs 1) (natural zs 2))
    (cond (eqb n 9) refusals.PacketTooLate
    (cond (eqb n 10) refusals.DiscardedDuplicate
    (cond (eqb n 11) refusals.OutShort
    (cond (eqb n 12) refusals.ListShort
    (cond (eqb n 13) refusals.FasnWorn
    (cond (eqb n 14) refusals.DriftRange
    refusals.BadSetting)))))))))))))

refusal-back : (e : Refusal) → RefusalFits e → refusal_back (number_of e) (cells_of (refused_line e)) ≡ e
refusal-back refusals.HeadBad i = refl
refusal-back refusals.AreaShort i = refl
refusal-back refusals.ClockRange i = refl
refusal-back refusals.ClockBack i = refl
refusal-back refusals.BadNumber i = refl
refusal-back refusals.PayloadLong i = refl
refusal-back refusals.BufferFull i = refl
refusal-back (refusals.PacketTooEarly places need) i = rw (back places i.0, back need i.1)
refusal-back refusals.PacketTooLate i = refl
refusal-back refusals.DiscardedDuplicate i = refl
refusal-back refusals.OutShort i = refl
refusal-back refusals.ListShort i = refl
refusal-back refusals.FasnWorn i = refl
refusal-back refusals.DriftRange i = refl
refusal-back refusals.BadSetting i = refl

-- an answer's numbers fit if those of what it tells do, or of its refusal
abbrev pub AnswerFits : {A : Type 0} → (A → Type 0) → Result A Refusal → Type 0
AnswerFits f (Ok a) = f a
AnswerFits f (Err e) = RefusalFits e

abbrev data_fits : DataAnswer → Type 0
data_fits (datas.Got lrsn recovered) = lrsn < 2 ^ 64
data_fits (datas.Light lrsn recovered) = lrsn < 2 ^ 64
data_fits (datas.Loss first last) = (first < 2 ^ 64) × (last < 2 ^ 64)

abbrev pub DataFits : Result DataAnswer Refusal → Type 0
DataFits = AnswerFits data_fits

abbrev data_back : ℕ → List ℤ → Result DataAnswer Refusal
data_back n zs =
    cond (coded zs 0) (Ok (datas.Got (natural zs 1) (holds (natural zs 2))))
    (cond (coded zs 1) (Ok (datas.Light (natural zs 1) (holds (natural zs 2))))
    (cond (coded zs 2) (Ok (datas.Loss (natural zs 1) (natural zs 2)))
    (Err (refusal_back n zs))))

data-back : (a : Result DataAnswer Refusal) → DataFits a → data_back (data_line a).refusal (cells_of (data_line a)) ≡ a
data-back (Ok (datas.Got lrsn recovered)) i = rw (back lrsn i, flag-back recovered)
data-back (Ok (datas.Light lrsn recovered)) i = rw (back lrsn i, flag-back recovered)
data-back (Ok (datas.Loss first last)) i = rw (back first i.0, back last i.1)
data-back (Err e) i = ap Err (refusal-back e i)

pub data-injective : (a b : Result DataAnswer Refusal) → DataFits a → DataFits b → cells_of (data_line a) ≡ cells_of (data_line b) → (data_line a).refusal ≡ (data_line b).refusal → a ≡ b
data-injective = by-reading (λ a. cells_of (data_line a)) (λ a. (data_line a).refusal) DataFits data_back data-back

abbrev message_fits : PopAnswer → Type 0
message_fits messages.Nothing = Unit
message_fits (messages.Message time bytes packets) = SFits w64 time × (bytes < 2 ^ 64) × (packets < 2 ^ 64)
message_fits (messages.Late first end delay) = (first < 2 ^ 64) × (end < 2 ^ 64) × SFits w64 delay

abbrev pub MessageFits : Result PopAnswer Refusal → Type 0
MessageFits = AnswerFits message_fits

abbrev message_back : ℕ → List ℤ → Result PopAnswer Refusal
message_back n zs =
    cond (coded zs 13) (Ok messages.Nothing)
    (cond (coded zs 4) (Ok (messages.Message (at zs 1) (natural zs 2) (natural zs 3)))
    (cond (coded zs 5) (Ok (messages.Late (natural zs 1) (natural zs 2) (at zs 3)))
    (Err (refusal_back n zs))))

message-back : (a : Result PopAnswer Refusal) → MessageFits a → message_back (message_line a).refusal (cells_of (message_line a)) ≡ a
message-back (Ok messages.Nothing) i = refl
message-back (Ok (messages.Message time bytes packets)) i = rw (whole_back time i.0, back bytes i.1, back packets i.2)
message-back (Ok (messages.Late first end delay)) i = rw (back first i.0, back end i.1, whole_back delay i.2)
message-back (Err e) i = ap Err (refusal-back e i)

pub message-injective : (a b : Result PopAnswer Refusal) → MessageFits a → MessageFits b → cells_of (message_line a) ≡ cells_of (message_line b) → (message_line a).refusal ≡ (message_line b).refusal → a ≡ b
message-injective = by-reading (λ a. cells_of (message_line a)) (λ a. (message_line a).refusal) MessageFits message_back message-back

abbrev loss_fits : Option ℕ → Type 0
loss_fits None = Unit
loss_fits (Some words) = words < 2 ^ 64

abbrev pub LossFits : Result (Option ℕ) Refusal → Type 0
LossFits = AnswerFits loss_fits

abbrev loss_back : ℕ → List ℤ → Result (Option ℕ) Refusal
loss_back n zs = cond (coded zs 13) (Ok None) (cond (coded zs 6) (Ok (Some (natural zs 1))) (Err (refusal_back n zs)))

loss-back : (a : Result (Option ℕ) Refusal) → LossFits a → loss_back (count_line a).refusal (loss_cells a) ≡ a
loss-back (Ok None) i = refl
loss-back (Ok (Some words)) i = rw (back words i)
loss-back (Err e) i = ap Err (refusal-back e i)

pub loss-injective : (a b : Result (Option ℕ) Refusal) → LossFits a → LossFits b → loss_cells a ≡ loss_cells b → (count_line a).refusal ≡ (count_line b).refusal → a ≡ b
loss-injective = by-reading loss_cells (λ a. (count_line a).refusal) LossFits loss_back loss-back

-- a rate is below 2^63, so that none is -1
abbrev pub RateFits : Option ℕ → Type 0
RateFits None = Unit
RateFits (Some n) = n < 2 ^ 63

abbrev rate_back : ℤ → Option ℕ
rate_back (pos n) = Some n
rate_back (negsuc n) = None

rate-back : (a : Option ℕ) → RateFits a → rate_back (value_cell (rate_value a)) ≡ a
rate-back None i = refl
rate-back (Some n) i = rw (cell-low n i)

abbrev ack_fits : Option FullAck → Type 0
ack_fits None = Unit
ack_fits (Some a) =
    (a.number < 2 ^ 64)
    × (a.lrsn < 2 ^ 64)
    × (a.mean < 2 ^ 64)
    × (a.variance < 2 ^ 64)
    × (a.room < 2 ^ 64)
    × RateFits a.packet_receive_rate
    × RateFits a.estimated_link_capacity
    × RateFits a.data_receive_rate

abbrev pub FullAckFits : Result (Option FullAck) Refusal → Type 0
FullAckFits = AnswerFits ack_fits

abbrev ack_back : List ℤ → FullAck
ack_back zs = record {
  number = natural zs 1;
  lrsn = natural zs 2;
  mean = natural zs 3;
  variance = natural zs 4;
  room = natural zs 5;
  packet_receive_rate = rate_back (at zs 6);
  estimated_link_capacity = rate_back (at zs 7);
  data_receive_rate = rate_back (at zs 8);
}

abbrev full_ack_back : ℕ → List ℤ → Result (Option FullAck) Refusal
full_ack_back n zs = cond (coded zs 13) (Ok None) (cond (coded zs 7) (Ok (Some (ack_back zs))) (Err (refusal_back n zs)))

full-ack-back : (a : Result (Option FullAck) Refusal) → FullAckFits a → full_ack_back (full_ack_line a).refusal (cells_of (full_ack_line a)) ≡ a
full-ack-back (Ok None) i = refl
full-ack-back (Ok (Some a)) i =
    rw (back a.number i.0, back a.lrsn i.1, back a.mean i.2, back a.variance i.3, back a.room i.4, rate-back a.packet_receive_rate i.5, rate-back a.estimated_link_capacity i.6, rate-back a.data_receive_rate i.7)
full-ack-back (Err e) i = ap Err (refusal-back e i)

pub full-ack-injective : (a b : Result (Option FullAck) Refusal) → FullAckFits a → FullAckFits b → cells_of (full_ack_line a) ≡ cells_of (full_ack_line b) → (full_ack_line a).refusal ≡ (full_ack_line b).refusal → a ≡ b
full-ack-injective = by-reading (λ a. cells_of (full_ack_line a)) (λ a. (full_ack_line a).refusal) FullAckFits full_ack_back full-ack-back

abbrev rtt_fits : Option Rtt → Type 0
rtt_fits None = Unit
rtt_fits (Some r) = (r.mean < 2 ^ 64) × (r.variance < 2 ^ 64)

abbrev pub RttFits : Result (Option Rtt) Refusal → Type 0
RttFits = AnswerFits rtt_fits

abbrev rtt_back : ℕ → List ℤ → Result (Option Rtt) Refusal
rtt_back n zs =
    cond (coded zs 13) (Ok None) (cond (coded zs 8) (Ok (Some (record { mean = natural zs 1; variance = natural zs 2 }))) (Err (refusal_back n zs)))

rtt-back : (a : Result (Option Rtt) Refusal) → RttFits a → rtt_back (rtt_line a).refusal (cells_of (rtt_line a)) ≡ a
rtt-back (Ok None) i = refl
rtt-back (Ok (Some r)) i = rw (back r.mean i.0, back r.variance i.1)
rtt-back (Err e) i = ap Err (refusal-back e i)

pub rtt-injective : (a b : Result (Option Rtt) Refusal) → RttFits a → RttFits b → cells_of (rtt_line a) ≡ cells_of (rtt_line b) → (rtt_line a).refusal ≡ (rtt_line b).refusal → a ≡ b
rtt-injective = by-reading (λ a. cells_of (rtt_line a)) (λ a. (rtt_line a).refusal) RttFits rtt_back rtt-back

-- a count: how many a drop request gave up, how many there is room for
abbrev count_fits : ℕ → Type 0
count_fits n = n < 2 ^ 64

abbrev pub DropFits : Result ℕ Refusal → Type 0
DropFits = AnswerFits count_fits

abbrev drop_back : ℕ → List ℤ → Result ℕ Refusal
drop_back n zs = cond (coded zs 9) (Ok (natural zs 1)) (Err (refusal_back n zs))

drop-back : (a : Result ℕ Refusal) → DropFits a → drop_back (drop_line a).refusal (cells_of (drop_line a)) ≡ a
drop-back (Ok count) i = rw (back count i)
drop-back (Err e) i = ap Err (refusal-back e i)

pub drop-injective : (a b : Result ℕ Refusal) → DropFits a → DropFits b → cells_of (drop_line a) ≡ cells_of (drop_line b) → (drop_line a).refusal ≡ (drop_line b).refusal → a ≡ b
drop-injective = by-reading (λ a. cells_of (drop_line a)) (λ a. (drop_line a).refusal) DropFits drop_back drop-back

-- what has no numbers but its refusal's
abbrev pub BareFits : {A : Type 0} → Result A Refusal → Type 0
BareFits = AnswerFits (λ a. Unit)

abbrev clear_back : ℕ → List ℤ → Result Unit Refusal
clear_back n zs = cond (coded zs 12) (Ok tt) (Err (refusal_back n zs))

clear-back : (a : Result Unit Refusal) → BareFits a → clear_back (clear_line a).refusal (cells_of (clear_line a)) ≡ a
clear-back (Ok _) i = refl
clear-back (Err e) i = ap Err (refusal-back e i)

pub clear-injective : (a b : Result Unit Refusal) → BareFits a → BareFits b → cells_of (clear_line a) ≡ cells_of (clear_line b) → (clear_line a).refusal ≡ (clear_line b).refusal → a ≡ b
clear-injective = by-reading (λ a. cells_of (clear_line a)) (λ a. (clear_line a).refusal) BareFits clear_back clear-back

abbrev pub RoomFits : Result ℕ Refusal → Type 0
RoomFits = AnswerFits count_fits

abbrev room_back : ℕ → List ℤ → Result ℕ Refusal
room_back n zs = cond (coded zs 15) (Ok (natural zs 1)) (Err (refusal_back n zs))

room-back : (a : Result ℕ Refusal) → RoomFits a → room_back (room_line a).refusal (cells_of (room_line a)) ≡ a
room-back (Ok n) i = rw (back n i)
room-back (Err e) i = ap Err (refusal-back e i)

pub room-injective : (a b : Result ℕ Refusal) → RoomFits a → RoomFits b → cells_of (room_line a) ≡ cells_of (room_line b) → (room_line a).refusal ≡ (room_line b).refusal → a ≡ b
room-injective = by-reading (λ a. cells_of (room_line a)) (λ a. (room_line a).refusal) RoomFits room_back room-back

-- wherever the payload lies
abbrev shown_back : ℕ → List ℤ → Result Bool Refusal
shown_back n zs = cond (coded zs 16) (Ok true) (cond (coded zs 17) (Ok false) (Err (refusal_back n zs)))

shown-back : (a : Result Bool Refusal) (place len : ℕ) → BareFits a → shown_back (shown_line a).refusal (shown_cells a place len) ≡ a
shown-back (Ok true) place len i = refl
shown-back (Ok false) place len i = refl
shown-back (Err e) place len i = ap Err (refusal-back e i)

pub shown-injective : (a b : Result Bool Refusal) (p l q m : ℕ) → BareFits a → BareFits b → shown_cells a p l ≡ shown_cells b q m → (shown_line a).refusal ≡ (shown_line b).refusal → a ≡ b
shown-injective a b p l q m i j e f =
    sym (shown-back a p l i) ∙ (ap (λ (n : ℕ). shown_back n (shown_cells a p l)) f ∙ ap (shown_back (shown_line b).refusal) e ∙ shown-back b q m j)

-- an f64 of the machine
abbrev clock_fits : Synchronized → Type 0
clock_fits clocks.Nothing = Unit
clock_fits (clocks.Adjusted mean deviation) = SFits w64 mean × (deviation < 2 ^ 64)
clock_fits (clocks.Unsteady deviation v) = (deviation < 2 ^ 64) × T (fits binary64 v)

abbrev pub ClockFits : Result Synchronized Refusal → Type 0
ClockFits = AnswerFits clock_fits

abbrev clock_back : ℕ → List ℤ → Result Synchronized Refusal
clock_back n zs =
    cond (coded zs 13) (Ok clocks.Nothing)
    (cond (coded zs 10) (Ok (clocks.Adjusted (at zs 1) (natural zs 2)))
    (cond (coded zs 11) (Ok (clocks.Unsteady (natural zs 1) (of_bits binary64 (natural zs 9))))
    (Err (refusal_back n zs))))

bits_back : (v : Float) → T (fits binary64 v) → of_bits binary64 (wrap 64 (cell (pos (to_bits binary64 v)))) ≡ v
bits_back v f = rw (back (to_bits binary64 v) (to_bits-lt binary64 v f)) (of_bits-to_bits binary64 v f)

clock-back : (a : Result Synchronized Refusal) → ClockFits a → clock_back (clock_line a).refusal (cells_of (clock_line a)) ≡ a
clock-back (Ok clocks.Nothing) i = refl
clock-back (Ok (clocks.Adjusted mean deviation)) i = rw (whole_back mean i.0, back deviation i.1)
clock-back (Ok (clocks.Unsteady deviation v)) i = rw (back deviation i.0, bits_back v i.1)
clock-back (Err e) i = ap Err (refusal-back e i)

pub clock-injective : (a b : Result Synchronized Refusal) → ClockFits a → ClockFits b → cells_of (clock_line a) ≡ cells_of (clock_line b) → (clock_line a).refusal ≡ (clock_line b).refusal → a ≡ b
clock-injective = by-reading (λ a. cells_of (clock_line a)) (λ a. (clock_line a).refusal) ClockFits clock_back clock-back
