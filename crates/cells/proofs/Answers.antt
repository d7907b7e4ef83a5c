-- What the code does at each return, as laws over plain values, and what a caller has to know of a line. Assumes nothing.
use mathlib.Core.Path.{◌≡◌, refl}
use mathlib.Core.Bool.{Bool, true, false}
use mathlib.Core.List.{List, [], ◌∷◌}
use Prim.Native.Nat.{ℕ}
use borrow.Author.Rules.{rules}
use lib.IntN.{ℤ}
use Rattle.std.specs.Prelude.{Option, Some, None, Result, Ok, Err}
use Rattle.acks.specs.declared.rtt.Rtt.{Rtt}
use Rattle.window_pop.specs.declared.pop.PopAnswer.{PopAnswer}
use Rattle.window_pop.specs.declared.pop.PopAnswer.TheVariants as messages
use Rattle.head.specs.Paper.{Line}
use Rattle.head.specs.declared.refusal.Refusal.{Refusal}
use Rattle.head.specs.declared.state.Head.{Head}
use Rattle.receiver.specs.declared.data.DataAnswer.{DataAnswer}
use Rattle.receiver.specs.declared.data.DataAnswer.TheVariants as datas
use Rattle.feedback.specs.declared.acking.FullAck.{FullAck}
use Rattle.clock.specs.declared.time.Synchronized.{Synchronized}
use Rattle.clock.specs.declared.time.Synchronized.TheVariants as clocks
use Rattle.receiver.specs.Paper.{data_line, message_line}
use Rattle.feedback.specs.Paper.{loss_line, full_ack_line, rtt_line, clock_line}
use Rattle.upkeep.specs.Paper.{shown_line, drop_line, clear_line, room_line}
use Rattle.cells.specs.Cells.{refusal_of, answer_line, count_line, place_line, making_line}
use Rattle.cells.proofs.Numbers.{reads-signed, nan-bits, own_cell, read_cell, flag_cell}

-- ten cells, each told by itself
pub ten : {a b c d e f g h i j a₁ b₁ c₁ d₁ e₁ f₁ g₁ h₁ i₁ j₁ : ℤ}
    → a₁ ≡ a → b₁ ≡ b → c₁ ≡ c → d₁ ≡ d → e₁ ≡ e → f₁ ≡ f → g₁ ≡ g → h₁ ≡ h → i₁ ≡ i → j₁ ≡ j
    → (a₁ ∷ b₁ ∷ c₁ ∷ d₁ ∷ e₁ ∷ f₁ ∷ g₁ ∷ h₁ ∷ i₁ ∷ j₁ ∷ []) ≡ (a ∷ b ∷ c ∷ d ∷ e ∷ f ∷ g ∷ h ∷ i ∷ j ∷ [])
ten p q r s t u v w x y = rw (p, q, r, s, t, u, v, w, x, y)

-- a line has its answer's refusal
pub data-refusal : (a : Result DataAnswer Refusal) → (data_line a).refusal ≡ refusal_of a
data-refusal (Ok (datas.Got lrsn recovered)) = refl
data-refusal (Ok (datas.Light lrsn recovered)) = refl
data-refusal (Ok (datas.Loss first last)) = refl
data-refusal (Err e) = refl

pub message-refusal : (a : Result PopAnswer Refusal) → (message_line a).refusal ≡ refusal_of a
message-refusal (Ok messages.Nothing) = refl
message-refusal (Ok (messages.Message time bytes packets)) = refl
message-refusal (Ok (messages.Late first end delay)) = refl
message-refusal (Err e) = refl

pub loss-refusal : (a : Result (Option ℕ) Refusal) (list : List ℕ) → (loss_line a list).refusal ≡ refusal_of a
loss-refusal (Ok None) list = refl
loss-refusal (Ok (Some words)) list = refl
loss-refusal (Err e) list = refl

pub full-ack-refusal : (a : Result (Option FullAck) Refusal) → (full_ack_line a).refusal ≡ refusal_of a
full-ack-refusal (Ok None) = refl
full-ack-refusal (Ok (Some ack)) = refl
full-ack-refusal (Err e) = refl

pub rtt-refusal : (a : Result (Option Rtt) Refusal) → (rtt_line a).refusal ≡ refusal_of a
rtt-refusal (Ok None) = refl
rtt-refusal (Ok (Some r)) = refl
rtt-refusal (Err e) = refl

pub drop-refusal : (a : Result ℕ Refusal) → (drop_line a).refusal ≡ refusal_of a
drop-refusal (Ok count) = refl
drop-refusal (Err e) = refl

pub clear-refusal : (a : Result Unit Refusal) → (clear_line a).refusal ≡ refusal_of a
clear-refusal (Ok _) = refl
clear-refusal (Err e) = refl

pub room-refusal : (a : Result ℕ Refusal) → (room_line a).refusal ≡ refusal_of a
room-refusal (Ok n) = refl
room-refusal (Err e) = refl

pub clock-refusal : (a : Result Synchronized Refusal) → (clock_line a).refusal ≡ refusal_of a
clock-refusal (Ok clocks.Nothing) = refl
clock-refusal (Ok (clocks.Adjusted mean deviation)) = refl
clock-refusal (Ok (clocks.Unsteady deviation v)) = refl
clock-refusal (Err e) = refl

pub shown-refusal : (a : Result Bool Refusal) → (shown_line a).refusal ≡ refusal_of a
shown-refusal (Ok true) = refl
shown-refusal (Ok false) = refl
shown-refusal (Err e) = refl

pub making-refusal : (a : Result Head Refusal) → (making_line a).refusal ≡ refusal_of a
making-refusal (Ok h) = refl
making-refusal (Err e) = refl

-- a line that writes a refusal as all others do is told by what it writes of the rest
pub told : {A : Type 0} (line : Result A Refusal → Line) → ((e : Refusal) → line (Err e) ≡ answer_line (λ (a : A). line (Ok a)) (Err e))
    → (a : Result A Refusal) → line a ≡ answer_line (λ (b : A). line (Ok b)) a
told line p (Ok a) = refl
told line p (Err e) = p e

-- a report's count, and a payload's place, stand for 01's line: the word and the refusal are the line's
pub count_word : (a : Result (Option ℕ) Refusal) (list : List ℕ) → (count_line a).word ≡ (loss_line a list).word
count_word (Ok None) list = refl
count_word (Ok (Some words)) list = refl
count_word (Err e) list = refl

pub count-refusal : (a : Result (Option ℕ) Refusal) (list : List ℕ) → (count_line a).refusal ≡ (loss_line a list).refusal
count-refusal (Ok None) list = refl
count-refusal (Ok (Some words)) list = refl
count-refusal (Err e) list = refl

pub place-word : (a : Result Bool Refusal) (at len : ℕ) → (place_line a at len).word ≡ (shown_line a).word
place-word (Ok true) at len = refl
place-word (Ok false) at len = refl
place-word (Err e) at len = refl

pub place-refusal : (a : Result Bool Refusal) (at len : ℕ) → (place_line a at len).refusal ≡ (shown_line a).refusal
place-refusal (Ok true) at len = refl
place-refusal (Ok false) at len = refl
place-refusal (Err e) at len = refl

pub ruleset answers = (reads-signed, nan-bits, own_cell, read_cell, flag_cell, ten, rules)
