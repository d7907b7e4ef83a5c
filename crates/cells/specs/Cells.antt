-- An answer as ten numbers of 64 bits: what 01 writes of it ("Trace, mark DLT"), for a caller that does not read text.
-- Cell 0 is the word's code, cells 1 to 8 the values in order, and cell 9 an f64's bits. The refusal's number stands beside the cells.
use Rattle.std.specs.Prelude.{Bool, true, false, List, [], ◌∷◌, ◌++◌, ℕ, zero, suc, ℤ, pos, negsuc, Float, Option, Some, None, Result, Ok, Err}
use Rattle.std.specs.Float.{binary64}
use Rattle.std.specs.Float.Ieee.{to_bits}
use Rattle.numbers.specs.Circular.{signed, wrap}
use Rattle.window.specs.declared.show.Part.{Part}
use Rattle.head.specs.Rules.{number_of}
use Rattle.head.specs.declared.refusal.Refusal.{Refusal}
use Rattle.head.specs.declared.state.Head.{Head}
use Rattle.head.specs.Paper.{Word, got, light, loss, refused, message, late, report, ack, rtt, gone, adjusted, unsteady, clear, none, made, room, received, other, Value, whole, dash, plain, Line, said, refused_line}

-- a word's code is its place among the words
abbrev pub code_of : Word → ℕ
code_of got = 0
code_of light = 1
code_of loss = 2
code_of refused = 3
code_of message = 4
code_of late = 5
code_of report = 6
code_of ack = 7
code_of rtt = 8
code_of gone = 9
code_of adjusted = 10
code_of unsteady = 11
code_of clear = 12
code_of none = 13
code_of made = 14
code_of room = 15
code_of received = 16
code_of other = 17

-- a number as a cell: itself in -2^63..2^63-1, else what is congruent to it mod 2^64 there (two's complement)
unfoldable pub cell : ℤ → ℤ
cell z = signed 64 (wrap 64 z)

-- `-` is -1
abbrev pub value_cell : Value → ℤ
value_cell (whole z) = cell z
value_cell dash = negsuc 0

-- n cells of values, 0 behind the last
abbrev pub padded : ℕ → List Value → List ℤ
padded zero vs = []
padded (suc n) [] = pos 0 ∷ padded n []
padded (suc n) (v ∷ vs) = value_cell v ∷ padded n vs

-- the bits of the first f64, 0 if there is none; a NaN's are 0x7ff8000000000000
abbrev pub exact_cell : List Float → ℤ
exact_cell [] = pos 0
exact_cell (x ∷ xs) = cell (pos (to_bits binary64 x))

abbrev pub cells_of : Line → List ℤ
cells_of l = pos (code_of l.word) ∷ padded 8 l.values ++ exact_cell l.exact ∷ []

-- the number of an answer's refusal, 0 for none
abbrev pub refusal_of : {A : Type 0} → Result A Refusal → ℕ
refusal_of (Ok a) = 0
refusal_of (Err e) = number_of e

-- an answer's line by the line of what is no refusal
abbrev pub answer_line : {A : Type 0} → (A → Line) → Result A Refusal → Line
answer_line f (Ok a) = f a
answer_line f (Err e) = refused_line e

-- a report with the count of its words in their place: they are the first of the lent list
abbrev pub count_line : Result (Option ℕ) Refusal → Line
count_line (Ok None) = said none []
count_line (Ok (Some words)) = said report (plain words ∷ [])
count_line (Err e) = refused_line e

abbrev pub loss_cells : Result (Option ℕ) Refusal → List ℤ
loss_cells a = cells_of (count_line a)

-- a payload that is there with its place in the payload area: where it begins, and its length
abbrev pub place_line : Result Bool Refusal → ℕ → ℕ → Line
place_line (Ok true) at len = said received (plain at ∷ plain len ∷ [])
place_line (Ok false) at len = said other []
place_line (Err e) at len = refused_line e

abbrev pub shown_cells : Result Bool Refusal → ℕ → ℕ → List ℤ
shown_cells a at len = cells_of (place_line a at len)

-- the line of a part that is there, or of none
abbrev pub part_line : Option Part → Line
part_line (Some p) = place_line (Ok true) p.at p.len
part_line None = place_line (Ok false) 0 0

-- making answers a head, or its refusal
abbrev pub making_line : Result Head Refusal → Line
making_line (Ok h) = said made []
making_line (Err e) = refused_line e

abbrev pub made_cells : Result Head Refusal → List ℤ
made_cells a = cells_of (making_line a)
