-- What 01 writes for the answer to a drop request, a clear, a question of room and the second question of show.
use Rattle.std.specs.Prelude.{Bool, true, false, [], ◌∷◌, ℕ, Result, Ok, Err}
use Rattle.head.specs.Paper.{gone, clear, room, received, other, plain, Line, said, refused_line}
use Rattle.head.specs.declared.refusal.Refusal.{Refusal}

abbrev pub drop_line : Result ℕ Refusal → Line
drop_line (Ok count) = said gone (plain count ∷ [])
drop_line (Err e) = refused_line e

abbrev pub clear_line : Result Unit Refusal → Line
clear_line (Ok _) = said clear []
clear_line (Err e) = refused_line e

abbrev pub room_line : Result ℕ Refusal → Line
room_line (Ok n) = said room (plain n ∷ [])
room_line (Err e) = refused_line e

-- whether it is received
abbrev pub shown_line : Result Bool Refusal → Line
shown_line (Ok true) = said received []
shown_line (Ok false) = said other []
shown_line (Err e) = refused_line e
