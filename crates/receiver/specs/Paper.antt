-- What 01 writes for the answer to a packet and to a pop.
use Rattle.std.specs.Prelude.{[], ◌∷◌, Result, Ok, Err}
use Rattle.head.specs.Paper.{got, light, loss, message, late, none, whole, plain, Line, said, refused_line, flag}
use Rattle.head.specs.declared.refusal.Refusal.{Refusal}
use Rattle.receiver.specs.declared.data.DataAnswer.{DataAnswer}
use Rattle.receiver.specs.declared.data.DataAnswer.TheVariants as datas
use Rattle.window_pop.specs.declared.pop.PopAnswer.{PopAnswer}
use Rattle.window_pop.specs.declared.pop.PopAnswer.TheVariants as messages

abbrev pub data_line : Result DataAnswer Refusal → Line
data_line (Ok (datas.Got lrsn recovered)) = said got (plain lrsn ∷ flag recovered ∷ [])
data_line (Ok (datas.Light lrsn recovered)) = said light (plain lrsn ∷ flag recovered ∷ [])
data_line (Ok (datas.Loss first last)) = said loss (plain first ∷ plain last ∷ [])
data_line (Err e) = refused_line e

abbrev pub message_line : Result PopAnswer Refusal → Line
message_line (Ok messages.Nothing) = said none []
message_line (Ok (messages.Message time bytes packets)) = said message (whole time ∷ plain bytes ∷ plain packets ∷ [])
message_line (Ok (messages.Late first end delay)) = said late (plain first ∷ plain end ∷ whole delay ∷ [])
message_line (Err e) = refused_line e
