-- A file that the theorems speak of: its header is accepted, and its one record, a pop at 0, is sound and no clear.
-- Assumes nothing.
use mathlib.Core.Path.{refl}
use mathlib.Core.Bool.{true}
use mathlib.Core.List.{List, [], ◌∷◌}
use Prim.Native.Nat.{ℕ}
use lib.IntN.{pos}
use Rattle.numbers.specs.Circular.{signed}
use Rattle.dlt.specs.Bytes.{big, big_from, field, time_at}
use Rattle.dlt.specs.Header.{is_header, header_of}
use Rattle.dlt.specs.Record.{least_size, data_of, fields_of, record_of}
use Rattle.head.specs.Head.{made_of}
use Rattle.thm_replay.specs.Replay.{Accepted, rest_after, SoundTo, NoClearTo}

-- DLT, version 1, start 0, latency 0, late-drop 1, first 0, capacity 4; then kind 2 and eight bytes of reading
abbrev file : List ℕ
file =
    68 ∷ 76 ∷ 84 ∷ 0 ∷ 1 ∷ 0 ∷ 0 ∷ 0 ∷ 0 ∷ 0 ∷ 0 ∷ 0 ∷ 0 ∷ 0 ∷ 0 ∷ 0 ∷ 0 ∷ 1 ∷ 0 ∷ 0 ∷ 0 ∷ 0 ∷ 0 ∷ 4 ∷ 2 ∷ 0 ∷ 0 ∷ 0 ∷ 0 ∷ 0 ∷ 0 ∷ 0 ∷ 0 ∷ []

pub accepted : Accepted file
unfolding header_of is_header field big big_from time_at signed made_of
accepted = record { start = pos 0; latency = 0; dropping = true; first = 0; capacity = 4; header = refl; taken = refl }

pub sound : SoundTo file 1 × NoClearTo file 1
unfolding rest_after record_of least_size fields_of data_of field big big_from time_at signed
sound = ((refl, tt), (refl, tt))
