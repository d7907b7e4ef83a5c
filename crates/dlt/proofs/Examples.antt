-- Worked examples, computed from the definitions: 01's own header and its pop, and the bytes of A68 and A69. Assumes nothing.
use mathlib.Core.Path.{◌≡◌, refl}
use mathlib.Core.Bool.{true}
use mathlib.Core.List.{[], ◌∷◌}
use lib.IntN.{pos, negsuc}
use Rattle.numbers.specs.Circular as circular
use Rattle.dlt.specs.Bytes.{big_from, big, field, time_at}
use Rattle.dlt.specs.Header.{is_header, header_of}
use Rattle.dlt.specs.Record.{least_size, data_of, fields_of, record_of}
use Rattle.std.specs.Prelude.{Ok, Err}
use Rattle.dlt.specs.declared.Unread.TheVariants.{Short, Bad}
use Rattle.dlt.specs.declared.record.Record.TheVariants.{Pop}

-- start 0, latency 0, dropping on, first 2147483646, capacity 4
whole-header : header_of (68 ∷ 76 ∷ 84 ∷ 0 ∷ 1 ∷ 0 ∷ 0 ∷ 0 ∷ 0 ∷ 0 ∷ 0 ∷ 0 ∷ 0 ∷ 0 ∷ 0 ∷ 0 ∷ 0 ∷ 1 ∷ 127 ∷ 255 ∷ 255 ∷ 254 ∷ 0 ∷ 4 ∷ []) ≡ Ok (record { start = pos 0; latency = 0; dropping = true; first = 2147483646; capacity = 4 })
unfolding header_of is_header time_at field big big_from circular.signed
whole-header = refl

-- a pop at 4000, with a byte more behind it
pop-at : record_of (2 ∷ 0 ∷ 0 ∷ 0 ∷ 0 ∷ 0 ∷ 0 ∷ 15 ∷ 160 ∷ 8 ∷ []) ≡ Ok (Pop (pos 4000))
unfolding record_of fields_of least_size time_at field big big_from circular.signed
pop-at = refl

-- a reading of 2^64 - 1 is below zero
pop-below : record_of (2 ∷ 255 ∷ 255 ∷ 255 ∷ 255 ∷ 255 ∷ 255 ∷ 255 ∷ 255 ∷ []) ≡ Ok (Pop (negsuc 0))
unfolding record_of fields_of least_size time_at field big big_from circular.signed
pop-below = refl

-- A68: a pop without its reading is cut
pop-cut : record_of (2 ∷ []) ≡ Err Short
unfolding record_of least_size
pop-cut = refl

-- A69: a data record of length 1,457 is bad, though none of its payload is there
data-long : record_of (1 ∷ 16 ∷ 0 ∷ 0 ∷ 0 ∷ 0 ∷ 0 ∷ 0 ∷ 0 ∷ 0 ∷ 0 ∷ 0 ∷ 0 ∷ 0 ∷ 0 ∷ 0 ∷ 0 ∷ 3 ∷ 0 ∷ 0 ∷ 0 ∷ 0 ∷ 5 ∷ 177 ∷ []) ≡ Err Bad
unfolding record_of fields_of least_size data_of field big big_from
data-long = refl
