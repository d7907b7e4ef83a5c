-- The cells of some answers, computed from the definitions. Assumes nothing.
use mathlib.Core.Path.{◌≡◌, refl}
use mathlib.Core.Bool.{true, false}
use mathlib.Core.List.{[], ◌∷◌}
use Prim.Native.Nat.{◌^◌, ◌-◌}
use lib.IntN.{pos, negsuc}
use lib.Ieee as ieee
use Rattle.std.specs.Prelude.{Some, None, Ok, Err}
use Rattle.numbers.specs.Circular.{signed, wrap}
use Rattle.window_pop.specs.declared.pop.PopAnswer.TheVariants as messages
use Rattle.head.specs.declared.refusal.Refusal.TheVariants as refusals
use Rattle.head.specs.declared.state.Head.{Head}
use Rattle.receiver.specs.Paper.{data_line, message_line}
use Rattle.receiver.specs.declared.data.DataAnswer.TheVariants as datas
use Rattle.feedback.specs.Paper.{full_ack_line, clock_line}
use Rattle.feedback.specs.declared.acking.FullAck.{FullAck}
use Rattle.clock.specs.declared.time.Synchronized.TheVariants as clocks
use Rattle.cells.specs.Cells.{cell, cells_of, loss_cells, shown_cells, made_cells}

-- got 2147483647 1
got-cells : cells_of (data_line (Ok (datas.Got 2147483647 true))) ≡ pos 0 ∷ pos 2147483647 ∷ pos 1 ∷ pos 0 ∷ pos 0 ∷ pos 0 ∷ pos 0 ∷ pos 0 ∷ pos 0 ∷ pos 0 ∷ []
unfolding cell signed wrap
got-cells = refl

-- refused 8 2 3
early-cells : cells_of (data_line (Err (refusals.PacketTooEarly 2 3))) ≡ pos 3 ∷ pos 2 ∷ pos 3 ∷ pos 0 ∷ pos 0 ∷ pos 0 ∷ pos 0 ∷ pos 0 ∷ pos 0 ∷ pos 0 ∷ []
unfolding cell signed wrap
early-cells = refl

-- late 0 2 -150
late-cells : cells_of (message_line (Ok (messages.Late 0 2 (negsuc 149)))) ≡ pos 5 ∷ pos 0 ∷ pos 2 ∷ negsuc 149 ∷ pos 0 ∷ pos 0 ∷ pos 0 ∷ pos 0 ∷ pos 0 ∷ pos 0 ∷ []
unfolding cell signed wrap
late-cells = refl

-- ack 1 3 10000 1000 5 7 8 -
abbrev ack : FullAck
ack = record {
  number = 1;
  lrsn = 3;
  mean = 10000;
  variance = 1000;
  room = 5;
  packet_receive_rate = Some 7;
  estimated_link_capacity = Some 8;
  data_receive_rate = None;
}

ack-cells : cells_of (full_ack_line (Ok (Some ack))) ≡ pos 7 ∷ pos 1 ∷ pos 3 ∷ pos 10000 ∷ pos 1000 ∷ pos 5 ∷ pos 7 ∷ pos 8 ∷ negsuc 0 ∷ pos 0 ∷ []
unfolding cell signed wrap
ack-cells = refl

-- a report of two words; a payload of 10 bytes at 1456; a head made, and refused
report-cells : loss_cells (Ok (Some 2)) ≡ pos 6 ∷ pos 2 ∷ pos 0 ∷ pos 0 ∷ pos 0 ∷ pos 0 ∷ pos 0 ∷ pos 0 ∷ pos 0 ∷ pos 0 ∷ []
unfolding cell signed wrap
report-cells = refl

place-cells : shown_cells (Ok true) 1456 10 ≡ pos 16 ∷ pos 1456 ∷ pos 10 ∷ pos 0 ∷ pos 0 ∷ pos 0 ∷ pos 0 ∷ pos 0 ∷ pos 0 ∷ pos 0 ∷ []
unfolding cell signed wrap
place-cells = refl

made-cells : (h : Head) → made_cells (Ok h) ≡ pos 14 ∷ pos 0 ∷ pos 0 ∷ pos 0 ∷ pos 0 ∷ pos 0 ∷ pos 0 ∷ pos 0 ∷ pos 0 ∷ pos 0 ∷ []
made-cells h = refl

unmade-cells : made_cells (Err refusals.BadSetting) ≡ pos 3 ∷ pos 0 ∷ pos 0 ∷ pos 0 ∷ pos 0 ∷ pos 0 ∷ pos 0 ∷ pos 0 ∷ pos 0 ∷ pos 0 ∷ []
unmade-cells = refl

-- unsteady: 1.0 is 0x3ff0000000000000, -1.0 is 0xbff0000000000000, which is past an i64's end, and NaN 0x7ff8000000000000
one-cells : cells_of (clock_line (Ok (clocks.Unsteady 6000 (ieee.fin false 1 (pos 0))))) ≡ pos 11 ∷ pos 6000 ∷ pos 0 ∷ pos 0 ∷ pos 0 ∷ pos 0 ∷ pos 0 ∷ pos 0 ∷ pos 0 ∷ pos 4607182418800017408 ∷ []
unfolding cell signed wrap ieee.to_bits
one-cells = refl

negative-cells : cells_of (clock_line (Ok (clocks.Unsteady 0 (ieee.fin true 1 (pos 0))))) ≡ pos 11 ∷ pos 0 ∷ pos 0 ∷ pos 0 ∷ pos 0 ∷ pos 0 ∷ pos 0 ∷ pos 0 ∷ pos 0 ∷ negsuc 4616189618054758399 ∷ []
unfolding cell signed wrap ieee.to_bits
negative-cells = refl

nan_cells : cells_of (clock_line (Ok (clocks.Unsteady 0 ieee.nan))) ≡ pos 11 ∷ pos 0 ∷ pos 0 ∷ pos 0 ∷ pos 0 ∷ pos 0 ∷ pos 0 ∷ pos 0 ∷ pos 0 ∷ pos 9221120237041090560 ∷ []
unfolding cell signed wrap ieee.to_bits
nan_cells = refl

-- past an i64's end
last-cell : cell (pos (2 ^ 64 - 1)) ≡ negsuc 0
unfolding cell signed wrap
last-cell = refl
