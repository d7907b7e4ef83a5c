-- 01's worked example and lines of the readings, computed from the definitions. Assumes nothing.
use mathlib.Core.Path.{◌≡◌, refl}
use mathlib.Core.Bool.{true, false}
use mathlib.Core.List.{[], ◌∷◌}
use lib.IntN.{pos, negsuc}
use Rattle.text.specs.Bytes.{bytes}
use Rattle.text.specs.Decimal as decimals
use Rattle.std.specs.Prelude.{Some, None, Ok, Err}
use Rattle.head.specs.declared.refusal.Refusal.TheVariants.{DiscardedDuplicate, PacketTooEarly}
use Rattle.receiver.specs.Paper.{data_line, message_line}
use Rattle.feedback.specs.Paper.{loss_line, full_ack_line}
use Rattle.receiver.specs.declared.data.DataAnswer.TheVariants as datas
use Rattle.window_pop.specs.declared.pop.PopAnswer.TheVariants as messages
use Rattle.feedback.specs.declared.acking.FullAck.{FullAck}
use Rattle.shapes.specs.Shapes as shapes
use Rattle.lines.specs.Lines.{line_bytes, end_bytes, bad_bytes}

line1 : line_bytes 1 (data_line (Ok (datas.Got 2147483647 false))) ≡ bytes "1 got 2147483647 0\n"
unfolding end_bytes bad_bytes shapes.line_of shapes.closed shapes.spaced decimals.decimal decimals.digits decimals.signed_decimal
line1 = refl

line2 : line_bytes 2 (data_line (Ok (datas.Loss 2147483647 2147483647))) ≡ bytes "2 loss 2147483647 2147483647\n"
unfolding end_bytes bad_bytes shapes.line_of shapes.closed shapes.spaced decimals.decimal decimals.digits decimals.signed_decimal
line2 = refl

line3 : line_bytes 3 (data_line (Ok (datas.Got 1 true))) ≡ bytes "3 got 1 1\n"
unfolding end_bytes bad_bytes shapes.line_of shapes.closed shapes.spaced decimals.decimal decimals.digits decimals.signed_decimal
line3 = refl

line4 : line_bytes 4 (data_line (Err DiscardedDuplicate)) ≡ bytes "4 refused 10\n"
unfolding end_bytes bad_bytes shapes.line_of shapes.closed shapes.spaced decimals.decimal decimals.digits decimals.signed_decimal
line4 = refl

line5 : line_bytes 5 (message_line (Ok (messages.Message (pos 0) 10 1))) ≡ bytes "5 message 0 10 1\n"
unfolding end_bytes bad_bytes shapes.line_of shapes.closed shapes.spaced decimals.decimal decimals.digits decimals.signed_decimal
line5 = refl

line6 : end_bytes 5 1 2147483647 2 ≡ bytes "end 5 1 2147483647 2\n"
unfolding end_bytes bad_bytes shapes.line_of shapes.closed shapes.spaced decimals.decimal decimals.digits decimals.signed_decimal
line6 = refl

early : line_bytes 7 (data_line (Err (PacketTooEarly 2 3))) ≡ bytes "7 refused 8 2 3\n"
unfolding end_bytes bad_bytes shapes.line_of shapes.closed shapes.spaced decimals.decimal decimals.digits decimals.signed_decimal
early = refl

late_below : line_bytes 2 (message_line (Ok (messages.Late 0 2 (negsuc 149)))) ≡ bytes "2 late 0 2 -150\n"
unfolding end_bytes bad_bytes shapes.line_of shapes.closed shapes.spaced decimals.decimal decimals.digits decimals.signed_decimal
late_below = refl

report-run : line_bytes 2 (loss_line (Ok (Some 2)) (4294967295 ∷ 0 ∷ 9 ∷ [])) ≡ bytes "2 report 4294967295 0\n"
unfolding end_bytes bad_bytes shapes.line_of shapes.closed shapes.spaced decimals.decimal decimals.digits decimals.signed_decimal
report-run = refl

abbrev no-rate : FullAck
no-rate =
    record {
      number = 1;
      lrsn = 3;
      mean = 10000;
      variance = 1000;
      room = 5;
      packet_receive_rate = None;
      estimated_link_capacity = None;
      data_receive_rate = None;
    }

no-rates : line_bytes 6 (full_ack_line (Ok (Some no-rate))) ≡ bytes "6 ack 1 3 10000 1000 5 - - -\n"
unfolding end_bytes bad_bytes shapes.line_of shapes.closed shapes.spaced decimals.decimal decimals.digits decimals.signed_decimal
no-rates = refl

bad-header : bad_bytes 0 ≡ bytes "bad 0\n"
unfolding end_bytes bad_bytes shapes.line_of shapes.closed shapes.spaced decimals.decimal decimals.digits decimals.signed_decimal
bad-header = refl
