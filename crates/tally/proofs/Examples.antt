-- A whole line of counters, computed from the definitions. Assumes nothing.
use mathlib.Core.Path.{◌≡◌, refl}
use mathlib.Core.List.{[]}
use Rattle.std.specs.Prelude.{Some, None}
use Rattle.text.specs.Bytes.{bytes}
use Rattle.text.specs.Decimal as decimals
use Rattle.counts.specs.Counts.{counts}
use Rattle.tally.specs.Tally.{named, packet_bytes, loss_bytes, other_bytes, all_bytes, counters_bytes, tally_bytes}

ten : tally_bytes (Some (counts 1 20 3 40 5 6 70 8 9 18446744073709551615)) ≡ bytes "counters rx_data=1 rx_bytes=20 rx_unique_data=3 rx_unique_bytes=40 rx_retransmit_data=5 rx_dropped_data=6 rx_dropped_bytes=70 rx_ack2=8 rx_ack2_errors=9 rx_clock_adjustments=18446744073709551615\n"
unfolding tally_bytes counters_bytes all_bytes packet_bytes loss_bytes other_bytes named decimals.decimal decimals.digits
ten = refl

-- not asked for: no line
none : tally_bytes None ≡ []
unfolding tally_bytes
none = refl
