-- What the answers of a replay count together, and the line that is written of it behind the end line if it is asked for: `counters`, then the ten
-- of 003 by name. 01, "Counters follow 003".
use Rattle.std.specs.Prelude.{Bool, cond, Option, Some, None, List, [], ◌++◌, ℕ}
use Rattle.text.specs.Bytes.{bytes}
use Rattle.text.specs.Decimal.{decimal}
use Rattle.counts.specs.Counts.{fresh, data_counts, ack2_counts, drop_counts, clock_counts}
use Rattle.counts.specs.declared.Counters.{Counters}
use Rattle.step.specs.declared.Answer.{Answer}
use Rattle.step.specs.declared.Answer.TheVariants as answers

-- what an answer raises; size is the length of a data packet's payload
abbrev pub counted_of : Counters → ℕ → Answer → Counters
counted_of c size (answers.Data a) = data_counts c size a
counted_of c size (answers.Pop a) = c
counted_of c size (answers.Report a) = c
counted_of c size (answers.FullAck a) = c
counted_of c size (answers.Ack2 a) = ack2_counts c a
counted_of c size (answers.Drop a) = drop_counts c a
counted_of c size (answers.Clock a) = clock_counts c a
counted_of c size (answers.Clear a) = c

-- the counters, if they are asked for
abbrev pub fresh_tally : Bool → Option Counters
fresh_tally asked = cond asked (Some fresh) None

unfoldable pub tallied : Option Counters → ℕ → Answer → Option Counters
tallied None size a = None
tallied (Some c) size a = Some (counted_of c size a)

-- a space, a name, `=` and its count
unfoldable pub named : List ℕ → ℕ → List ℕ
named name n = (bytes " " ++ name) ++ (bytes "=" ++ decimal n)

unfoldable pub packet_bytes : Counters → List ℕ
packet_bytes c = named (bytes "rx_data") c.rx_data ++ named (bytes "rx_bytes") c.rx_bytes ++ named (bytes "rx_unique_data") c.rx_unique_data ++ named (bytes "rx_unique_bytes") c.rx_unique_bytes

unfoldable pub loss_bytes : Counters → List ℕ
loss_bytes c = named (bytes "rx_retransmit_data") c.rx_retransmit_data ++ named (bytes "rx_dropped_data") c.rx_dropped_data ++ named (bytes "rx_dropped_bytes") c.rx_dropped_bytes

unfoldable pub other_bytes : Counters → List ℕ
other_bytes c = named (bytes "rx_ack2") c.rx_ack2 ++ named (bytes "rx_ack2_errors") c.rx_ack2_errors ++ named (bytes "rx_clock_adjustments") c.rx_clock_adjustments

unfoldable pub all_bytes : Counters → List ℕ
all_bytes c = packet_bytes c ++ loss_bytes c ++ other_bytes c

-- the whole line: `counters`, the ten, and the line's end
unfoldable pub counters_bytes : Counters → List ℕ
counters_bytes c = bytes "counters" ++ all_bytes c ++ bytes "\n"

-- only if they are asked for
unfoldable pub tally_bytes : Option Counters → List ℕ
tally_bytes None = []
tally_bytes (Some c) = counters_bytes c
