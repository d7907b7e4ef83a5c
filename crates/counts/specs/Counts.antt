-- The ten counters and what each answer raises, from the answer alone: 01, "Counters follow 003, mod 2^64, a packet's size payload + 16" and
-- "7 to 10 still count in the counters". A6, A65, A66 and A67 of DECISIONS.md settle which answer raises which.
use Rattle.std.specs.Prelude.{ℕ, Bool, cond, ◌&&◌, ◌==◌, nat_le, Option, Some, None, Result, Ok, Err}
use Rattle.numbers.specs.Circular.{sum}
use Rattle.acks.specs.declared.rtt.Rtt.{Rtt}
use Rattle.clock.specs.declared.time.Synchronized.{Synchronized}
use Rattle.clock.specs.declared.time.Synchronized.TheVariants as clocks
use Rattle.head.specs.Rules.{number_of}
use Rattle.head.specs.declared.refusal.Refusal.{Refusal}
use Rattle.receiver.specs.declared.data.DataAnswer.{DataAnswer}
use Rattle.receiver.specs.declared.data.DataAnswer.TheVariants as datas
use Rattle.counts.specs.declared.Counters.{Counters}

-- ten counts in the order of 003: data and bytes, unique data and bytes, retransmitted, dropped data and bytes, ACK2s, ACK2 errors, clock adjustments
abbrev pub counts : ℕ → ℕ → ℕ → ℕ → ℕ → ℕ → ℕ → ℕ → ℕ → ℕ → Counters
counts packets bytes unique uniqueBytes retransmitted dropped droppedBytes acks errors adjustments = record {
  rx_data = packets;
  rx_bytes = bytes;
  rx_unique_data = unique;
  rx_unique_bytes = uniqueBytes;
  rx_retransmit_data = retransmitted;
  rx_dropped_data = dropped;
  rx_dropped_bytes = droppedBytes;
  rx_ack2 = acks;
  rx_ack2_errors = errors;
  rx_clock_adjustments = adjustments;
}

abbrev pub fresh : Counters
fresh = counts 0 0 0 0 0 0 0 0 0 0

-- What an answer raises, a row each; b is the packet's size.
-- a packet that is new
abbrev pub unique : ℕ → Counters
unique b = counts 1 b 1 b 0 0 0 0 0 0

-- one that was lost and is recovered
abbrev pub again : ℕ → Counters
again b = counts 1 b 0 0 1 0 0 0 0 0

-- one refused by 7, 8 or 9
abbrev pub dropped : ℕ → Counters
dropped b = counts 1 b 0 0 0 1 b 0 0 0

-- one refused by 10
abbrev pub duplicate : ℕ → Counters
duplicate b = counts 1 b 0 0 0 0 0 0 0 0

-- n packets given up by a request
abbrev pub gone : ℕ → Counters
gone n = counts 0 0 0 0 0 n 0 0 0 0

-- an ACK2 that is not held, and one that is found, which 003 counts among the errors (A6)
abbrev pub unknown : Counters
unknown = counts 0 0 0 0 0 0 0 1 0 0

abbrev pub found : Counters
found = counts 0 0 0 0 0 0 0 1 1 0

-- an adjustment of the clock
abbrev pub adjusted : Counters
adjusted = counts 0 0 0 0 0 0 0 0 0 1

-- each counter rises by its own, mod 2^64
unfoldable pub raised : Counters → Counters → Counters
raised c r = counts
    (sum 64 c.rx_data r.rx_data) (sum 64 c.rx_bytes r.rx_bytes)
    (sum 64 c.rx_unique_data r.rx_unique_data) (sum 64 c.rx_unique_bytes r.rx_unique_bytes)
    (sum 64 c.rx_retransmit_data r.rx_retransmit_data)
    (sum 64 c.rx_dropped_data r.rx_dropped_data) (sum 64 c.rx_dropped_bytes r.rx_dropped_bytes)
    (sum 64 c.rx_ack2 r.rx_ack2) (sum 64 c.rx_ack2_errors r.rx_ack2_errors)
    (sum 64 c.rx_clock_adjustments r.rx_clock_adjustments)

-- a packet's size is payload + 16
abbrev pub wire : ℕ → ℕ
wire size = sum 64 size 16

-- a packet that the window took
abbrev pub got_counts : Counters → ℕ → Bool → Counters
got_counts c size recovered = raised c (cond recovered (again (wire size)) (unique (wire size)))

-- 7, 8 and 9 drop the packet, 10 is a duplicate, and no other refusal counts
abbrev pub refused_counts : Counters → ℕ → ℕ → Counters
refused_counts c size n =
    cond (nat_le 7 n && nat_le n 9) (raised c (dropped (wire size)))
    (cond (n == 10) (raised c (duplicate (wire size)))
    c)

-- a data packet with a payload of that size, whatever tells a refusal and its number; a loss is found by a unique packet
abbrev pub data_counts_by : {R : Type 0} → (R → ℕ) → Counters → ℕ → Result DataAnswer R → Counters
data_counts_by number c size (Ok (datas.Got lrsn recovered)) = got_counts c size recovered
data_counts_by number c size (Ok (datas.Light lrsn recovered)) = got_counts c size recovered
data_counts_by number c size (Ok (datas.Loss first last)) = raised c (unique (wire size))
data_counts_by number c size (Err e) = refused_counts c size (number e)

-- the same of an answer of the receiver's
abbrev pub data_counts : Counters → ℕ → Result DataAnswer Refusal → Counters
data_counts c size a = data_counts_by number_of c size a

-- an ACK2, whatever refused it: 003 raises the errors for a found one (A6)
abbrev pub ack2_counts : {R : Type 0} → Counters → Result (Option Rtt) R → Counters
ack2_counts c (Ok None) = raised c unknown
ack2_counts c (Ok (Some rtt)) = raised c found
ack2_counts c (Err e) = c

-- a drop request raises dropped data by its count, no bytes
abbrev pub drop_counts : {R : Type 0} → Counters → Result ℕ R → Counters
drop_counts c (Ok n) = raised c (gone n)
drop_counts c (Err e) = c

-- the first drift, a sample and unsteady raise nothing
abbrev pub clock_counts : {R : Type 0} → Counters → Result Synchronized R → Counters
clock_counts c (Ok clocks.Nothing) = c
clock_counts c (Ok (clocks.Adjusted mean deviation)) = raised c adjusted
clock_counts c (Ok (clocks.Unsteady deviation v)) = c
clock_counts c (Err e) = c
