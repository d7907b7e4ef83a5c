-- What 01 writes for a loss report, a clock sample, an ACK and an ACK2.
use Rattle.std.specs.Prelude.{List, [], ◌∷◌, map, ℕ, take, Option, Some, None, Result, Ok, Err}
use Rattle.acks.specs.declared.rtt.Rtt.{Rtt}
use Rattle.clock.specs.declared.time.Synchronized.{Synchronized}
use Rattle.clock.specs.declared.time.Synchronized.TheVariants as clocks
use Rattle.head.specs.Paper.{report, ack, rtt, adjusted, unsteady, none, Value, whole, dash, plain, Line, said, refused_line}
use Rattle.head.specs.declared.refusal.Refusal.{Refusal}
use Rattle.feedback.specs.declared.acking.FullAck.{FullAck}

-- the report's words, which are the first of the lent list as the call leaves it
abbrev pub loss_line : Result (Option ℕ) Refusal → List ℕ → Line
loss_line (Ok None) list = said none []
loss_line (Ok (Some words)) list = said report (map plain (take words list))
loss_line (Err e) list = refused_line e

-- unsteady has v itself beside the deviation
abbrev pub clock_line : Result Synchronized Refusal → Line
clock_line (Ok clocks.Nothing) = said none []
clock_line (Ok (clocks.Adjusted mean deviation)) = said adjusted (whole mean ∷ plain deviation ∷ [])
clock_line (Ok (clocks.Unsteady deviation v)) = record { word = unsteady; refusal = 0; values = plain deviation ∷ []; exact = v ∷ [] }
clock_line (Err e) = refused_line e

-- `-` for no rate
abbrev pub rate_value : Option ℕ → Value
rate_value None = dash
rate_value (Some n) = plain n

-- packets, bytes, link
abbrev pub full_ack_line : Result (Option FullAck) Refusal → Line
full_ack_line (Ok None) = said none []
full_ack_line (Ok (Some a)) =
    said ack
    (plain a.number
    ∷ plain a.lrsn
    ∷ plain a.mean
    ∷ plain a.variance
    ∷ plain a.room
    ∷ rate_value a.packet_receive_rate
    ∷ rate_value a.estimated_link_capacity
    ∷ rate_value a.data_receive_rate
    ∷ [])
full_ack_line (Err e) = refused_line e

abbrev pub rtt_line : Result (Option Rtt) Refusal → Line
rtt_line (Ok None) = said none []
rtt_line (Ok (Some t)) = said rtt (plain t.mean ∷ plain t.variance ∷ [])
rtt_line (Err e) = refused_line e
