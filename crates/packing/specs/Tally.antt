-- The ten counters as ten words, in their order: 01, "Counters follow 003". Any words are counters.
use Rattle.std.specs.Prelude.{List, [], ◌∷◌, ℕ, get_or}
use Rattle.counts.specs.declared.Counters.{Counters}

abbrev pub counters_words : Counters → List ℕ
counters_words c =
    c.rx_data
    ∷ c.rx_bytes
    ∷ c.rx_unique_data
    ∷ c.rx_unique_bytes
    ∷ c.rx_retransmit_data
    ∷ c.rx_dropped_data
    ∷ c.rx_dropped_bytes
    ∷ c.rx_ack2
    ∷ c.rx_ack2_errors
    ∷ c.rx_clock_adjustments
    ∷ []

abbrev pub counters_of : List ℕ → Counters
counters_of ws =
    record {
      rx_data = get_or ws 0 0;
      rx_bytes = get_or ws 1 0;
      rx_unique_data = get_or ws 2 0;
      rx_unique_bytes = get_or ws 3 0;
      rx_retransmit_data = get_or ws 4 0;
      rx_dropped_data = get_or ws 5 0;
      rx_dropped_bytes = get_or ws 6 0;
      rx_ack2 = get_or ws 7 0;
      rx_ack2_errors = get_or ws 8 0;
      rx_clock_adjustments = get_or ws 9 0;
    }
