-- Any two results that the promises of the functions that count allow coincide: 01, "Each proof's duty". Assumes nothing.
use Rattle.std.proofs.Common.{◌≡◌, ℕ, sym, ◌∙◌}
use Rattle.std.specs.Prelude.{Option, Result}
use Rattle.acks.specs.declared.rtt.Rtt.{Rtt}
use Rattle.clock.specs.declared.time.Synchronized.{Synchronized}
use Rattle.receiver.specs.declared.data.DataAnswer.{DataAnswer}
use Rattle.counts.specs.Counts.{fresh, raised, data_counts_by, ack2_counts, drop_counts, clock_counts}
use Rattle.counts.specs.declared.Counters.{Counters}

pub fresh-determined : (r s : Counters) → r ≡ fresh → s ≡ fresh → r ≡ s
fresh-determined r s p q = p ∙ sym q

module _ (c r s : Counters) where
  pub raised-determined : (by : Counters) → r ≡ raised c by → s ≡ raised c by → r ≡ s
  raised-determined by p q = p ∙ sym q

  -- from an answer, by whatever tells a refusal
  module _ {R : Type 0} where
    pub after-data-determined : (number : R → ℕ) (size : ℕ) (a : Result DataAnswer R) → r ≡ data_counts_by number c size a → s ≡ data_counts_by number c size a → r ≡ s
    after-data-determined number size a p q = p ∙ sym q

    pub after-ack2-determined : (a : Result (Option Rtt) R) → r ≡ ack2_counts c a → s ≡ ack2_counts c a → r ≡ s
    after-ack2-determined a p q = p ∙ sym q

    pub after-drop-determined : (a : Result ℕ R) → r ≡ drop_counts c a → s ≡ drop_counts c a → r ≡ s
    after-drop-determined a p q = p ∙ sym q

    pub after-clock-determined : (a : Result Synchronized R) → r ≡ clock_counts c a → s ≡ clock_counts c a → r ≡ s
    after-clock-determined a p q = p ∙ sym q
