-- What the code does at each return that counts, as laws over plain values: a rise is made from a smaller one, and an answer's counters by its case. Assumes nothing.
use Rattle.std.proofs.Common.{◌≡◌, ℕ, ◌+◌, ◌%◌, ◌^◌, Bool, true, false, ◌∙◌, rules}
use Rattle.numbers.specs.Circular.{sum}
use Rattle.counts.specs.Counts.{counts, fresh, unique, again, dropped, duplicate, gone, unknown, found, adjusted, raised, wire, got_counts}
use Rattle.counts.specs.declared.Counters.{Counters}

-- sum, wire
pub summed : (a b : ℕ) {n : ℕ} → n ≡ (a + b) % 2 ^ 64 → n ≡ sum 64 a b
unfolding sum
summed a b e = e

-- the rises
pub duplicate-made : (b : ℕ) {n : Counters} → n ≡ fresh
    → counts 1 b n.rx_unique_data n.rx_unique_bytes n.rx_retransmit_data n.rx_dropped_data n.rx_dropped_bytes n.rx_ack2 n.rx_ack2_errors n.rx_clock_adjustments ≡ duplicate b
duplicate-made b e = rw e

pub unique-made : (b : ℕ) {n : Counters} → n ≡ duplicate b
    → counts n.rx_data n.rx_bytes 1 b n.rx_retransmit_data n.rx_dropped_data n.rx_dropped_bytes n.rx_ack2 n.rx_ack2_errors n.rx_clock_adjustments ≡ unique b
unique-made b e = rw e

pub again-made : (b : ℕ) {n : Counters} → n ≡ duplicate b
    → counts n.rx_data n.rx_bytes n.rx_unique_data n.rx_unique_bytes 1 n.rx_dropped_data n.rx_dropped_bytes n.rx_ack2 n.rx_ack2_errors n.rx_clock_adjustments ≡ again b
again-made b e = rw e

pub dropped-made : (b : ℕ) {n : Counters} → n ≡ duplicate b
    → counts n.rx_data n.rx_bytes n.rx_unique_data n.rx_unique_bytes n.rx_retransmit_data 1 b n.rx_ack2 n.rx_ack2_errors n.rx_clock_adjustments ≡ dropped b
dropped-made b e = rw e

pub gone-made : (k : ℕ) {n : Counters} → n ≡ fresh
    → counts n.rx_data n.rx_bytes n.rx_unique_data n.rx_unique_bytes n.rx_retransmit_data k n.rx_dropped_bytes n.rx_ack2 n.rx_ack2_errors n.rx_clock_adjustments ≡ gone k
gone-made k e = rw e

pub unknown-made : {n : Counters} → n ≡ fresh
    → counts n.rx_data n.rx_bytes n.rx_unique_data n.rx_unique_bytes n.rx_retransmit_data n.rx_dropped_data n.rx_dropped_bytes 1 n.rx_ack2_errors n.rx_clock_adjustments ≡ unknown
unknown-made e = rw e

pub found-made : {n : Counters} → n ≡ unknown
    → counts n.rx_data n.rx_bytes n.rx_unique_data n.rx_unique_bytes n.rx_retransmit_data n.rx_dropped_data n.rx_dropped_bytes n.rx_ack2 1 n.rx_clock_adjustments ≡ found
found-made e = rw e

pub adjusted-made : {n : Counters} → n ≡ fresh
    → counts n.rx_data n.rx_bytes n.rx_unique_data n.rx_unique_bytes n.rx_retransmit_data n.rx_dropped_data n.rx_dropped_bytes n.rx_ack2 n.rx_ack2_errors 1 ≡ adjusted
adjusted-made e = rw e

pub raised-made : (c r : Counters) {x₀ x₁ x₂ x₃ x₄ x₅ x₆ x₇ x₈ x₉ : ℕ}
    → x₀ ≡ sum 64 c.rx_data r.rx_data
    → x₁ ≡ sum 64 c.rx_bytes r.rx_bytes
    → x₂ ≡ sum 64 c.rx_unique_data r.rx_unique_data
    → x₃ ≡ sum 64 c.rx_unique_bytes r.rx_unique_bytes
    → x₄ ≡ sum 64 c.rx_retransmit_data r.rx_retransmit_data
    → x₅ ≡ sum 64 c.rx_dropped_data r.rx_dropped_data
    → x₆ ≡ sum 64 c.rx_dropped_bytes r.rx_dropped_bytes
    → x₇ ≡ sum 64 c.rx_ack2 r.rx_ack2
    → x₈ ≡ sum 64 c.rx_ack2_errors r.rx_ack2_errors
    → x₉ ≡ sum 64 c.rx_clock_adjustments r.rx_clock_adjustments
    → counts x₀ x₁ x₂ x₃ x₄ x₅ x₆ x₇ x₈ x₉ ≡ raised c r
unfolding raised
raised-made c r e₀ e₁ e₂ e₃ e₄ e₅ e₆ e₇ e₈ e₉ = rw (e₀, e₁, e₂, e₃, e₄, e₅, e₆, e₇, e₈, e₉)

-- after_got
module _ (c : Counters) (size : ℕ) {w : ℕ} {g r : Counters} (e : w ≡ wire size) where
  pub got-again : {recovered : Bool} → recovered ≡ true → g ≡ again w → r ≡ raised c g → r ≡ got_counts c size recovered
  got-again t f p = p ∙ rw (t, f, e)

  pub got-unique : {recovered : Bool} → recovered ≡ false → g ≡ unique w → r ≡ raised c g → r ≡ got_counts c size recovered
  got-unique t f p = p ∙ rw (t, f, e)

pub ruleset rises = (summed, duplicate-made, unique-made, again-made, dropped-made, gone-made, unknown-made, found-made, adjusted-made, raised-made, got-again, got-unique, rules)
