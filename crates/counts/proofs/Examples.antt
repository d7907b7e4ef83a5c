-- A6, A66 and A67 of DECISIONS.md computed from the definitions, counters that wrap, and the refusals that count nothing. Assumes nothing.
use Rattle.std.proofs.Common.{◌≡◌, ℕ, ◌-◌, ◌^◌, ◌<◌, true, false, leb, pos, refl, arith, ne_eqb}
use borrow.Author.Tests.{lt-leb}
use Rattle.numbers.proofs.Flags.{and-false}
use Rattle.numbers.specs.Circular.{sum}
use Rattle.std.specs.Prelude.{Some, None, Ok, Err}
use Rattle.clock.specs.declared.time.Synchronized.TheVariants as clocks
use Rattle.head.specs.declared.refusal.Refusal.{Refusal}
use Rattle.head.specs.declared.refusal.Refusal.TheVariants as refusals
use Rattle.receiver.specs.declared.data.DataAnswer.TheVariants as datas
use Rattle.counts.specs.Counts.{counts, fresh, raised, data_counts, data_counts_by, ack2_counts, drop_counts, clock_counts}
use Rattle.counts.specs.declared.Counters.{Counters}

-- A67: got, 10 and 7, of 4 bytes each
three-packets : data_counts (data_counts (data_counts fresh 4 (Ok (datas.Got 1 false))) 4 (Err refusals.DiscardedDuplicate)) 4 (Err refusals.BufferFull) ≡ counts 3 60 1 20 0 1 20 0 0 0
unfolding sum raised
three-packets = refl

-- a loss, a recovery, 8, and a request that gives up two
losses : drop_counts {R = Refusal} (data_counts (data_counts (data_counts fresh 6 (Ok (datas.Loss 10 11))) 3 (Ok (datas.Light 11 true))) 0 (Err (refusals.PacketTooEarly 1 2))) (Ok 2) ≡ counts 3 57 1 22 1 3 16 0 0 0
unfolding sum raised
losses = refl

-- A66 and A6: not held, refused 4, found
acks : ack2_counts {R = Refusal} (ack2_counts {R = Refusal} (ack2_counts {R = Refusal} fresh (Ok None)) (Err refusals.ClockBack)) (Ok (Some (record { mean = 8750; variance = 2937 }))) ≡ counts 0 0 0 0 0 0 0 2 1 0
unfolding sum raised
acks = refl

adjustments : clock_counts {R = Refusal} (clock_counts {R = Refusal} (clock_counts {R = Refusal} fresh (Ok clocks.Nothing)) (Err refusals.DriftRange)) (Ok (clocks.Adjusted (pos 1) 31)) ≡ counts 0 0 0 0 0 0 0 0 0 1
unfolding sum raised
adjustments = refl

-- 2^64 - 1 and one more is 0
wraps : data_counts (counts (2 ^ 64 - 1) (2 ^ 64 - 1) 0 0 0 0 0 0 0 0) 4 (Err refusals.DiscardedDuplicate) ≡ counts 0 19 0 0 0 0 0 0 0 0
unfolding sum raised
wraps = refl

-- a number by itself, which need be no refusal's: 9, 10, then 0 and 16, which raise nothing
by-number : data_counts_by {R = ℕ} (λ n. n) (data_counts_by {R = ℕ} (λ n. n) (data_counts_by {R = ℕ} (λ n. n) (data_counts_by {R = ℕ} (λ n. n) fresh 4 (Err 9)) 4 (Err 10)) 4 (Err 0)) 4 (Err 16) ≡ counts 2 40 0 0 0 1 20 0 0 0
unfolding sum raised
by-number = refl

-- a data packet refused by 1 to 6, or by a number past 10, raises nothing, whatever tells the number
module _ {R : Type 0} (number : R → ℕ) where
  pub low-refusals : (c : Counters) (size : ℕ) (e : R) → number e < 7 → data_counts_by number c size (Err e) ≡ c
  low-refusals c size e p = let n = number e in rw (lt-leb 7 n p, ne_eqb n 10 (λ q. omega (arith, q, p)))

  pub high-refusals : (c : Counters) (size : ℕ) (e : R) → 10 < number e → data_counts_by number c size (Err e) ≡ c
  high-refusals c size e p =
      let n = number e in
      rw (and-false (leb 7 n) (lt-leb n 9 (omega (arith, p))), ne_eqb n 10 (λ q. omega (arith, q, p)))
