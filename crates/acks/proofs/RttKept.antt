-- The round trip's ranges are kept, by every r in 0..2^31-1. Assumes nothing.
use mathlib.Core.Path.{◌≡◌, refl}
use mathlib.Core.Bool.{true}
use Prim.Native.Nat.{ℕ, ◌<◌, ◌^◌}
use native.Mathlib.Omega.{arith}
use borrow.Author.Tests.{ltb-true, lt-ltb}
use lib.Dec.{ltb}
use Rattle.numbers.proofs.Flags.{and_left, and_right}
use Rattle.acks.specs.Rtt.{fresh_rtt, mean_with, variance_with, updated, rtt_ok}
use Rattle.acks.specs.declared.rtt.Rtt.{Rtt}

-- what a passed test gives
pub rtt-ranges : (t : Rtt) → rtt_ok t ≡ true → (t.mean < 2 ^ 31) × (t.variance < 2 ^ 31)
unfolding rtt_ok
rtt-ranges t e =
    (ltb-true t.mean (2 ^ 31) (and_left (ltb t.mean (2 ^ 31)) _ e), ltb-true t.variance (2 ^ 31) (and_right (ltb t.mean (2 ^ 31)) _ e))

pub fresh-rtt-ok : rtt_ok fresh_rtt ≡ true
unfolding rtt_ok fresh_rtt
fresh-rtt-ok = refl

pub updated-kept : (t : Rtt) (r : ℕ) → rtt_ok t ≡ true → r < 2 ^ 31 → rtt_ok (updated t r) ≡ true
unfolding rtt_ok updated
updated-kept t r e h =
    let g = rtt-ranges t e in
    let a : mean_with t r < 2 ^ 31 = omega (arith, g.0) in
    let b : variance_with t r < 2 ^ 31 = omega (arith, g.0, g.1) in
    rw (lt-ltb _ _ a, lt-ltb _ _ b)
