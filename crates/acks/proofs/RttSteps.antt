-- What the code of rtt.rt does at each return, as laws over plain values; the proof files hand them to `search`. Assumes nothing.
use mathlib.Core.Path.{◌≡◌, refl}
use mathlib.Core.Bool.{◌&&◌}
use Prim.Native.Nat.{ℕ, ◌+◌, ◌*◌, ◌/◌, ◌^◌}
use borrow.Author.Rules.{rules}
use lib.Dec.{ltb}
use Rattle.acks.specs.Rtt.{fresh_rtt, mean_with, apart, updated, rtt_ok}
use Rattle.acks.specs.declared.rtt.Rtt.{Rtt}

pub fresh : ◌≡◌ {A = Rtt} (record { mean = 10000; variance = 1000 }) fresh_rtt
unfolding fresh_rtt
fresh = refl

pub updates : (t : Rtt) (r : ℕ) {off : ℕ}
    → off ≡ apart (mean_with t r) r
    → ◌≡◌ {A = Rtt} (record { mean = mean_with t r; variance = (3 * t.variance + off) / 4 }) (updated t r)
unfolding updated
updates t r e = rw e

pub range-test : (t : Rtt) → (ltb t.mean (2 ^ 31) && ltb t.variance (2 ^ 31)) ≡ rtt_ok t
unfolding rtt_ok
range-test t = refl

pub ruleset rttSteps = (fresh, updates, range-test, rules)
