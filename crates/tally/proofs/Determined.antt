-- Any two results that the promises of the tally allow coincide: 01, "Each proof's duty". Its line is a `Wrote` (shapes, `wrote-determined`). Assumes nothing.
use mathlib.Core.Path.{◌≡◌, sym, ◌∙◌}
use mathlib.Core.Bool.{Bool}
use Prim.Native.Nat.{ℕ}
use Rattle.std.specs.Prelude.{Option}
use Rattle.counts.specs.declared.Counters.{Counters}
use Rattle.step.specs.declared.Answer.{Answer}
use Rattle.tally.specs.Tally.{fresh_tally, tallied}

pub fresh-determined : (asked : Bool) (r s : Option Counters) → r ≡ fresh_tally asked → s ≡ fresh_tally asked → r ≡ s
fresh-determined asked r s p q = p ∙ sym q

pub after-determined : (t : Option Counters) (size : ℕ) (a : Answer) (r s : Option Counters) → r ≡ tallied t size a → s ≡ tallied t size a → r ≡ s
after-determined t size a r s p q = p ∙ sym q
