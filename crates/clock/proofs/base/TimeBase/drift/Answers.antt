-- `TimeBase::drift` meets its contract. Assumes nothing.
use Rattle.std.proofs.Common.{ℕ, ap, ◌∙◌, to_z-of_z, w32, SFits}
use Rattle.numbers.specs.Circular.{difference}
use Rattle.clock.specs.Base.{drift_of}
use Rattle.clock.proofs.base.TimeBase.drift.Goals as goal

pub returns : goal.returns
unfolding drift_of
returns c =
    let f : SFits w32 c.difference.result = record { sfits = c.difference.type_inv } in
    let e = rw (to_z-of_z c.before.before.ranges.now) at c.before.timestamp_from.ensures in
    rw (to_z-of_z f) (c.difference.ensures ∙ ap (λ (x : ℕ). difference 32 x c.before.before.args.ts) e)
