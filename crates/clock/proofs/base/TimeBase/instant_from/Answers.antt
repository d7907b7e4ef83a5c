-- `TimeBase::instant_from` meets its contract. Assumes nothing.
use Rattle.std.proofs.Common.{ℤ, ◌+ℤ◌, ap, arith, to_z-of_z, w32, w64, SFits, rules}
use mir.Facts.{sfits_widen}
use Rattle.numbers.proofs.Halves.{size-+, fits-size, size_fits}
use Rattle.clock.specs.Base.{instant_of}
use Rattle.clock.proofs.base.TimeBase.instant_from.Goals.{After-difference}
use Rattle.clock.proofs.base.TimeBase.instant_from.Goals as goal

-- the difference and the sum fit
module _ (c : After-difference) where
  abbrev t : ℤ
  t = c.before.args.self.time

  narrow : SFits w32 c.difference.result
  narrow = record { sfits = c.difference.type_inv }

  wide : SFits w64 c.difference.result
  wide = sfits_widen tt narrow

  time-fits : SFits w64 t
  time-fits = fits-size w64 t (omega arith)

  sum_fits : SFits w64 (t +ℤ c.difference.result)
  sum_fits = fits-size w64 (t +ℤ c.difference.result) (omega (arith, size-+ t c.difference.result, size_fits narrow))

pub overflow_cast-result : goal.overflow_cast-result
overflow_cast-result c = search (rules, narrow c, wide c)

pub overflow_add-result : goal.overflow_add-result
overflow_add-result c = let a = c.before.before in search (rules, narrow a, wide a, time-fits a, sum_fits a)

pub returns : goal.returns
unfolding instant_of
returns c =
    let a = c.before.before in
    rw (to_z-of_z (narrow a), to_z-of_z (wide a), to_z-of_z (time-fits a), to_z-of_z (sum_fits a)) (ap (λ (z : ℤ). t a +ℤ z) a.difference.ensures)
