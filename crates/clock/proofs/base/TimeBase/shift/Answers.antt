-- `TimeBase::shift` meets its contract: the difference fits. Assumes nothing.
use Rattle.std.proofs.Common.{ℤ, ◌-ℤ◌, arith, to_z-of_z, w64, SFits}
use mir.Facts.{sfits_widen}
use Rattle.numbers.proofs.Halves.{size--, fits-size, size_fits}
use Rattle.clock.specs.Base.{shifted}
use Rattle.clock.proofs.base.TimeBase.shift.Goals.{Start}
use Rattle.clock.proofs.base.TimeBase.shift.Goals as goal

module _ (s : Start) where
  abbrev t : ℤ
  t = s.args.self.time

  abbrev d : ℤ
  d = s.args.drift

  wide : SFits w64 d
  wide = sfits_widen tt s.ranges.drift

  time-fits : SFits w64 t
  time-fits = fits-size w64 t (omega arith)

  less-fits : SFits w64 (t -ℤ d)
  less-fits = fits-size w64 (t -ℤ d) (omega (arith, size-- t d, size_fits s.ranges.drift))

pub overflow_cast-result : goal.overflow_cast-result
overflow_cast-result c = rw (to_z-of_z c.ranges.drift) (wide c)

pub overflow_sub-result : goal.overflow_sub-result
overflow_sub-result c = let s = c.before.before in rw (to_z-of_z s.ranges.drift, to_z-of_z (wide s), to_z-of_z (time-fits s)) (less-fits s)

pub returns : goal.returns
unfolding shifted
returns c =
    let s = c.before.before in
    rw (to_z-of_z s.ranges.drift, to_z-of_z (wide s), to_z-of_z (time-fits s), to_z-of_z (less-fits s))
