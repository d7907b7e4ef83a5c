-- `TimeBase::timestamp_from` meets its contract. Assumes nothing.
use Rattle.std.proofs.Common.{◌≡◌, ℕ, ◌^◌, ◌<◌, ℤ, pos, ◌+ℤ◌, ◌-ℤ◌, arith, to_z-of_z, w64, SFits, to_z, of_z}
use mir.Facts.{to_z_pos}
use Rattle.numbers.proofs.Halves.{size-+, size--, fits-size}
use Rattle.clock.specs.Base.{stamp_of}
use Rattle.clock.proofs.base.TimeBase.timestamp_from.Goals.{After-struct_known-1}
use Rattle.clock.proofs.base.TimeBase.timestamp_from.Goals as goal

-- the numbers on the way: each fits, and the machine reads it back
module _ (c : After-struct_known-1) where
  abbrev p : ℕ
  p = c.before.args.self.stamp

  abbrev t : ℤ
  t = c.before.args.self.time

  abbrev n : ℤ
  n = c.before.args.now

  stamp-below : p < 2 ^ 32
  stamp-below = c.struct_known-1.given.1.0.fits

  stamp-reads : to_z w64 p ≡ pos p
  stamp-reads = to_z_pos w64 (omega (arith, stamp-below))

  time-reads : to_z w64 (of_z w64 t) ≡ t
  time-reads = to_z-of_z (fits-size w64 t (omega arith))

  now-reads : to_z w64 (of_z w64 n) ≡ n
  now-reads = to_z-of_z (fits-size w64 n (omega arith))

  sum_fits : SFits w64 (pos p +ℤ n)
  sum_fits = fits-size w64 (pos p +ℤ n) (omega (arith, stamp-below, size-+ (pos p) n))

  span_fits : SFits w64 (pos p +ℤ n -ℤ t)
  span_fits = fits-size w64 (pos p +ℤ n -ℤ t) (omega (arith, stamp-below, size-+ (pos p) n, size-- (pos p +ℤ n) t))

pub overflow_add-self : goal.overflow_add-self
overflow_add-self c = rw (stamp-reads c, now-reads c) (sum_fits c)

pub overflow_sub-self : goal.overflow_sub-self
overflow_sub-self c = let s = c.before.before in rw (stamp-reads s, now-reads s, to_z-of_z (sum_fits s), time-reads s) (span_fits s)

pub returns : goal.returns
unfolding stamp_of
returns c =
    let s = c.before.before.before in
    rw (stamp-reads s, now-reads s, to_z-of_z (sum_fits s), time-reads s, to_z-of_z (span_fits s)) at c.wrap.ensures
