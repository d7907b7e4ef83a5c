-- `show::part_at` meets its contract. Assumes nothing.
use mathlib.Core.Path.{◌≡◌, refl}
use Prim.Native.Nat.{◌+◌, ◌-◌}
use native.Mathlib.Omega.{arith}
use Rattle.window.proofs.show.part_at.Goals as goal

pub returns : goal.returns
returns c =
    let x = c.before.args in
    let q : x.at + x.len - x.at ≡ x.len = omega arith in
    record { block = refl; place = omega arith; bytes = rw q }
