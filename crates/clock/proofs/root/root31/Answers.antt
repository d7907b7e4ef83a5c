-- `root::root31` meets its contract: the root is known by its two squares. Assumes nothing.
use Rattle.std.proofs.Common.{◌≡◌, suc, ◌+◌, arith}
use Rattle.clock.specs.Root.{root}
use Rattle.clock.proofs.Roots.{root_is}
use Rattle.clock.proofs.root.root31.Goals as goal

pub returns : goal.returns
returns c =
    let r = c.isqrt.result in
    let e : r + 1 ≡ suc r = omega arith in
    let h = c.isqrt.ensures.next_square_gt in
    let k : root c.args.w ≡ r = root_is c.args.w r c.isqrt.ensures.square_le (rw e at h) in
    rw k c.min.ensures
