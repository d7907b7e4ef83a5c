use Rattle.std.proofs.Common.{◌≡◌, ◌+◌, ◌*◌, ◌≤◌, length, take, map, arith, length-take-le}
use Rattle.head.specs.Paper.{plain}
use Rattle.shapes.proofs.Tails.{items-closed}
use Rattle.shapes.proofs.tail.report.Goals as goal

pub returns : goal.returns
returns c =
    let list = c.args.list.now in
    let n = c.args.n in
    let m : length (take n list) ≡ n = length-take-le n list c.requires.n_in_bounds in
    let w : c.words-p.result ≤ c.args.at + 21 * n = rw m at c.words-p.ensures.within in
    let end = c.newline.ensures.within in
    record {
      bytes = items-closed c.args.out.now c.args.at (21 * n) (map plain (take n list)) c.words-p.ensures.bytes w c.requires.n_in_bounds_2 c.newline.ensures.bytes;
      within = omega arith;
    }
