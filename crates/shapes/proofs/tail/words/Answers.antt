use Rattle.std.proofs.Common.{◌+◌, ◌*◌, ◌≤◌, length, arith}
use Rattle.head.specs.Paper.{plain}
use Rattle.shapes.proofs.Tails.{tails, items-again}
use Rattle.shapes.proofs.tail.words.Goals as goal

pub loop-word-init : goal.loop-word-init
loop-word-init c = search tails

pub loop-word-preserved : goal.loop-word-preserved
loop-word-preserved c =
    let i = c.loop-word.word-index in
    let low : c.loop-word.cursor ≤ c.args.at + 21 * i = c.loop-word.invariant.0 in
    let room : c.args.at + 21 * length c.args.list.now ≤ length c.args.out.now = c.requires in
    let here : i + 1 ≤ length c.args.list.now = omega (arith, c.loop-word-test.true) in
    let within : c.number-cursor.result ≤ c.loop-word.cursor + 21 = c.number-cursor.ensures.within in
    (omega arith, items-again plain c.args.out.now c.args.at c.args.list.now i _ c.loop-word.invariant.1 c.number-cursor.ensures.bytes c.loop-word-test.true (omega arith))

pub returns : goal.returns
returns c = search tails
