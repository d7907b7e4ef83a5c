use Rattle.std.proofs.Common.{length, arith}
use Rattle.shapes.specs.Inner.{value_of}
use Rattle.shapes.specs.declared.part.Value.TheVariants.{Plain}
use Rattle.shapes.proofs.Tails.{tails, items-again, widths-again, widths-room}
use Rattle.shapes.proofs.tail.some.Goals as goal

pub loop-v-init : goal.loop-v-init
loop-v-init c = search tails

pub value-cursor-requires : goal.value-cursor-requires
value-cursor-requires c = omega (arith, widths-room c.args.list.now c.args.at c.loop-v.v-index (Plain 0) (length c.args.out.now) c.loop-v.invariant.0 c.requires c.loop-v-test.true)

pub loop-v-preserved : goal.loop-v-preserved
loop-v-preserved c =
    let i = c.loop-v.v-index in
    let list = c.args.list.now in
    let here = c.loop-v-test.true in
    let low = c.loop-v.invariant.0 in (
      widths-again list c.args.at i _ low c.value-cursor.ensures.within here,
      items-again value_of c.args.out.now c.args.at list i _ c.loop-v.invariant.1 c.value-cursor.ensures.bytes here
          (omega (arith, widths-room list c.args.at i (Plain 0) (length c.args.out.now) low c.requires here)),
    )

pub returns : goal.returns
returns c = search tails
