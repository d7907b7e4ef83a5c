use mir.Syntax.{w64}
use mir.Val.{SFits}
use mir.Facts.{to_z-of_z}
use Rattle.packing.proofs.Says.{says-head}
use Rattle.packing.proofs.unpack.head.Goals as goal

-- more than `search` enters, so by its paths
pub returns : goal.returns
returns c =
    let d = c.before.before.before.before in
    let w = d.before.before.before.before.before in
    let f : SFits w64 w.before.whole.result = record { sfits = w.before.whole.type_inv } in
    says-head
    w.before.before.before.args.ws.now
    w.before.whole.ensures
    (to_z-of_z f)
    w.window.ensures
    d.before.before.before.number.ensures
    d.before.flag.ensures
    d.clock.ensures
    c.before.before.before.rtt.ensures
    c.before.before.arrivals.ensures
    c.before.links.ensures
    c.history.ensures
