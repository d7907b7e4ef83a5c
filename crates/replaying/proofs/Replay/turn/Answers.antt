use Rattle.std.proofs.Common.{◌≤◌, length, arith}
use Rattle.replaying.proofs.Turns.{turn-wrote, turns}
use Rattle.replaying.proofs.Replay.turn.Goals as goal

pub pass-requires : goal.pass-requires
pass-requires c = search turns

pub add-requires : goal.add-requires
add-requires c =
    let u : c.next-x.result.length ≤ length c.next-x.new.line = turn-wrote _ _ _ _ _ _ _ c.next-x.ensures in
    omega arith
