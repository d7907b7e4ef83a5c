-- The last answer is put together by hand: what is in reach there is too much for `search`.
use mir.Facts.{to_z-of_z}
use Rattle.acks.proofs.HistorySteps.{histories, appended}
use Rattle.acks.proofs.history.History.append.Goals as goal

pub first_after-first-requires : goal.first_after-first-requires
first_after-first-requires c = search histories

pub overflow_add-start : goal.overflow_add-start
overflow_add-start c = search histories

pub overflow_sub-left : goal.overflow_sub-left
overflow_sub-left c = search histories

pub returns : goal.returns
returns c =
    let back = to_z-of_z c.ranges.time in
    appended _ _ _ _ _ c.next_number-number.ensures c.leaving-n.ensures back c.first_after-first.ensures c.write_ack.ensures back
