use Rattle.window_pop.proofs.Runs.{runs}
use Rattle.window_pop.proofs.pop.count_run.Goals as goal

pub loop-i-init : goal.loop-i-init
loop-i-init c = search runs

pub read_at-e-requires : goal.read_at-e-requires
read_at-e-requires c = search runs

pub in_message-requires : goal.in_message-requires
in_message-requires c = search runs

pub overflow_add-total : goal.overflow_add-total
overflow_add-total c = search runs

pub is_last-requires : goal.is_last-requires
is_last-requires c = search runs

pub returns-then-is_last : goal.returns-then-is_last
returns-then-is_last c = search runs

pub next_slot-s-requires : goal.next_slot-s-requires
next_slot-s-requires c = search runs

pub loop-i-preserved : goal.loop-i-preserved
loop-i-preserved c = search runs

pub returns-then-not-in_message : goal.returns-then-not-in_message
returns-then-not-in_message c = search runs

pub returns : goal.returns
returns c = search runs
