use Rattle.window_pop.proofs.Runs.{runs}
use Rattle.window_pop.proofs.pop.message_in_front.Goals as goal

pub read_at-e-requires : goal.read_at-e-requires
read_at-e-requires c = search runs

pub is_first-requires : goal.is_first-requires
is_first-requires c = search runs

pub message_in-requires : goal.message_in-requires
message_in-requires c = search runs

pub count_run-requires : goal.count_run-requires
count_run-requires c = search runs

pub returns-then-not-is_first : goal.returns-then-not-is_first
returns-then-not-is_first c = search runs

pub returns : goal.returns
returns c = search runs
