use Rattle.window_report.proofs.Drops.{drops}
use Rattle.window_report.proofs.drop_request.give_up_one.Goals as goal

pub read_at-requires : goal.read_at-requires
read_at-requires c = search drops

pub is_lost-requires : goal.is_lost-requires
is_lost-requires c = search drops

pub write_at-requires : goal.write_at-requires
write_at-requires c = search drops

pub overflow_add-result : goal.overflow_add-result
overflow_add-result c = search drops

pub shape_of-words-then-is_lost : goal.shape_of-words-then-is_lost
shape_of-words-then-is_lost c = search drops

pub returns-then-is_lost : goal.returns-then-is_lost
returns-then-is_lost c = search drops

pub shape_of-words : goal.shape_of-words
shape_of-words c = search drops

pub returns : goal.returns
returns c = search drops
