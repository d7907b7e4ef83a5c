use Rattle.window_report.proofs.Drops.{drops}
use Rattle.window_report.proofs.drop_request.drop_packets.Goals as goal

pub end_in-from-requires : goal.end_in-from-requires
end_in-from-requires c = search drops

pub sum-requires : goal.sum-requires
sum-requires c = search drops

pub end_in-to-requires : goal.end_in-to-requires
end_in-to-requires c = search drops

pub returns-then-to-from : goal.returns-then-to-from
returns-then-to-from c = search drops

pub give_up-requires : goal.give_up-requires
give_up-requires c = search drops

pub shape_of-words : goal.shape_of-words
shape_of-words c = search drops

pub returns : goal.returns
returns c = search drops
