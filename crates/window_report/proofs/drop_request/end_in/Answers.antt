use Rattle.window_report.proofs.Drops.{drops}
use Rattle.window_report.proofs.drop_request.end_in.Goals as goal

pub saturating-d-requires : goal.saturating-d-requires
saturating-d-requires c = search drops

pub overflow_cast-d : goal.overflow_cast-d
overflow_cast-d c = search drops

pub returns : goal.returns
returns c = search drops
