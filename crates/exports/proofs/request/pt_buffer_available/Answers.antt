use Rattle.std.proofs.Common.{rules}
use Rattle.cells.specs.declared.Room.{Room}
use Rattle.exports.proofs.Boundary.{mapped, boundary}
use Rattle.exports.proofs.request.pt_buffer_available.Goals as goal

pub returns : goal.returns
returns c = let m = mapped (λ (r : Room). r.0) c.buffer_available-a.result c.map.result _ (λ x r p. search rules) c.map.ensures.cases in search boundary
