use Rattle.std.proofs.Common.{rules}
use Rattle.cells.specs.declared.Gone.{Gone}
use Rattle.exports.proofs.Boundary.{mapped, boundary}
use Rattle.exports.proofs.counted.pt_counted_handle_drop_request.Goals as goal

pub returns : goal.returns
returns c = let m = mapped (λ (r : Gone). r.0) c.handle_drop_request-r.result.left c.map.result _ (λ x r p. search rules) c.map.ensures.cases in search boundary
