use Rattle.std.proofs.Common.{rules}
use Rattle.cells.specs.declared.Gone.{Gone}
use Rattle.exports.proofs.Boundary.{mapped, boundary}
use Rattle.exports.proofs.request.pt_handle_drop_request.Goals as goal

pub returns : goal.returns
returns c = let m = mapped (λ (r : Gone). r.0) c.handle_drop_request-a.result c.map.result _ (λ x r p. search rules) c.map.ensures.cases in search boundary
