use native.Mathlib.Omega.{arith}
use mathlib.Core.List.{[], ◌∷◌}
use Rattle.shapes.proofs.Wholes.{widths-few}
use Rattle.lines.proofs.Answers.{answers}
use Rattle.lines.proofs.bad_line.Goals as goal

pub returns : goal.returns
returns c =
    record {
      bytes = search answers;
      within = omega (arith, c.start-p.ensures.within, c.values.ensures.within, widths-few (c.from.result ∷ []) (omega arith));
    }
