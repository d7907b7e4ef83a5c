-- `rates::every` meets its contract: the chain folds. Assumes nothing.
use Rattle.std.proofs.Common.{true, ◌&&◌, ltb, rules, tests}
use Rattle.std.proofs.lemmas.Iterator.{YieldsList-from_slice}
use Rattle.std.proofs.lemmas.Iterator.Consumers.{fold_from_yields_List}
use Rattle.intervals.proofs.RateSteps.{every-is}
use Rattle.intervals.proofs.rates.every.Goals as goal

pub returns : goal.returns
returns c =
    let b = c.args.bound in
    every-is b c.args.values.now
    (fold_from_yields_List _ (λ ok x. ok && ltb x b) true c.fold.result c.fold.ensures.ran (YieldsList-from_slice c.args.values.now cc) (λ a x r q k. search (rules, tests)))
