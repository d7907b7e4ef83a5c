use Rattle.intervals.proofs.RateSteps.{rateSteps}
use Rattle.intervals.proofs.rates.link_rate.Goals as goal

pub returns-then-median-eq0 : goal.returns-then-median-eq0
returns-then-median-eq0 c = search rateSteps

pub nonzero_div-result : goal.nonzero_div-result
nonzero_div-result c = search rateSteps

pub returns : goal.returns
returns c = search rateSteps
