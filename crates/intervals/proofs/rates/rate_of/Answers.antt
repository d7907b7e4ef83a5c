use Rattle.intervals.proofs.RateSteps.{rateSteps}
use Rattle.intervals.proofs.rates.rate_of.Goals as goal

pub overflow_mul-result : goal.overflow_mul-result
overflow_mul-result c = search rateSteps

pub nonzero_div-result : goal.nonzero_div-result
nonzero_div-result c = search rateSteps

pub overflow_cast-result : goal.overflow_cast-result
overflow_cast-result c = search rateSteps

pub returns : goal.returns
returns c = search rateSteps
