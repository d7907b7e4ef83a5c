use Rattle.intervals.proofs.RateSteps.{rateSteps}
use Rattle.intervals.proofs.rates.Arrivals.record.Goals as goal

pub returns-in_default : goal.returns-in_default
returns-in_default c = search rateSteps

pub overflow_add-result : goal.overflow_add-result
overflow_add-result c = search rateSteps

pub returns : goal.returns
returns c = search rateSteps
