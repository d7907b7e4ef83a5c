use Rattle.intervals.proofs.RateSteps.{rateSteps}
use Rattle.intervals.proofs.rates.Arrivals.in_range.Goals as goal

pub returns-then-not-intervals_ok : goal.returns-then-not-intervals_ok
returns-then-not-intervals_ok c = search rateSteps

pub returns : goal.returns
returns c = search rateSteps
