use Rattle.intervals.proofs.RateSteps.{rateSteps}
use Rattle.intervals.proofs.rates.Links.in_range.Goals as goal

pub returns : goal.returns
returns c = search rateSteps
