use Rattle.intervals.proofs.RateSteps.{rateSteps}
use Rattle.intervals.proofs.rates.all_under.Goals as goal

pub returns-then-every : goal.returns-then-every
returns-then-every c = search rateSteps

pub returns : goal.returns
returns c = search rateSteps
