use Rattle.intervals.proofs.RateSteps.{rateSteps}
use Rattle.intervals.proofs.rates.Links.capacity.Goals as goal

pub returns-then-self-lt16 : goal.returns-then-self-lt16
returns-then-self-lt16 c = search rateSteps

pub returns : goal.returns
returns c = search rateSteps
