use Rattle.intervals.proofs.RateSteps.{rateSteps}
use Rattle.intervals.proofs.rates.Links.record.Goals as goal

pub returns-then-place-eq0 : goal.returns-then-place-eq0
returns-then-place-eq0 c = search rateSteps

pub returns-then-place-eq1 : goal.returns-then-place-eq1
returns-then-place-eq1 c = search rateSteps

pub returns : goal.returns
returns c = search rateSteps
