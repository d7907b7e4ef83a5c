use Rattle.intervals.proofs.RateSteps.{rateSteps}
use Rattle.intervals.proofs.rates.intervals_ok.Goals as goal

pub returns-then-count-gt16 : goal.returns-then-count-gt16
returns-then-count-gt16 c = search rateSteps

pub returns-then-at-ge16 : goal.returns-then-at-ge16
returns-then-at-ge16 c = search rateSteps

pub returns : goal.returns
returns c = search rateSteps
