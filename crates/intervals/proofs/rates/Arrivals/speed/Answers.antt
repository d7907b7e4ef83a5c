use Rattle.intervals.proofs.RateSteps.{rateSteps}
use Rattle.intervals.proofs.rates.Arrivals.speed.Goals as goal

pub returns-then-self-lt16 : goal.returns-then-self-lt16
returns-then-self-lt16 c = search rateSteps

pub returns-then-k-le8 : goal.returns-then-k-le8
returns-then-k-le8 c = search rateSteps

pub rate_of-packets-requires : goal.rate_of-packets-requires
rate_of-packets-requires c = search rateSteps

pub rate_of-bytes-requires : goal.rate_of-bytes-requires
rate_of-bytes-requires c = search rateSteps

pub returns : goal.returns
returns c = search rateSteps
