use Rattle.intervals.proofs.RateSteps.{rateSteps}
use Rattle.intervals.proofs.rates.keep.Goals as goal

pub loop-i-init : goal.loop-i-init
loop-i-init c = search rateSteps

pub loop-i-preserved : goal.loop-i-preserved
loop-i-preserved c = search rateSteps

pub returns : goal.returns
returns c = search rateSteps
