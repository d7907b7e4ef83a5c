use Rattle.intervals.proofs.RateSteps.{rateSteps}
use Rattle.intervals.proofs.rates.window_under.Goals as goal

pub loop-n-init : goal.loop-n-init
loop-n-init c = search rateSteps

pub loop-n-preserved : goal.loop-n-preserved
loop-n-preserved c = search rateSteps

pub returns : goal.returns
returns c = search rateSteps
