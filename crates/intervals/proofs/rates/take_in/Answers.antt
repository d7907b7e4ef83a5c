use Rattle.intervals.proofs.RateSteps.{rateSteps}
use Rattle.intervals.proofs.rates.take_in.Goals as goal

pub overflow_add-result : goal.overflow_add-result
overflow_add-result c = search rateSteps

pub overflow_add-result-then-keeps : goal.overflow_add-result-then-keeps
overflow_add-result-then-keeps c = search rateSteps

pub overflow_add-result-then-keeps-2 : goal.overflow_add-result-then-keeps-2
overflow_add-result-then-keeps-2 c = search rateSteps

pub returns-then-keeps : goal.returns-then-keeps
returns-then-keeps c = search rateSteps

pub returns : goal.returns
returns c = search rateSteps
