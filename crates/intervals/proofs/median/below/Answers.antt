use Rattle.intervals.proofs.MedianSteps.{medians}
use Rattle.intervals.proofs.median.below.Goals as goal

pub loop-i-init : goal.loop-i-init
loop-i-init c = search medians

pub overflow_add-n : goal.overflow_add-n
overflow_add-n c = search medians

pub loop-i-preserved : goal.loop-i-preserved
loop-i-preserved c = search medians

pub returns : goal.returns
returns c = search medians
