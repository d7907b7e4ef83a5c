use Rattle.intervals.proofs.MedianSteps.{medians}
use Rattle.intervals.proofs.median.median.Goals as goal

pub loop-i-init : goal.loop-i-init
loop-i-init c = search medians

pub returns-then-has_index : goal.returns-then-has_index
returns-then-has_index c = search medians

pub loop-i-preserved : goal.loop-i-preserved
loop-i-preserved c = search medians

pub returns : goal.returns
returns c = search medians
