use Rattle.intervals.proofs.MedianSteps.{medians}
use Rattle.intervals.proofs.median.has_index.Goals as goal

pub overflow_add-v : goal.overflow_add-v
overflow_add-v c = search medians

pub returns : goal.returns
returns c = search medians
