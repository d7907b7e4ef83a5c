use Rattle.text.proofs.Steps.{spelling}
use Rattle.text.proofs.spell.Goals as goal

pub loop-rest-init : goal.loop-rest-init
loop-rest-init c = search spelling

pub overflow_sub-i : goal.overflow_sub-i
overflow_sub-i c = search spelling

pub loop-rest-preserved : goal.loop-rest-preserved
loop-rest-preserved c = search spelling

pub overflow_sub-i-2 : goal.overflow_sub-i-2
overflow_sub-i-2 c = search spelling

pub returns : goal.returns
returns c = search spelling
