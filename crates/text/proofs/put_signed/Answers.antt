use Rattle.text.proofs.Steps.{lines}
use Rattle.text.proofs.put_signed.Goals as goal

pub returns-then-z-ge0 : goal.returns-then-z-ge0
returns-then-z-ge0 c = search lines

pub put_decimal-requires-2 : goal.put_decimal-requires-2
put_decimal-requires-2 c = search lines

pub returns : goal.returns
returns c = search lines
