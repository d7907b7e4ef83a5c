use borrow.Author.Rules.{rules}
use Rattle.inplace.specs.Pushes.{taken_by}
use Rattle.inplace.proofs.Datas.{taken-by}
use Rattle.inplace.proofs.data.take_packet.Goals as goal

pub returns-in_err-pushed : goal.returns-in_err-pushed
unfolding taken_by
returns-in_err-pushed c = search rules

pub returns : goal.returns
returns c = taken-by _ _ _ _ _ _ _ c.requires.1 c.after_push.ensures (search rules) c.push.ensures c.in_ok-pushed.was (search rules)
