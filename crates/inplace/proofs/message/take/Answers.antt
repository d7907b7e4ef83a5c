use borrow.Author.Rules.{rules}
use Rattle.inplace.proofs.Singles.{take-usual, takes-single}
use Rattle.inplace.proofs.message.take.Goals as goal

pub release_usual-requires : goal.release_usual-requires
release_usual-requires c = take-usual _ _ _ _ c.args.time _ (search rules) c.is_usual.ensures (search rules)

pub returns-then-is_usual : goal.returns-then-is_usual
returns-then-is_usual c = search takes-single

pub returns : goal.returns
returns c = search takes-single
