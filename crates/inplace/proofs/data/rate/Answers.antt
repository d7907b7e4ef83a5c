use borrow.Author.Rules.{rules}
use Rattle.inplace.proofs.Datas.{link-ready, rates-in}
use Rattle.inplace.proofs.data.rate.Goals as goal

pub put_link-requires : goal.put_link-requires
put_link-requires c = link-ready _ _ _ _ _ _ c.put_arrival.ensures (search rules) (search rules)

pub returns : goal.returns
returns c = search rates-in
