-- Any two results that a promise of the form "the result is this value" allows coincide: 01, "Each proof's duty". One law for every function, here and
-- in the crates above, whose contract is one equation between its result, or the one list that it writes, and a definition. Assumes nothing.
use Rattle.std.proofs.Common.{◌≡◌, sym, ◌∙◌}

pub value-determined : {A : Type 0} {x r s : A} → r ≡ x → s ≡ x → r ≡ s
value-determined p q = p ∙ sym q
