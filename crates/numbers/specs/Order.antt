-- The order of two circular numbers as one of three: 01, "Numbers".
use Rattle.std.specs.Prelude.{ℕ, Bool, true, false, cond}
use Rattle.numbers.specs.Circular.{equal, after}
use Rattle.std.specs.declared.cmp.Ordering.{Ordering}
use Rattle.std.specs.declared.cmp.Ordering.TheVariants.{Less, Equal, Greater}

-- equal if D = 0, a after b (the greater) if 0 < D < 2^(w-1), else before
unfoldable pub order : ℕ → ℕ → ℕ → Ordering
order w a b = cond (equal w a b) Equal (cond (after w a b) Greater Less)

-- exactly one of three tests holds
pub data OneOf : Bool → Bool → Bool → Type 0 where
  first : OneOf true false false
  second : OneOf false true false
  third : OneOf false false true
