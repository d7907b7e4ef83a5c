-- A value as the code has it, and the most bytes that values need: no rules of 01 of their own.
use Rattle.std.specs.Prelude.{Bool, cond, List, ℕ, ◌+◌, Option, Some, None}
use Rattle.std.specs.List.{sum_by}
use Rattle.head.specs.Paper as paper
use Rattle.head.specs.Paper.{whole, dash, plain}
use Rattle.shapes.specs.declared.part.Value.{Value}
use Rattle.shapes.specs.declared.part.Value.TheVariants.{Plain, Whole, Dash}

-- the value that is written
abbrev pub value_of : Value → paper.Value
value_of (Plain n) = plain n
value_of (Whole z) = whole z
value_of Dash = dash

-- the value of a flag, and of a rate
abbrev pub one_if : Bool → ℕ
one_if b = cond b 1 0

abbrev pub rate_in : Option ℕ → Value
rate_in None = Dash
rate_in (Some n) = Plain n

-- the most bytes of a value, with the space before it
abbrev pub width_of : Value → ℕ
width_of (Plain _) = 21
width_of (Whole _) = 22
width_of Dash = 21

-- and of values, each by its own width
abbrev pub widths_of : List Value → ℕ
widths_of list = sum_by width_of list

-- with the line's end
abbrev pub room_of : List Value → ℕ
room_of list = widths_of list + 1
