-- Drop request: 01, "Window", from "Drop request, first to last" to "lrsn stays."
use Rattle.std.specs.Prelude.{cond, List, ℕ, zero, suc, ◌+◌, ◌-◌, min}
use Rattle.numbers.specs.Circular.{saturating, sum}
use Rattle.slots.specs.Words.{is_lost, entry_at, write_at}
use Rattle.slots.specs.Ring.{slot_of}
use Rattle.slots.specs.declared.entry.Entry.TheVariants.{GivenUp}
use Rattle.window.specs.declared.Window.{Window}

-- all that a drop request leaves: the count and the slot area
pub record Dropped : Type 0 where
  pub count : ℕ
  pub slots : List ℕ

abbrev pub drop_ended : ℕ → List ℕ → Dropped
drop_ended n ws = record { count = n; slots = ws }

-- a lost entry becomes given up and is counted; any other stays
unfoldable pub give_up : ℕ → Dropped → Dropped
give_up s x = cond (is_lost (entry_at x.slots s)) (drop_ended (x.count + 1) (write_at x.slots s GivenUp)) x

-- so for the n entries from entry i on
unfoldable pub sweep : ℕ → ℕ → List ℕ → ℕ → ℕ → Dropped
sweep capacity start ws i zero = drop_ended 0 ws
sweep capacity start ws i (suc n) = give_up (slot_of capacity start (i + n)) (sweep capacity start ws i n)

-- an end becomes a saturating difference from seqno0, at most held
abbrev pub end_from : ℕ → ℕ → ℕ → ℕ
end_from seqno0 held number = min (saturating 31 number seqno0) held

unfoldable pub end_in : Window → ℕ → ℕ
end_in w number = end_from w.seqno0 w.held number

abbrev pub drop_from : Window → ℕ → ℕ
drop_from w first = end_in w first

-- last + 1 as end
abbrev pub drop_to : Window → ℕ → ℕ
drop_to w last = end_in w (sum 31 last 1)

-- lost entries from start to before end; none if end is below start, where the difference is 0
unfoldable pub drop_of : Window → List ℕ → ℕ → ℕ → Dropped
drop_of w ws first last = sweep w.capacity w.start ws (drop_from w first) (drop_to w last - drop_from w first)

-- how many of the n entries from entry i on are lost
unfoldable pub lost_among : ℕ → ℕ → List ℕ → ℕ → ℕ → ℕ
lost_among capacity start ws i zero = 0
lost_among capacity start ws i (suc n) = lost_among capacity start ws i n + cond (is_lost (entry_at ws (slot_of capacity start (i + n)))) 1 0
