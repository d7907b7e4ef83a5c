use mathlib.Core.Path.{◌≡◌}
use mathlib.Core.List.{map}
use Prim.Native.Nat.{◌+◌, ◌≤◌}
use lib.ListN.{take}
use Rattle.text.specs.Put.{put_ended, put_of}
use Rattle.shapes.specs.Inner.{value_of, widths_of}
use Rattle.shapes.specs.Shapes.{spaced}
use Rattle.shapes.proofs.tail.some.Given as goal

abbrev pub invariant-loop-v : goal.invariant-loop-v
invariant-loop-v l =
    (l.cursor ≤ l.at + widths_of (take l.v-index l.list)) × (put_ended l.cursor l.out ≡ put_of l.initial.out l.at (spaced (map value_of (take l.v-index l.list))))
