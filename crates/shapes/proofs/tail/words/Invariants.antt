use mathlib.Core.Path.{◌≡◌}
use mathlib.Core.List.{map}
use Prim.Native.Nat.{◌+◌, ◌*◌, ◌≤◌}
use lib.ListN.{take}
use Rattle.text.specs.Put.{put_ended, put_of}
use Rattle.head.specs.Paper.{plain}
use Rattle.shapes.specs.Shapes.{spaced}
use Rattle.shapes.proofs.tail.words.Given as goal

abbrev pub invariant-loop-word : goal.invariant-loop-word
invariant-loop-word l =
    (l.cursor ≤ l.at + 21 * l.word-index) × (put_ended l.cursor l.out ≡ put_of l.initial.out l.at (spaced (map plain (take l.word-index l.list))))
