-- The worked example of 01, "Trace", at the window's level, computed from the definitions. The payload area is any list. Assumes nothing.
use mathlib.Core.Path.{◌≡◌, refl}
use mathlib.Core.Bool.{true, false}
use mathlib.Core.List.{List}
use Prim.Native.Nat.{ℕ}
use lib.IntN.{pos}
use lib.ListN.{replicate}
use Rattle.std.specs.Prelude.{Ok, Err}
use Rattle.numbers.specs.Circular as circular
use Rattle.numbers.specs.Order as orders
use Rattle.slots.specs.Words as words
use Rattle.slots.specs.Ring as ring
use Rattle.window.specs.Window.{first_gap}
use Rattle.window.specs.Push.{PushOutcome, window_after, answered, with_lost, append_next_of, append_with_loss_of, recovered_of, recover_of, push_of}
use Rattle.window.specs.declared.Window.{Window}
use Rattle.window.specs.declared.push.Packet.{Packet}
use Rattle.window.specs.declared.push.PushAnswer.TheVariants as answers
use Rattle.window.specs.declared.push.PushRefusal.TheVariants as refusals

-- first 2147483646, capacity 4; whole single-packet messages of 10 bytes
abbrev pub fresh : Window
fresh = record { capacity = 4; start = 0; held = 0; seqno0 = 2147483646; lrsn = 2147483646 }

abbrev ten : List ℕ
ten = replicate 10 7

abbrev whole : ℕ → ℕ → Packet
whole number stamp = record { number = number; message = number; location = 3; stamp = stamp }

module _ (bs : List ℕ) where
  abbrev one : PushOutcome
  one = push_of fresh (replicate 12 0) bs (pos 1000) (whole 2147483646 0) ten

  abbrev two : PushOutcome
  two = push_of (window_after fresh one.pushed) one.slots one.payloads (pos 2000) (whole 0 1000) ten

  abbrev three : PushOutcome
  three = push_of (window_after fresh two.pushed) two.slots two.payloads (pos 3000) (whole 2147483647 500) ten

  abbrev four : PushOutcome
  four = push_of (window_after fresh three.pushed) three.slots three.payloads (pos 3100) (whole 0 1000) ten

  line1 : answered one.pushed ≡ Ok (answers.Got 2147483647 false)
  unfolding push_of append_next_of circular.distance circular.equal circular.after circular.sum circular.successor orders.order
  line1 = refl

  line2 : answered two.pushed ≡ Ok (answers.Loss 2147483647 2147483647)
  unfolding push_of append_next_of append_with_loss_of circular.distance circular.equal circular.after circular.sum circular.successor orders.order
  line2 = refl

  line3 : answered three.pushed ≡ Ok (answers.Got 1 true)
  unfolding push_of append_next_of append_with_loss_of recovered_of recover_of with_lost first_gap circular.distance circular.equal circular.after circular.before circular.sum circular.successor orders.order words.entry_of words.entry_at words.write_at ring.slot_of
  line3 = refl

  line4 : answered four.pushed ≡ Err refusals.DiscardedDuplicate
  unfolding push_of append_next_of append_with_loss_of recovered_of recover_of with_lost first_gap circular.distance circular.equal circular.after circular.before circular.sum circular.successor orders.order words.entry_of words.entry_at words.write_at ring.slot_of
  line4 = refl
