-- The lrsn that a push answers is the window's: 01, "Window" and "Trace", `got` with lrsn. That the window stays in range is said in views. Assumes nothing.
use mathlib.Core.Path.{◌≡◌, refl}
use mathlib.Core.List.{List}
use Prim.Native.Nat.{ℕ, ◌+◌}
use lib.Dec.{eqb, ltb}
use lib.IntN.{ℤ}
use Rattle.numbers.specs.Circular.{distance, before}
use Rattle.numbers.specs.Order.{order}
use Rattle.std.specs.Prelude.{Result, Ok, Err}
use Rattle.std.specs.declared.cmp.Ordering.{Ordering}
use Rattle.std.specs.declared.cmp.Ordering.TheVariants.{Less, Equal, Greater}
use Rattle.numbers.proofs.Flags.{by-test}
use Rattle.slots.specs.Words.{is_lost}
use Rattle.window.specs.Window.{entry_in, next_of, room_of}
use Rattle.window.specs.Push.{PushOutcome, append_next_of, append_with_loss_of, recovered_of, recover_of, by_order, push_of}
use Rattle.window.specs.declared.Window.{Window}
use Rattle.window.specs.declared.push.Packet.{Packet}
use Rattle.window.specs.declared.push.Pushed.{Pushed}
use Rattle.window.specs.declared.push.PushRefusal.{PushRefusal}
use Rattle.window.specs.declared.push.PushAnswer.{PushAnswer}
use Rattle.window.specs.declared.push.PushAnswer.TheVariants as pushes

-- the lrsn of an answer that has one
abbrev pub Says : ℕ → PushAnswer → Type 0
Says l (pushes.Got lrsn recovered) = lrsn ≡ l
Says l (pushes.Loss first last) = Unit

-- and of a push that is not refused
abbrev pub PushSays : Result Pushed PushRefusal → Type 0
PushSays (Ok r) = Says r.window.lrsn r.answer
PushSays (Err e) = Unit

module _ (w : Window) (ws bs : List ℕ) (time : ℤ) (p : Packet) (payload : List ℕ) where
  abbrev Said : PushOutcome → Type 0
  Said o = PushSays o.pushed

  next-says : Said (append_next_of w ws bs time p payload)
  unfolding append_next_of
  next-says = by-test Said (eqb w.held w.capacity) _ _ (λ t. tt) (λ t. refl)

  loss-says : (gap : ℕ) → Said (append_with_loss_of w ws bs time p payload gap)
  unfolding append_with_loss_of
  loss-says gap = by-test Said (ltb (room_of w) (gap + 1)) _ _ (λ t. tt) (λ t. tt)

  recover-says : Said (recover_of w ws bs time p payload)
  unfolding recover_of recovered_of
  recover-says =
      by-test Said (before 31 p.number w.seqno0) _ _
      (λ t. tt)
      (λ t. by-test Said (is_lost (entry_in w ws (distance 31 p.number w.seqno0))) _ _ (λ u. refl) (λ u. tt))

  pub push-says : Said (push_of w ws bs time p payload)
  unfolding push_of
  push-says = go (order 31 p.number (next_of w))
    where
      go : (o : Ordering) → Said (by_order w ws bs time p payload o)
      go Equal = next-says
      go Greater = loss-says (distance 31 p.number (next_of w))
      go Less = recover-says
