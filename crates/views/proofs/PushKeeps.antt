-- A push keeps the window in range and lrsn right. Assumes nothing.
use mathlib.Core.Path.{◌≡◌}
use mathlib.Core.List.{List}
use Prim.Native.Nat.{ℕ, ◌+◌, ◌-◌, ◌^◌, ◌<◌}
use native.Mathlib.Omega.{arith}
use borrow.Author.Tests.{eqb-false, ltb-false}
use lib.Dec.{eqb, ltb}
use lib.IntN.{ℤ}
use lib.ListN.{length}
use Rattle.numbers.specs.Circular.{distance, before, successor}
use Rattle.numbers.specs.Order.{order}
use Rattle.std.specs.declared.cmp.Ordering.{Ordering}
use Rattle.std.specs.declared.cmp.Ordering.TheVariants.{Less, Equal, Greater}
use Rattle.numbers.proofs.Flags.{by-test}
use Rattle.numbers.proofs.Circle.{sum_below}
use Rattle.slots.specs.Words as words
use Rattle.slots.specs.Words.{write_at}
use Rattle.slots.specs.Ring.{with_payload}
use Rattle.slots.proofs.Laws.{length-write, length-payload, slot_lt}
use Rattle.window.specs.Window.{slot_in, entry_in, next_of, room_of, first_gap}
use Rattle.window.specs.Ready.{Good, Bytes, PacketRight}
use Rattle.window.specs.Push as push
use Rattle.window.specs.Push.{PushOutcome, window_after, with_lost, moved_past, recovered_lrsn, append_next_of, append_with_loss_of, recovered_of, recover_of, push_of}
use Rattle.window.specs.declared.Window.{Window}
use Rattle.window.specs.declared.push.Packet.{Packet}
use Rattle.window.proofs.Pushes.{length-lost}

module _ (w : Window) (ws bs : List ℕ) (time : ℤ) (p : Packet) (payload : List ℕ) (g : Good w ws) (gb : Bytes w bs) (r : PacketRight p payload) where
  abbrev Kept : PushOutcome → Type 0
  Kept o = Good (window_after w o.pushed) o.slots × Bytes (window_after w o.pushed) o.payloads

  moved-lt : moved_past w.lrsn p.number < 2 ^ 31
  unfolding successor
  moved-lt = by-test (λ (x : ℕ). x < 2 ^ 31) (eqb w.lrsn p.number) _ _ (λ t. sum_below 31 p.number 1) (λ t. g.ranges.lrsn)

  bytes-kept : (i : ℕ) → length (with_payload bs (slot_in w i) payload) ≡ length bs
  bytes-kept i = length-payload bs (slot_in w i) payload r.bytes (omega (arith, slot_lt w.capacity w.start i g.ranges.some))

  next-kept : Kept (append_next_of w ws bs time p payload)
  unfolding append_next_of
  next-kept =
      by-test Kept (eqb w.held w.capacity) _ _
      (λ t. (g, gb))
      (λ t.
      let ne = eqb-false w.held w.capacity t in
      let a = length-write ws (slot_in w w.held) (push.received p payload) in
      let b = bytes-kept w.held in
      let m = moved-lt in
      (omega (arith, ne), omega arith))

  loss-kept : (gap : ℕ) → Kept (append_with_loss_of w ws bs time p payload gap)
  unfolding append_with_loss_of
  loss-kept gap =
      by-test Kept (ltb (room_of w) (gap + 1)) _ _
      (λ t. (g, gb))
      (λ t.
      let l = ltb-false (room_of w) (gap + 1) t in
      let v = length-lost w.capacity w.start ws time w.held gap in
      let a = length-write (with_lost w.capacity w.start ws time w.held gap) (slot_in w (w.held + gap)) (push.received p payload) in
      let b = bytes-kept (w.held + gap) in
      let m = moved-lt in
      (omega arith, omega arith))

  recovered-kept : (i : ℕ) → Kept (recovered_of w ws bs time p payload i)
  unfolding recovered_of
  recovered-kept i =
      let ws₁ = write_at ws (slot_in w i) (push.received p payload) in
      let a = length-write ws (slot_in w i) (push.received p payload) in
      let b = bytes-kept i in
      let m : recovered_lrsn w p.number ws₁ i < 2 ^ 31 = by-test (λ (x : ℕ). x < 2 ^ 31) (eqb w.lrsn p.number) _ _ (λ t. sum_below 31 w.seqno0 (first_gap w.capacity w.start ws₁ i (w.held - i))) (λ t. g.ranges.lrsn) in
      (omega arith, omega arith)

  recover-kept : Kept (recover_of w ws bs time p payload)
  unfolding recover_of
  recover-kept =
      by-test Kept (before 31 p.number w.seqno0) _ _
      (λ t. (g, gb))
      (λ t. by-test Kept (words.is_lost (entry_in w ws (distance 31 p.number w.seqno0))) _ _ (λ u. recovered-kept (distance 31 p.number w.seqno0)) (λ u. (g, gb)))

  -- the ranges of the window and the lengths of the areas
  pub push_kept : Kept (push_of w ws bs time p payload)
  unfolding push_of
  push_kept = go (order 31 p.number (next_of w))
    where
      go : (o : Ordering) → Kept (push.by_order w ws bs time p payload o)
      go Equal = next-kept
      go Greater = loss-kept (distance 31 p.number (next_of w))
      go Less = recover-kept
