-- What a push does to the list of entries, to the ranges and to lrsn. Assumes nothing.
use mathlib.Core.Path.{◌≡◌, refl, ap, sym, ◌∙◌}
use mathlib.Core.Bool.{true}
use mathlib.Core.List.{List, [], ◌∷◌, ◌++◌, append_assoc, append-nil}
use Prim.Native.Nat.{ℕ, zero, suc, ◌+◌, ◌*◌, ◌^◌, ◌<◌, ◌≤◌}
use native.Mathlib.Nat.{mod-eq_of_lt}
use native.Mathlib.Numerals.{add-one}
use native.Mathlib.Omega.{arith}
use borrow.Author.Tests.{eqb-false, ltb-false}
use lib.Dec.{eqb, ltb}
use lib.IntN.{ℤ, nat_abs}
use lib.ListN.{length, set, replicate, replicate-append-replicate}
use Rattle.numbers.specs.Circular.{distance, before, sum}
use Rattle.numbers.specs.Order.{order}
use Rattle.std.specs.declared.cmp.Ordering.{Ordering}
use Rattle.std.specs.declared.cmp.Ordering.TheVariants.{Less, Equal, Greater}
use Rattle.numbers.proofs.Flags.{by-test}
use Rattle.numbers.proofs.Circle.{stepped, within, order-before}
use Rattle.slots.specs.Words as words
use Rattle.slots.specs.Words.{write_at}
use Rattle.slots.specs.Ready.{Fit}
use Rattle.slots.specs.Ring.{with_payload}
use Rattle.slots.specs.declared.entry.Entry.{Entry}
use Rattle.slots.specs.declared.entry.Entry.TheVariants.{Lost}
use Rattle.slots.proofs.Laws.{read_same, payload_same, slot_lt, slot_apart}
use Rattle.window.specs.Window.{slot_in, entry_in, next_of, number_in, room_of}
use Rattle.window.specs.Ready.{Good, Bytes, PacketRight}
use Rattle.window.specs.Push as push
use Rattle.window.specs.Push.{with_lost, append_next_of, append_with_loss_of, recovered_of, recover_of, push_of}
use Rattle.window.specs.declared.Window.{Window}
use Rattle.window.specs.declared.push.Packet.{Packet}
use Rattle.window.proofs.Pushes.{length-lost}
use Rattle.views.specs.View.{Seen, lost, seen_at, entries_from, entries, packet_seen, SeenAfter}
use Rattle.views.proofs.Lists.{seen_other, seen-words, one_more, one-changed}

module _ (w : Window) (ws bs : List ℕ) (time : ℤ) (p : Packet) (payload : List ℕ) (g : Good w ws) (gb : Bytes w bs) (r : PacketRight p payload) (ht : nat_abs time < 2 ^ 60) (hs : p.stamp < 2 ^ 32) where
  abbrev pub es : List Seen
  es = entries w ws bs

  abbrev e : Entry
  e = push.received p payload

  fit : Fit e
  fit = omega arith

  in_area : (i : ℕ) → 1456 * slot_in w i + 1456 ≤ length bs
  in_area i = omega (arith, slot_lt w.capacity w.start i g.ranges.some)

  in_words : (i : ℕ) (vs : List ℕ) → length vs ≡ length ws → 3 * slot_in w i + 3 ≤ length vs
  in_words i vs h = omega (arith, slot_lt w.capacity w.start i g.ranges.some)

  -- the packet's own slot, and another's
  own : (i : ℕ) (vs : List ℕ) → length vs ≡ length ws → seen_at (write_at vs (slot_in w i) e) (with_payload bs (slot_in w i) payload) (slot_in w i) ≡ packet_seen p payload
  own i vs h = rw (read_same vs (slot_in w i) e (in_words i vs h) fit, payload_same bs (slot_in w i) payload r.bytes (in_area i))

  other : (i j : ℕ) (vs : List ℕ) → i < w.capacity → j < w.capacity → (j ≡ i → ⊥)
      → seen_at (write_at vs (slot_in w i) e) (with_payload bs (slot_in w i) payload) (slot_in w j) ≡ seen_at vs bs (slot_in w j)
  other i j vs hi hj ne = seen_other vs bs (slot_in w i) e payload (slot_in w j) r.bytes (in_area i) (slot_apart w.capacity w.start g.ranges.starts j i hj hi ne)

  -- at the next expected number: one entry more
  pub next-seen : SeenAfter w ws bs time p payload (append_next_of w ws bs time p payload)
  unfolding append_next_of
  next-seen =
      by-test (SeenAfter w ws bs time p payload) (eqb w.held w.capacity) _ _
      (λ t. refl)
      (λ t.
      let ne = eqb-false w.held w.capacity t in
      let k = w.held in
      one_more w.capacity w.start ws bs (write_at ws (slot_in w k) e) (with_payload bs (slot_in w k) payload) k (λ j h. other k j ws (omega (arith, ne)) (omega arith) (omega arith))
      ∙ ap (λ (x : Seen). es ++ (x ∷ [])) (own k ws refl))

  -- after it: a run of lost entries ..
  lost-seen : (n : ℕ) → w.held + n ≤ w.capacity
      → entries_from w.capacity w.start (with_lost w.capacity w.start ws time w.held n) bs 0 (w.held + n) ≡ es ++ replicate n (lost 2 (nat_abs time))
  unfolding with_lost
  lost-seen zero h =
      let z : w.held + 0 ≡ w.held = omega arith in
      rw z (sym (append-nil es))
  lost-seen (suc n) h =
      let k = w.held + n in
      let vs = with_lost w.capacity w.start ws time w.held n in
      let z : w.held + suc n ≡ k + 1 = omega arith in
      let own : seen_at (write_at vs (slot_in w k) (Lost 2 (nat_abs time))) bs (slot_in w k) ≡ lost 2 (nat_abs time) = rw (read_same vs (slot_in w k) (Lost 2 (nat_abs time)) (in_words k vs (length-lost w.capacity w.start ws time w.held n)) (omega arith)) in
      rw z
      (one_more w.capacity w.start vs bs (write_at vs (slot_in w k) (Lost 2 (nat_abs time))) bs k (λ j l. seen-words vs bs (slot_in w k) (Lost 2 (nat_abs time)) (slot_in w j) (slot_apart w.capacity w.start g.ranges.starts j k (omega arith) (omega arith) (omega arith)))
      ∙ rw (own, lost-seen n (omega arith)) (append_assoc es (replicate n (lost 2 (nat_abs time))) (lost 2 (nat_abs time) ∷ []) ∙ ap (λ (l : List Seen). es ++ l) (snoc n)))
    where
      snoc : (n : ℕ) → replicate n (lost 2 (nat_abs time)) ++ (lost 2 (nat_abs time) ∷ []) ≡ replicate (suc n) (lost 2 (nat_abs time))
      snoc n = replicate-append-replicate n 1 (lost 2 (nat_abs time)) ∙ rw add-one

  -- .. and then the packet
  pub loss-seen : SeenAfter w ws bs time p payload (append_with_loss_of w ws bs time p payload (distance 31 p.number (next_of w)))
  unfolding append_with_loss_of
  loss-seen =
      let gap = distance 31 p.number (next_of w) in
      let k = w.held + gap in
      let vs = with_lost w.capacity w.start ws time w.held gap in
      let z : w.held + (gap + 1) ≡ k + 1 = omega arith in
      by-test (SeenAfter w ws bs time p payload) (ltb (room_of w) (gap + 1)) _ _
      (λ t. refl)
      (λ t.
      let l = ltb-false (room_of w) (gap + 1) t in
      rw z
      (one_more w.capacity w.start vs bs (write_at vs (slot_in w k) e) (with_payload bs (slot_in w k) payload) k (λ j h. other k j vs (omega arith) (omega arith) (omega arith))
      ∙ rw (own k vs (length-lost w.capacity w.start ws time w.held gap), lost-seen gap (omega arith))))

  -- before it: one entry, which was lost, is the packet
  pub recovered-seen : (i : ℕ) → i ≡ distance 31 p.number w.seqno0 → i < w.held → SeenAfter w ws bs time p payload (recovered_of w ws bs time p payload i)
  unfolding recovered_of
  recovered-seen i d h =
      let z : 0 + i ≡ i = omega arith in
      rw (← d)
      (one-changed w.capacity w.start ws bs (write_at ws (slot_in w i) e) (with_payload bs (slot_in w i) payload) w.held 0 i h (λ j ne a b. other i j ws (omega arith) (omega arith) (omega (arith, ne)))
      ∙ rw z (ap (λ (x : Seen). set es i x) (own i ws refl)))

  recover-seen : before 31 p.number (next_of w) ≡ true → SeenAfter w ws bs time p payload (recover_of w ws bs time p payload)
  unfolding recover_of
  recover-seen b =
      by-test (SeenAfter w ws bs time p payload) (before 31 p.number w.seqno0) _ _
      (λ t. refl)
      (λ t.
      let i = distance 31 p.number w.seqno0 in
      by-test (SeenAfter w ws bs time p payload) (words.is_lost (entry_in w ws i)) _ _
      (λ u. recovered-seen i refl (within 31 p.number w.seqno0 w.held b t))
      (λ u. refl))

  -- a push, by its answer
  pub push-seen : SeenAfter w ws bs time p payload (push_of w ws bs time p payload)
  unfolding push_of
  push-seen = go (order 31 p.number (next_of w)) refl
    where
      go : (o : Ordering) → order 31 p.number (next_of w) ≡ o → SeenAfter w ws bs time p payload (push.by_order w ws bs time p payload o)
      go Equal q = next-seen
      go Greater q = loss-seen
      go Less q = recover-seen (order-before 31 p.number (next_of w) q)

  -- a number is that of the place which lies its distance past the front
  pub number_is : p.number ≡ number_in w (distance 31 p.number w.seqno0)
  unfolding sum
  number_is = sym (mod-eq_of_lt r.number) ∙ sym (stepped 31 p.number w.seqno0)
