-- A push keeps lrsn right: the number of the first held entry not received, else the next expected. Assumes nothing.
use mathlib.Core.Path.{◌≡◌, refl, ap, sym, ◌∙◌}
use mathlib.Core.Bool.{true, false}
use mathlib.Core.List.{List, [], ◌∷◌, ◌++◌, append_assoc}
use Prim.Native.Nat.{ℕ, zero, suc, ◌+◌, ◌-◌, ◌^◌, ◌<◌, ◌≤◌}
use native.Mathlib.Nat.{mod-eq_of_lt}
use native.Mathlib.Omega.{arith}
use borrow.Author.Tests.{eqb-true, eqb-false, ltb-false, eq-eqb, ne_eqb}
use lib.Dec.{eqb, ltb}
use lib.IntN.{ℤ, nat_abs}
use lib.ListN.{length, set, drop, replicate}
use Rattle.numbers.specs.Circular.{distance, before, sum, successor}
use Rattle.numbers.specs.Order.{order}
use Rattle.std.specs.declared.cmp.Ordering.{Ordering}
use Rattle.std.specs.declared.cmp.Ordering.TheVariants.{Less, Equal, Greater}
use Rattle.numbers.proofs.Flags.{impossible, by-test, by-order}
use Rattle.numbers.proofs.Circle.{sum_below, sum-sum, stepped, within, order-before, order-equal, order-after, distance-zero}
use Rattle.numbers.proofs.Places.{place-one}
use Rattle.slots.specs.Words as words
use Rattle.slots.specs.Words.{write_at}
use Rattle.slots.specs.Ring.{with_payload}
use Rattle.slots.specs.declared.entry.Entry.{Entry}
use Rattle.slots.specs.declared.entry.Entry.TheVariants.{Lost, Received, GivenUp}
use Rattle.window.specs.Window.{slot_in, entry_in, next_of, number_in, room_of, lrsn_from}
use Rattle.window.specs.Ready.{Good, Bytes, PacketRight}
use Rattle.window.specs.Push as push
use Rattle.window.specs.Push.{PushOutcome, moved_past, append_next_of, append_with_loss_of, recovered_of, recover_of, push_of}
use Rattle.window.specs.declared.Window.{Window}
use Rattle.window.specs.declared.push.Packet.{Packet}
use Rattle.views.specs.Lists.{run_of}
use Rattle.views.specs.View.{Seen, lost, given_up, seen_of, seen_at, is_received, entries_from, entries, gap_in, LrsnRight, packet_seen, SeenAfter, RightAfter}
use Rattle.views.proofs.Lists.{entries-length, entries_at, entries-drop}
use Rattle.views.proofs.Gaps.{gap-found, gap-most, gap-append, gap-whole, gap-set-past, gap-set-at, gap-not-before, gap_from}
use Rattle.views.proofs.Pushes.{number_is, next-seen, loss-seen, recovered-seen}

one-received : (p : Packet) (payload : List ℕ) → gap_in (packet_seen p payload ∷ []) ≡ 1
unfolding run_of
one-received p payload = refl

-- a lost entry behind the list: the gap stays
lost-behind : (es : List Seen) (n k f : ℕ) (fs : List Seen) → 0 < n → gap_in (es ++ (replicate n (lost k f) ++ fs)) ≡ gap_in es
unfolding run_of
lost-behind es zero k f fs h = absurd (omega arith)
lost-behind es (suc n) k f fs h =
    by-order (gap_in es) (length es)
    (λ o. gap-append es (replicate (suc n) (lost k f) ++ fs) o)
    (λ o. let m = gap-most es in gap-whole es (replicate (suc n) (lost k f) ++ fs) (omega arith) ∙ omega arith)

module _ (w : Window) (ws bs : List ℕ) (time : ℤ) (p : Packet) (payload : List ℕ) (g : Good w ws) (gb : Bytes w bs) (r : PacketRight p payload) (ht : nat_abs time < 2 ^ 60) (hs : p.stamp < 2 ^ 32) (l : LrsnRight w (entries w ws bs)) where
  abbrev es : List Seen
  es = entries w ws bs

  long : length es ≡ w.held
  long = entries-length w.capacity w.start ws bs 0 w.held

  gap-held : gap_in es ≤ w.held
  gap-held = omega (arith, gap-most es, long)

  -- two places of a window never share a number
  apart : (i j : ℕ) → i ≤ 16384 → j ≤ 16384 → number_in w i ≡ number_in w j → i ≡ j
  apart i j hi hj e = place-one 31 w.seqno0 0 i j (omega arith) (omega arith) (omega arith) (omega arith) e

  -- lrsn past an append, by the place of the packet's number
  moved : (i : ℕ) → i ≤ 16384 → p.number ≡ number_in w i → (gap_in es ≡ i → ⊥) → moved_past w.lrsn p.number ≡ w.lrsn
  moved i hi n ne = rw (ne_eqb w.lrsn p.number (λ e. ne (apart (gap_in es) i (omega (arith, gap-held)) hi (sym l ∙ e ∙ n))))

  moved_on : gap_in es ≡ w.held → p.number ≡ next_of w → moved_past w.lrsn p.number ≡ number_in w (w.held + 1)
  unfolding successor
  moved_on h n =
      let e : w.lrsn ≡ p.number = l ∙ ap (number_in w) h ∙ sym n in
      rw (eq-eqb w.lrsn p.number e) (ap (λ (x : ℕ). sum 31 x 1) n ∙ sum-sum 31 w.seqno0 w.held 1)

  -- the entries after are those of the list, by the answer
  abbrev Then : PushOutcome → Type 0
  Then o = SeenAfter w ws bs time p payload o → RightAfter w o

  next-right : p.number ≡ next_of w → RightAfter w (append_next_of w ws bs time p payload)
  unfolding append_next_of
  next-right n =
      by-test Then (eqb w.held w.capacity) _ _
      (λ t s. l)
      (λ t s.
      rw s
      (by-order (gap_in es) w.held
      (λ h. moved w.held (omega arith) n (omega arith) ∙ l ∙ ap (number_in w) (sym (gap-append es (packet_seen p payload ∷ []) (omega (arith, long)))))
      (λ h.
      let f : gap_in es ≡ w.held = omega (arith, gap-held) in
      let q : gap_in (es ++ (packet_seen p payload ∷ [])) ≡ w.held + 1 = gap-whole es (packet_seen p payload ∷ []) (omega (arith, long)) ∙ omega (arith, long, one-received p payload) in
      moved_on f n ∙ ap (number_in w) (sym q))))
      (next-seen w ws bs time p payload g gb r ht hs)

  -- the packet's place after the gap
  far : p.number ≡ number_in w (w.held + distance 31 p.number (next_of w))
  unfolding sum
  far =
      sym (mod-eq_of_lt r.number)
      ∙ sym (stepped 31 p.number (next_of w))
      ∙ sum-sum 31 w.seqno0 w.held (distance 31 p.number (next_of w))

  loss-right : order 31 p.number (next_of w) ≡ Greater → RightAfter w (append_with_loss_of w ws bs time p payload (distance 31 p.number (next_of w)))
  unfolding append_with_loss_of
  loss-right n =
      let gap = distance 31 p.number (next_of w) in
      let some = (order-after 31 p.number (next_of w) n).0 in
      by-test Then (ltb (room_of w) (gap + 1)) _ _
      (λ t s. l)
      (λ t s.
      let room = ltb-false (room_of w) (gap + 1) t in
      rw s
      (moved (w.held + gap) (omega arith) far (omega (arith, gap-held))
      ∙ l
      ∙ ap (number_in w) (sym (ap gap_in (append_assoc es (replicate gap (lost 2 (nat_abs time))) (packet_seen p payload ∷ [])) ∙ lost-behind es gap 2 (nat_abs time) (packet_seen p payload ∷ []) some))))
      (loss-seen w ws bs time p payload g gb r ht hs)

  recovered-right : (i : ℕ) → i ≡ distance 31 p.number w.seqno0 → i < w.held → words.is_lost (entry_in w ws i) ≡ true → RightAfter w (recovered_of w ws bs time p payload i)
  unfolding recovered_of
  recovered-right i d h u =
      let pk = packet_seen p payload in
      let ws₁ = write_at ws (slot_in w i) (push.received p payload) in
      let bs₁ = with_payload bs (slot_in w i) payload in
      let after = entries_from w.capacity w.start ws₁ bs₁ 0 w.held in
      let s : after ≡ set es i pk = recovered-seen w ws bs time p payload g gb r ht hs i d h ∙ rw (← d) in
      let n : p.number ≡ number_in w i = number_is w ws bs time p payload g gb r ht hs ∙ ap (number_in w) (sym d) in
      let z : 0 + i ≡ i = omega arith in
      let q : i + (w.held - i) ≡ w.held = omega arith in
      let back : drop i after ≡ entries_from w.capacity w.start ws₁ bs₁ i (w.held - i) =
      ap (λ (x : ℕ). drop i (entries_from w.capacity w.start ws₁ bs₁ 0 x)) (sym q)
      ∙ entries-drop w.capacity w.start ws₁ bs₁ i (w.held - i) 0
      ∙ ap (λ (x : ℕ). entries_from w.capacity w.start ws₁ bs₁ x (w.held - i)) z in
      by-test (λ (x : ℕ). x ≡ number_in w (gap_in after)) (eqb w.lrsn p.number) (lrsn_from w ws₁ i) w.lrsn
      (λ t.
      let f : gap_in es ≡ i = apart (gap_in es) i (omega (arith, gap-held)) (omega arith) (sym l ∙ eqb-true w.lrsn p.number t ∙ n) in
      let m : i ≤ gap_in after = rw s (gap-set-at i es pk (omega arith)) in
      ap (number_in w) (gap-found w.capacity w.start ws₁ bs₁ (w.held - i) i ∙ ap (λ (x : List Seen). i + gap_in x) (sym back) ∙ gap_from i after m))
      (λ t.
      let c : gap_in es ≤ i = gap-not-before es i given_up (omega (arith, long)) (ap is_received (entries_at w.capacity w.start ws bs 0 w.held i given_up h ∙ ap (λ (x : ℕ). seen_at ws bs (slot_in w x)) z) ∙ not-received bs (slot_in w i) (entry_in w ws i) u) in
      let ne : gap_in es ≡ i → ⊥ = λ e. eqb-false w.lrsn p.number t (l ∙ ap (number_in w) e ∙ sym n) in
      l ∙ ap (number_in w) (sym (ap gap_in s ∙ gap-set-past es i pk (omega (arith, ne)))))
    where
      not-received : (bs : List ℕ) (s : ℕ) (e : Entry) → words.is_lost e ≡ true → is_received (seen_of bs s e) ≡ false
      not-received bs s (Lost k f) e = refl
      not-received bs s (Received n l m t) e = impossible (sym e)
      not-received bs s GivenUp e = refl

  recover-right : before 31 p.number (next_of w) ≡ true → RightAfter w (recover_of w ws bs time p payload)
  unfolding recover_of
  recover-right b =
      let i = distance 31 p.number w.seqno0 in
      by-test (RightAfter w) (before 31 p.number w.seqno0) _ _
      (λ t. l)
      (λ t. by-test (RightAfter w) (words.is_lost (entry_in w ws i)) _ _ (λ u. recovered-right i refl (within 31 p.number w.seqno0 w.held b t) u) (λ u. l))

  -- lrsn after a push
  pub push-right : RightAfter w (push_of w ws bs time p payload)
  unfolding push_of
  push-right = go (order 31 p.number (next_of w)) refl
    where
      go : (o : Ordering) → order 31 p.number (next_of w) ≡ o → RightAfter w (push.by_order w ws bs time p payload o)
      go Equal q = next-right (distance-zero 31 r.number (sum_below 31 w.seqno0 w.held) (order-equal 31 p.number (next_of w) q))
      go Greater q = loss-right q
      go Less q = recover-right (order-before 31 p.number (next_of w) q)
