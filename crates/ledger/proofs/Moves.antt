-- What a data packet does to the window as a list of entries, case by case: 01, "Window" and refusals 1 to 10. Assumes nothing.
use mathlib.Core.Path.{◌≡◌, refl, sym, subst}
use mathlib.Core.Bool.{Bool, true, false, cond}
use mathlib.Core.List.{List, [], ◌∷◌, ◌++◌}
use Prim.Native.Nat.{ℕ, ◌+◌, ◌-◌, ◌^◌, ◌<◌, ◌≤◌}
use native.Mathlib.Omega.{arith}
use borrow.Author.Tests.{eqb-true, ltb-true, ltb-false}
use lib.Dec.{eqb, ltb, lit≤}
use lib.IntN.{ℤ, nat_abs}
use lib.ListN.{length, set, replicate}
use Rattle.numbers.specs.Circular.{distance, before, sum}
use Rattle.numbers.specs.Order.{order}
use Rattle.std.specs.Prelude.{Option, Some, None, Result, Ok, Err}
use Rattle.std.specs.declared.cmp.Ordering.{Ordering}
use Rattle.std.specs.declared.cmp.Ordering.TheVariants.{Less, Equal, Greater}
use Rattle.numbers.proofs.Flags.{by-test}
use Rattle.numbers.proofs.Circle.{sum_below, distance-zero, order-before, order-equal, order-after, within}
use Rattle.numbers.proofs.Signs.{reading-size}
use Rattle.acks.specs.History.{light_ack_of}
use Rattle.acks.specs.declared.history.History.{History}
use Rattle.slots.specs.Words as words
use Rattle.slots.specs.Words.{write_at}
use Rattle.slots.specs.Ring.{with_payload}
use Rattle.window.specs.Window.{slot_in, entry_in, next_of, with_lrsn, room_of}
use Rattle.window.specs.Ready.{Good, PacketRight}
use Rattle.window.specs.Push as push
use Rattle.window.specs.Push.{PushOutcome, push_ended, grown, moved_past, with_lost, recovered_lrsn, append_next_of, append_with_loss_of, recovered_of, recover_of, push_of}
use Rattle.window.specs.declared.Window.{Window}
use Rattle.window.specs.declared.push.Packet.{Packet}
use Rattle.window.specs.declared.push.PushAnswer.TheVariants as pushes
use Rattle.window.specs.declared.push.PushRefusal.TheVariants as push_refusals
use Rattle.head.specs.Rules.{number_of, first_refusal, push_rules}
use Rattle.head.specs.Head.{head_ok}
use Rattle.head.specs.declared.state.Head.{Head}
use Rattle.head.specs.declared.refusal.Refusal.{Refusal}
use Rattle.head.specs.declared.refusal.Refusal.TheVariants as refusals
use Rattle.head.proofs.Gates.{by-refusal}
use Rattle.head.proofs.Ready.{push-ready}
use Rattle.receiver.specs.Data.{DataOutcome, data_ended, light_or_got, acked_of, got_of, taken_of, data_call_of}
use Rattle.receiver.specs.Data as receiving
use Rattle.receiver.specs.declared.data.DataAnswer.{DataAnswer}
use Rattle.receiver.specs.declared.data.DataAnswer.TheVariants as datas
use Rattle.views.specs.View.{Seen, lost, entries, LrsnRight, packet_seen, SeenAfter, RightAfter}
use Rattle.views.proofs.Pushes.{push-seen}
use Rattle.views.proofs.PushLrsn.{push-right}
use Rattle.paper.proofs.Reach.{refusal-under}

-- what a packet has that no test of 1 to 6 refuses
pub record Admitted (h : Head) (ws bs : List ℕ) (time : ℤ) (p : Packet) (payload : List ℕ) : Type 0 where
  pub tests : first_refusal (push_rules (head_ok h) h.window.capacity (length ws) (length bs) time h.latest p (length payload)) ≡ Ok tt
  pub good : Good h.window ws
  pub right : PacketRight p payload

-- a refusal has a number, and it is not 0
pub number-some : (e : Refusal) → 0 < number_of e
number-some refusals.HeadBad = omega arith
number-some refusals.AreaShort = omega arith
number-some refusals.ClockRange = omega arith
number-some refusals.ClockBack = omega arith
number-some refusals.BadNumber = omega arith
number-some refusals.PayloadLong = omega arith
number-some refusals.BufferFull = omega arith
number-some (refusals.PacketTooEarly room need) = omega arith
number-some refusals.PacketTooLate = omega arith
number-some refusals.DiscardedDuplicate = omega arith
number-some refusals.OutShort = omega arith
number-some refusals.ListShort = omega arith
number-some refusals.FasnWorn = omega arith
number-some refusals.DriftRange = omega arith
number-some refusals.BadSetting = omega arith

-- a packet that came, with a light ACK or without
abbrev pub got_answer : (light : Bool) → ℕ → Bool → Result DataAnswer Refusal
got_answer true lrsn recovered = Ok (datas.Light lrsn recovered)
got_answer false lrsn recovered = Ok (datas.Got lrsn recovered)

-- a push, case by case
module _ (w : Window) (ws bs : List ℕ) (time : ℤ) (p : Packet) (payload : List ℕ) where
  abbrev index : ℕ
  index = distance 31 p.number w.seqno0

  abbrev gap : ℕ
  gap = distance 31 p.number (next_of w)

  abbrev appended : PushOutcome
  appended =
      push_ended
      (Ok (record { window = grown w p 1; answer = pushes.Got (moved_past w.lrsn p.number) false }))
      (write_at ws (slot_in w w.held) (push.received p payload))
      (with_payload bs (slot_in w w.held) payload)

  abbrev appended_with_loss : PushOutcome
  appended_with_loss =
      push_ended
      (Ok (record { window = grown w p (gap + 1); answer = pushes.Loss (next_of w) (sum 31 p.number (2 ^ 31 - 1)) }))
      (write_at (with_lost w.capacity w.start ws time w.held gap) (slot_in w (w.held + gap)) (push.received p payload))
      (with_payload bs (slot_in w (w.held + gap)) payload)

  pub push-cases : (P : PushOutcome → Type 0)
      → (order 31 p.number (next_of w) ≡ Equal → w.held ≡ w.capacity → P (push.refused w ws bs time p payload push_refusals.BufferFull))
      → (order 31 p.number (next_of w) ≡ Equal → P appended)
      → (order 31 p.number (next_of w) ≡ Greater → room_of w < gap + 1 → P (push.refused w ws bs time p payload (push_refusals.PacketTooEarly (room_of w) (gap + 1))))
      → (order 31 p.number (next_of w) ≡ Greater → gap + 1 ≤ room_of w → P appended_with_loss)
      → (order 31 p.number (next_of w) ≡ Less → before 31 p.number w.seqno0 ≡ true → P (push.refused w ws bs time p payload push_refusals.PacketTooLate))
      → (index < w.held → words.is_lost (entry_in w ws index) ≡ true → P (recovered_of w ws bs time p payload index))
      → (index < w.held → words.is_lost (entry_in w ws index) ≡ false → P (push.refused w ws bs time p payload push_refusals.DiscardedDuplicate))
      → P (push_of w ws bs time p payload)
  unfolding push_of append_next_of append_with_loss_of recover_of
  push-cases P full next early loss late recovered duplicate = go (order 31 p.number (next_of w)) refl
    where
      go : (o : Ordering) → order 31 p.number (next_of w) ≡ o → P (push.by_order w ws bs time p payload o)
      go Equal q = by-test P (eqb w.held w.capacity) _ _ (λ t. full q (eqb-true w.held w.capacity t)) (λ t. next q)
      go Greater q = by-test P (ltb (room_of w) (gap + 1)) _ _ (λ t. early q (ltb-true (room_of w) (gap + 1) t)) (λ t. loss q (ltb-false (room_of w) (gap + 1) t))
      go Less q =
          by-test P (before 31 p.number w.seqno0) _ _
          (late q)
          (λ t.
          let h = within 31 p.number w.seqno0 w.held (order-before 31 p.number (next_of w) q) t in
          by-test P (words.is_lost (entry_in w ws index)) _ _ (recovered h) (duplicate h))

-- a data packet, case by case: the window after it, its entries, and the answer
module _ (h : Head) (ws bs : List ℕ) (now : ℤ) (p : Packet) (payload : List ℕ) (hs : p.stamp < 2 ^ 32) (right : LrsnRight h.window (entries h.window ws bs)) where
  abbrev w : Window
  w = h.window

  abbrev es : List Seen
  es = entries w ws bs

  abbrev at : ℕ
  at = distance 31 p.number w.seqno0

  abbrev missing : ℕ
  missing = distance 31 p.number (next_of w)

  abbrev pub Said : (Window → List Seen → Result DataAnswer Refusal → Type 0) → DataOutcome → Type 0
  Said P o = P o.handled.head.window (entries o.handled.head.window o.slots o.payloads) o.handled.answer

  -- the window's outcome as the call's
  abbrev made : PushOutcome → DataOutcome
  made o = data_ended (receiving.after_push h o.pushed now p.number (length payload)) o.slots o.payloads

  -- the head that a light ACK is asked of
  abbrev come : Bool → Window → Head
  come recovered v = receiving.placed_of (cond recovered h (receiving.rated_of h now p.number (length payload))) v now

  light-or-not : (P : Window → List Seen → Result DataAnswer Refusal → Type 0) (xs ys : List ℕ) (g : Head) (lrsn : ℕ) (recovered : Bool) (y : Option History)
      → ((light : Bool) → P g.window (entries g.window xs ys) (got_answer light lrsn recovered))
      → Said P (data_ended (light_or_got g lrsn recovered y) xs ys)
  light-or-not P xs ys g lrsn recovered (Some y) f = f true
  light-or-not P xs ys g lrsn recovered None f = f false

  -- at the next expected number
  same : Admitted h ws bs now p payload → order 31 p.number (next_of w) ≡ Equal → p.number ≡ next_of w
  same d q = distance-zero 31 d.right.number (sum_below 31 w.seqno0 w.held) (order-equal 31 p.number (next_of w) q)

  pub data-moves : (P : Window → List Seen → Result DataAnswer Refusal → Type 0)
      → ((e : Refusal) → first_refusal (push_rules (head_ok h) w.capacity (length ws) (length bs) now h.latest p (length payload)) ≡ Err e → number_of e ≤ 6 → P w es (Err e))
      → (Admitted h ws bs now p payload → p.number ≡ next_of w → w.held ≡ w.capacity → P w es (Err refusals.BufferFull))
      → (Admitted h ws bs now p payload → 0 < missing → missing < 2 ^ 30 → room_of w < missing + 1 → P w es (Err (refusals.PacketTooEarly (room_of w) (missing + 1))))
      → (Admitted h ws bs now p payload → before 31 p.number (next_of w) ≡ true → before 31 p.number w.seqno0 ≡ true → P w es (Err refusals.PacketTooLate))
      → (Admitted h ws bs now p payload → at < w.held → words.is_lost (entry_in w ws at) ≡ false → P w es (Err refusals.DiscardedDuplicate))
      → (Admitted h ws bs now p payload → (light : Bool) (lrsn : ℕ) → p.number ≡ next_of w → LrsnRight (grown w p 1) (es ++ (packet_seen p payload ∷ []))
      → P (grown w p 1) (es ++ (packet_seen p payload ∷ [])) (got_answer light lrsn false))
      → (Admitted h ws bs now p payload → 0 < missing → missing + 1 ≤ room_of w
      → LrsnRight (grown w p (missing + 1)) (es ++ replicate missing (lost 2 (nat_abs now)) ++ (packet_seen p payload ∷ []))
      → P (grown w p (missing + 1)) (es ++ replicate missing (lost 2 (nat_abs now)) ++ (packet_seen p payload ∷ [])) (Ok (datas.Loss (next_of w) (sum 31 p.number (2 ^ 31 - 1)))))
      → (Admitted h ws bs now p payload → (light : Bool) (lrsn : ℕ) → at < w.held → words.is_lost (entry_in w ws at) ≡ true → LrsnRight (with_lrsn w lrsn) (set es at (packet_seen p payload))
      → P (with_lrsn w lrsn) (set es at (packet_seen p payload)) (got_answer light lrsn true))
      → Said P (data_call_of h ws bs now p payload)
  unfolding data_call_of taken_of got_of acked_of recovered_of
  data-moves P refused full early late duplicate next loss recovered =
      by-refusal (Said P) (first_refusal (push_rules (head_ok h) w.capacity (length ws) (length bs) now h.latest p (length payload))) _ _
      (λ x z.
      let r = push-ready h ws bs now p payload (sym z) in
      let d : Admitted h ws bs now p payload = record { tests = z; good = r.good; right = r.right } in
      let t = (reading-size now r.reading).1 in
      push-cases w ws bs now p payload (λ (o : PushOutcome). SeenAfter w ws bs now p payload o → RightAfter w o → Said P (made o))
      (λ q c s v. full d (same d q) c)
      (λ q s v.
      let lrsn = moved_past w.lrsn p.number in
      let k = come false (grown w p 1) in
      light-or-not P (write_at ws (slot_in w w.held) (push.received p payload)) (with_payload bs (slot_in w w.held) payload) k lrsn false (light_ack_of k.history lrsn)
      (λ light. rw s (next d light lrsn (same d q) (subst (LrsnRight (grown w p 1)) s v))))
      (λ q c s v. early d (order-after 31 p.number (next_of w) q).0 (order-after 31 p.number (next_of w) q).1 c)
      (λ q m s v. rw s (loss d (order-after 31 p.number (next_of w) q).0 m (subst (LrsnRight (grown w p (missing + 1))) s v)))
      (λ q b s v. late d (order-before 31 p.number (next_of w) q) b)
      (λ i l s u.
      let ws₁ = write_at ws (slot_in w at) (push.received p payload) in
      let v = recovered_lrsn w p.number ws₁ at in
      let k = come true (with_lrsn w v) in
      light-or-not P ws₁ (with_payload bs (slot_in w at) payload) k v true (light_ack_of k.history v)
      (λ light. rw s (recovered d light v i l (subst (LrsnRight (with_lrsn w v)) s u))))
      (λ i l s u. duplicate d i l)
      (push-seen w ws bs now p payload d.good r.payloads d.right t hs)
      (push-right w ws bs now p payload d.good r.payloads d.right t hs right))
      (λ e z.
      refused e z
      (refusal-under 6 (push_rules (head_ok h) w.capacity (length ws) (length bs) now h.latest p (length payload)) (lit≤ tt, (lit≤ tt, (lit≤ tt, (lit≤ tt, (lit≤ tt, (lit≤ tt, (lit≤ tt, (lit≤ tt, (lit≤ tt, tt))))))))) z))
