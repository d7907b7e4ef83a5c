-- A data packet keeps the ledger: 01, "Window" with refusals 1 to 10. Assumes nothing.
use mathlib.Core.Path.{◌≡◌, ap, sym, ◌∙◌, subst}
use mathlib.Core.Bool.{Bool, true, false}
use mathlib.Core.List.{List, [], ◌∷◌, ◌++◌, map, append-nil}
use Prim.Native.Nat.{ℕ, ◌+◌, ◌-◌, ◌*◌, ◌^◌, ◌<◌, ◌≤◌}
use native.Mathlib.Nat.{mod-eq_of_lt}
use native.Mathlib.Omega.{arith}
use lib.IntN.{ℤ, nat_abs}
use lib.ListN.{length, length-append, length-replicate, set, replicate}
use Rattle.std.specs.Prelude.{Result}
use Rattle.numbers.specs.Circular.{distance, sum}
use Rattle.numbers.proofs.Circle.{stepped, sum-sum, distance-sum}
use Rattle.numbers.proofs.Places.{place-turns}
use Rattle.window.specs.Window as windows
use Rattle.window.specs.Window.{entry_in, with_lrsn}
use Rattle.slots.specs.Words as words
use Rattle.window.specs.Push.{grown}
use Rattle.window.specs.declared.Window.{Window}
use Rattle.window.specs.declared.push.Packet.{Packet}
use Rattle.head.specs.declared.refusal.Refusal.{Refusal}
use Rattle.head.specs.declared.state.Head.{Head}
use Rattle.receiver.specs.Data.{data_call_of}
use Rattle.receiver.specs.declared.data.DataAnswer.{DataAnswer}
use Rattle.views.specs.View as views
use Rattle.views.specs.View.{Seen, entries, LrsnRight, packet_seen}
use Rattle.ledger.specs.Ledger.{Place, lost, received, Ledger, number_of, front_of, next_of, holding, marked, took_in, enter_data, released_bytes}
use Rattle.ledger.specs.Runs.{place_of}
use Rattle.ledger.proofs.Places.{map-append, map-set, map-replicate, marked-one}
use Rattle.ledger.proofs.Owned.{held-append, held-packet, held-gaps, held-marked}
use Rattle.ledger.proofs.Moved.{Stands, Moved, still, window-count, place-number}
use Rattle.ledger.proofs.Moves.{Admitted, got_answer, Said, data-moves}

-- the places before the packet that a gap names: from the next expected to the one before the packet
gap-named : (a n gap : ℕ) → n ≡ sum 31 a gap → 0 < gap → gap < 2 ^ 31 → distance 31 (sum 31 n (2 ^ 31 - 1)) a + 1 ≡ gap
gap-named a n gap e h k =
    let z : gap + (2 ^ 31 - 1) ≡ gap - 1 + 1 * 2 ^ 31 = omega arith in
    let b : sum 31 n (2 ^ 31 - 1) ≡ sum 31 a (gap - 1) =
    ap (λ (x : ℕ). sum 31 x (2 ^ 31 - 1)) e ∙ sum-sum 31 a gap (2 ^ 31 - 1) ∙ ap (sum 31 a) z ∙ place-turns 31 a (gap - 1) 1 in
    let d : distance 31 (sum 31 n (2 ^ 31 - 1)) a ≡ gap - 1 = ap (λ (x : ℕ). distance 31 x a) b ∙ distance-sum 31 a {n = gap - 1} (omega arith) in
    omega arith

module _ (S : ℕ → List ℕ → Type 0) (l : Ledger) (h : Head) (ws bs : List ℕ) (now : ℤ) (p : Packet) (payload : List ℕ) (hs : p.stamp < 2 ^ 32)
    (a : Stands S l h.window (entries h.window ws bs)) (s : S p.number payload) where
  abbrev w : Window
  w = h.window

  abbrev es : List Seen
  es = entries w ws bs

  -- in order
  took : p.number ≡ windows.next_of w → LrsnRight (grown w p 1) (es ++ (packet_seen p payload ∷ []))
      → Moved S l (took_in l p.number payload false) (grown w p 1) (es ++ (packet_seen p payload ∷ [])) []
  took q r =
      let own : S (number_of l (next_of l)) payload =
      subst (λ (x : ℕ). S x payload) (q ∙ place-number a w.held ∙ ap (λ (x : ℕ). number_of l (front_of l + x)) (window-count ws bs a)) s in
      record {
        stands =
            record {
              front = a.front;
              held = map-append place_of es (packet_seen p payload ∷ []) ∙ ap (λ (x : List Place). x ++ (received payload ∷ [])) a.held;
              right = r;
              own_gone = a.own_gone;
              own_held =
                  held-append S l.first l.held (received payload ∷ []) (front_of l) a.own_held (held-packet S l.first (next_of l) payload own);
            };
        handed = sym (append-nil (released_bytes l.gone));
      }

  -- for a place that was lost
  filled : (lrsn : ℕ) → w.held ≤ 8192 → p.number < 2 ^ 31 → distance 31 p.number w.seqno0 < w.held
      → LrsnRight (with_lrsn w lrsn) (set es (distance 31 p.number w.seqno0) (packet_seen p payload))
      → Moved S l (took_in l p.number payload true) (with_lrsn w lrsn) (set es (distance 31 p.number w.seqno0) (packet_seen p payload)) []
  unfolding sum
  filled lrsn m n i r =
      let at = distance 31 p.number w.seqno0 in
      let number : number_of l (front_of l + at) ≡ p.number = sym (place-number a at) ∙ stepped 31 p.number w.seqno0 ∙ mod-eq_of_lt n in
      let one : marked l.first (front_of l) p.number payload l.held ≡ set l.held at (received payload) =
      marked-one l.first p.number payload l.held (front_of l) at (omega (arith, window-count ws bs a)) (omega (arith, window-count ws bs a)) number in
      record {
        stands =
            record {
              front = a.front;
              held = map-set place_of es at (packet_seen p payload) ∙ ap (λ (x : List Place). set x at (received payload)) a.held ∙ sym one;
              right = r;
              own_gone = a.own_gone;
              own_held = held-marked S l.first p.number payload s l.held (front_of l) a.own_held;
            };
        handed = sym (append-nil (released_bytes l.gone));
      }

  -- after a gap
  gapped : (time : ℕ) → p.number < 2 ^ 31 → 0 < distance 31 p.number (windows.next_of w) → distance 31 p.number (windows.next_of w) < 2 ^ 31
      → LrsnRight (grown w p (distance 31 p.number (windows.next_of w) + 1))
      (es ++ replicate (distance 31 p.number (windows.next_of w)) (views.lost 2 time) ++ (packet_seen p payload ∷ []))
      → (named : ℕ) → named + 1 ≡ distance 31 p.number (windows.next_of w)
      → Moved S l (holding l (l.held ++ replicate (named + 1) lost ++ (received payload ∷ []))) (grown w p (distance 31 p.number (windows.next_of w) + 1))
      (es ++ replicate (distance 31 p.number (windows.next_of w)) (views.lost 2 time) ++ (packet_seen p payload ∷ [])) []
  unfolding sum
  gapped time n some under r named e =
      let gap = distance 31 p.number (windows.next_of w) in
      let gaps = l.held ++ replicate (named + 1) lost in
      let long : length gaps ≡ length l.held + (named + 1) = length-append l.held (replicate (named + 1) lost) ∙ ap (λ (x : ℕ). length l.held + x) (length-replicate (named + 1) lost) in
      let number : p.number ≡ number_of l (front_of l + length gaps) =
      sym (mod-eq_of_lt n)
      ∙ sym (stepped 31 p.number (windows.next_of w))
      ∙ sum-sum 31 w.seqno0 w.held gap
      ∙ place-number a (w.held + gap)
      ∙ ap (λ (x : ℕ). number_of l (front_of l + x)) (omega (arith, window-count ws bs a)) in
      record {
        stands =
            record {
              front = a.front;
              held =
                  map-append place_of (es ++ replicate gap (views.lost 2 time)) (packet_seen p payload ∷ [])
                  ∙ ap (λ (x : List Place). x ++ (received payload ∷ []))
                  (map-append place_of es (replicate gap (views.lost 2 time))
                  ∙ ap (λ (x : List Place). x ++ map place_of (replicate gap (views.lost 2 time))) a.held
                  ∙ ap (λ (x : List Place). l.held ++ x) (map-replicate place_of gap (views.lost 2 time) ∙ ap (λ (x : ℕ). replicate x lost) (sym e)));
              right = r;
              own_gone = a.own_gone;
              own_held =
                  held-append S l.first gaps (received payload ∷ []) (front_of l)
                  (held-append S l.first l.held (replicate (named + 1) lost) (front_of l) a.own_held (held-gaps S l.first (named + 1) (front_of l + length l.held)))
                  (held-packet S l.first (front_of l + length gaps) payload (subst (λ (x : ℕ). S x payload) number s));
            };
        handed = sym (append-nil (released_bytes l.gone));
      }

  beyond : Admitted h ws bs now p payload → p.number ≡ sum 31 (windows.next_of w) (distance 31 p.number (windows.next_of w))
  unfolding sum
  beyond d = sym (mod-eq_of_lt d.right.number) ∙ sym (stepped 31 p.number (windows.next_of w))

  -- the call, by its answer
  abbrev pub Kept : Window → List Seen → Result DataAnswer Refusal → Type 0
  Kept v fs answer = Moved S l (enter_data l p.number payload answer) v fs []

  pub data-stands : Said h ws bs now p payload hs a.right Kept (data_call_of h ws bs now p payload)
  data-stands =
      data-moves h ws bs now p payload hs a.right Kept
      (λ e q x. still a)
      (λ d q c. still a)
      (λ d x y c. still a)
      (λ d q b. still a)
      (λ d i n. still a)
      next
      (λ d some room r.
      let gap = distance 31 p.number (windows.next_of w) in
      let n = gap-named (windows.next_of w) p.number gap (beyond d) some (omega (arith, d.good.ranges.most)) in
      gapped (nat_abs now) d.right.number some (omega (arith, d.good.ranges.most)) r (distance 31 (sum 31 p.number (2 ^ 31 - 1)) (windows.next_of w)) n)
      recovered
    where
      next : Admitted h ws bs now p payload → (light : Bool) (lrsn : ℕ) → p.number ≡ windows.next_of w
          → LrsnRight (grown w p 1) (es ++ (packet_seen p payload ∷ [])) → Kept (grown w p 1) (es ++ (packet_seen p payload ∷ [])) (got_answer light lrsn false)
      next d true lrsn q r = took q r
      next d false lrsn q r = took q r

      recovered : Admitted h ws bs now p payload → (light : Bool) (lrsn : ℕ) → distance 31 p.number w.seqno0 < w.held
          → words.is_lost (entry_in w ws (distance 31 p.number w.seqno0)) ≡ true
          → LrsnRight (with_lrsn w lrsn) (set es (distance 31 p.number w.seqno0) (packet_seen p payload))
          → Kept (with_lrsn w lrsn) (set es (distance 31 p.number w.seqno0) (packet_seen p payload)) (got_answer light lrsn true)
      recovered d true lrsn i n r = filled lrsn (omega (arith, d.good.ranges.holds, d.good.ranges.most)) d.right.number i r
      recovered d false lrsn i n r = filled lrsn (omega (arith, d.good.ranges.holds, d.good.ranges.most)) d.right.number i r
