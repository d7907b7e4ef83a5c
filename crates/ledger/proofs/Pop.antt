-- A pop keeps the ledger: 01, "Window", from "Pop" on, with refusals 1 to 4 and 11. Assumes nothing.
use mathlib.Core.Path.{◌≡◌, refl, ap, sym, ◌∙◌, subst}
use mathlib.Core.Bool.{Bool, true, false, ◌&&◌}
use mathlib.Core.List.{List, [], ◌++◌, map}
use Prim.Native.Nat.{ℕ, ◌<◌, ◌≤◌}
use native.Mathlib.Omega.{arith}
use lib.Dec.{ltb, lit≤}
use lib.IntN.{ℤ}
use lib.ListN.{length, take, drop}
use lib.Seq.{take_at}
use lib.Signed.{lt_z}
use Rattle.std.specs.Prelude.{Option, Some, None, Result, Ok, Err}
use Rattle.numbers.specs.Circular.{distance}
use Rattle.numbers.proofs.Circle.{sum-zero, distance-sum}
use Rattle.numbers.proofs.Flags.{by_bool, by-test}
use Rattle.slots.specs.Words as words
use Rattle.window.specs.Window.{number_in, entry_in}
use Rattle.window.specs.Ready.{Good}
use Rattle.window.specs.declared.Window.{Window}
use Rattle.window_pop.specs.Pop as popping
use Rattle.window_pop.specs.Pop.{PopOutcome, window_after, answered, discard_front, pop_of}
use Rattle.window_pop.specs.Ready.{PopReady}
use Rattle.window_pop.specs.declared.pop.Message.{Message}
use Rattle.window_pop.specs.declared.pop.Popped.{Popped}
use Rattle.window_pop.specs.declared.pop.OutShort.{OutShort}
use Rattle.window_pop.specs.declared.pop.PopAnswer.{PopAnswer}
use Rattle.window_pop.specs.declared.pop.PopAnswer.TheVariants as pops
use Rattle.window_pop.proofs.Fills.{front-held}
use Rattle.window_pop.proofs.PopLaws.{pop-cases, pop-refused}
use Rattle.head.specs.Rules.{first_refusal, pop_rules}
use Rattle.head.specs.Head.{head_ok}
use Rattle.head.specs.declared.state.Head.{Head}
use Rattle.head.specs.declared.refusal.Refusal.TheVariants as refusals
use Rattle.head.proofs.Gates.{by-refusal}
use Rattle.head.proofs.Ready.{pop-ready}
use Rattle.receiver.specs.Message.{MessageOutcome, message_ended, after_pop, answer_of, taken_of, pop_call_of}
use Rattle.views.specs.View as views
use Rattle.views.specs.View.{Seen, entries, LrsnRight, joined}
use Rattle.views.proofs.Pops.{pop-seen, pop-right, pop-handed, pop-short}
use Rattle.paper.proofs.Reach.{refusal-under}
use Rattle.ledger.specs.Ledger.{Place, Fate, released, discarded, bytes_of, Ledger, front_of, leave, enter_pop, received_run, released_bytes}
use Rattle.ledger.specs.Seen.{pop_bytes}
use Rattle.ledger.specs.Runs.{Desk, place_of}
use Rattle.ledger.specs.Claims.{Tells}
use Rattle.ledger.proofs.Places.{map-take, run-gap, released-append, released-joined, discarded-none}
use Rattle.ledger.proofs.Owned.{gone-released, gone-discarded}
use Rattle.ledger.proofs.Moved.{Stands, Moved, still, window-count, place-number, left-stands}

-- how many places an answer of the window takes off the front
abbrev takes : Result PopAnswer OutShort → ℕ
takes (Ok pops.Nothing) = 0
takes (Ok (pops.Message time bytes packets)) = packets
takes (Ok (pops.Late first end delay)) = distance 31 end first
takes (Err e) = 0

module _ (S : ℕ → List ℕ → Type 0) (l : Ledger) (h : Head) (ws bs out : List ℕ) (now : ℤ) (a : Stands S l h.window (entries h.window ws bs)) where
  abbrev w : Window
  w = h.window

  abbrev es : List Seen
  es = entries w ws bs

  abbrev o : PopOutcome
  o = pop_of h.clock h.latency h.dropping w ws now bs out

  -- the window after it, and what it answers
  abbrev v : Window
  v = window_after w o.popped

  abbrev said : Result PopAnswer OutShort
  said = answered o.popped

  -- what the call leaves
  abbrev pub Kept : MessageOutcome → Type 0
  Kept g =
      Moved S l (enter_pop l g.given.answer) g.given.head.window (entries g.given.head.window ws bs) (pop_bytes g.given.answer g.output)

  abbrev pub Told : Desk → MessageOutcome → Type 0
  Told k g = Tells l k g.given.answer g.output

  -- with dropping off there is no late drop
  abbrev Calm : Result PopAnswer OutShort → Type 0
  Calm (Ok pops.Nothing) = Unit
  Calm (Ok (pops.Message time bytes packets)) = Unit
  Calm (Ok (pops.Late first end delay)) = ⊥
  Calm (Err e) = Unit

  abbrev CalmIn : PopOutcome → Type 0
  CalmIn x = Calm (answered x.popped)

  calm-message : (stamp : ℕ) (m : Option Message) → CalmIn (popping.by_message h.clock h.latency false w ws now bs out stamp m)
  unfolding popping.released_of popping.late_of
  calm-message stamp (Some m) = by-test CalmIn (ltb (length out) m.bytes) _ _ (λ y. tt) (λ y. tt)
  calm-message stamp None = tt

  calm : CalmIn (pop_of h.clock h.latency false w ws now bs out)
  unfolding pop_of popping.front_of popping.late_of
  calm =
      let stamp = words.stamp_in (entry_in w ws 0) in
      by-test CalmIn (ltb 0 w.held && words.is_received (entry_in w ws 0)) _ _
      (λ t.
      by-test CalmIn (lt_z now (popping.due_of h.clock.base h.latency stamp)) _ _
      (λ u. tt)
      (λ u. calm-message stamp (popping.message_of w ws)))
      (λ t. tt)

  -- on refusal 11 the output stays
  output-stays : o.popped ≡ Err (record {}) → o.output ≡ out
  output-stays e = ap (λ (x : PopOutcome). x.output) (pop-refused h.clock h.latency h.dropping w ws now bs out e)

  dropping : (first end : ℕ) (delay : ℤ) → said ≡ Ok (pops.Late first end delay) → h.dropping ≡ true
  dropping first end delay e =
      by_bool h.dropping
      (λ t. t)
      (λ t. absurd (subst Calm (subst (λ (x : Bool). answered (pop_of h.clock h.latency x w ws now bs out).popped ≡ Ok (pops.Late first end delay)) t e) calm))

  abbrev Front : PopOutcome → Type 0
  Front x = ((window_after w x.popped).seqno0 ≡ number_in w (takes (answered x.popped))) × (takes (answered x.popped) ≤ w.held)

  front : Good w ws → Front o
  unfolding discard_front
  front g =
      pop-cases h.clock h.latency h.dropping w ws now bs out Front
      (sym (sum-zero 31 g.ranges.seqno0), omega arith)
      (λ m e long. (sym (sum-zero 31 g.ranges.seqno0), omega arith))
      (λ m e fits. (refl, front-held w ws e))
      (λ n stamp some held.
      let d : distance 31 (number_in w n) w.seqno0 ≡ n = distance-sum 31 w.seqno0 {n = n} (omega (arith, g.ranges.holds, g.ranges.most)) in
      (ap (number_in w) (sym d), omega arith))

  module _ (d : PopReady h.clock h.latency w ws bs now) where
    seen : entries v ws bs ≡ views.after_pop es said
    seen = pop-seen h.clock h.latency h.dropping w ws now bs out d.good

    right : LrsnRight v (entries v ws bs)
    right = pop-right h.clock h.latency h.dropping w ws now bs out d.good a.right

    -- nothing leaves
    stays : said ≡ Ok pops.Nothing → Moved S l l v (entries v ws bs) []
    stays e =
        still
        (record {
          front = (front d.good).0 ∙ ap (λ (x : Result PopAnswer OutShort). number_in w (takes x)) e ∙ sum-zero 31 d.good.ranges.seqno0 ∙ a.front;
          held = ap (map place_of) (seen ∙ ap (views.after_pop es) e) ∙ a.held;
          right = right;
          own_gone = a.own_gone;
          own_held = a.own_held;
        })

    -- a message: its places are all received, and the output has their bytes
    given : (time : ℤ) (bytes packets : ℕ) → said ≡ Ok (pops.Message time bytes packets)
        → Moved S l (leave l packets (λ x. released (bytes_of x))) v (entries v ws bs) (take bytes o.output)
    given time bytes packets e =
        let f : Place → Fate = λ x. released (bytes_of x) in
        let m = pop-handed h.clock h.latency h.dropping w ws now bs out d.good d.payloads time bytes packets e in
        let some : packets ≤ length l.held = omega (arith, m.held, window-count ws bs a) in
        let run : packets ≤ received_run l.held = subst (λ (x : List Place). packets ≤ received_run x) a.held (subst (λ (x : ℕ). packets ≤ x) (sym (run-gap es)) m.whole) in
        let own = gone-released S l.first packets (front_of l) l.held run a.own_held in
        let laid : take bytes o.output ≡ joined (take packets es) =
        ap (take bytes) m.output ∙ take_at (joined (take packets es)) (drop bytes out) bytes (sym m.long) in
        let places : take packets l.held ≡ map place_of (take packets es) = ap (take packets) (sym a.held) ∙ sym (map-take place_of packets es) in
        let bytes-of : released_bytes (map f (take packets l.held)) ≡ take bytes o.output =
        ap (λ (x : List Place). released_bytes (map f x)) places ∙ released-joined (take packets es) ∙ sym laid in
        record {
          stands =
              left-stands S l w es a packets f some v (entries v ws bs)
              ((front d.good).0 ∙ ap (λ (x : Result PopAnswer OutShort). number_in w (takes x)) e)
              (seen ∙ ap (views.after_pop es) e)
              right
              own;
          handed = released-append l.gone (map f (take packets l.held)) ∙ ap (λ (x : List ℕ). released_bytes l.gone ++ x) bytes-of;
        }

    -- a late drop
    dropped : (first end : ℕ) (delay : ℤ) → said ≡ Ok (pops.Late first end delay)
        → Moved S l (leave l (distance 31 end first) (λ x. discarded)) v (entries v ws bs) []
    dropped first end delay e =
        let n = distance 31 end first in
        let f : Place → Fate = λ x. discarded in
        let some : n ≤ length l.held = subst (λ (x : ℕ). n ≤ x) (window-count ws bs a) (subst (λ (x : Result PopAnswer OutShort). takes x ≤ w.held) e (front d.good).1) in
        record {
          stands =
              left-stands S l w es a n f some v (entries v ws bs)
              ((front d.good).0 ∙ ap (λ (x : Result PopAnswer OutShort). number_in w (takes x)) e)
              (seen ∙ ap (views.after_pop es) e)
              right
              (gone-discarded S l.first (front_of l) (take n l.held));
          handed = released-append l.gone (map f (take n l.held)) ∙ ap (λ (x : List ℕ). released_bytes l.gone ++ x) (discarded-none (take n l.held));
        }

    -- by the answer
    abbrev Left : Result PopAnswer OutShort → Window → Type 0
    Left (Ok x) u = Moved S l (enter_pop l (Ok x)) u (entries u ws bs) (pop_bytes (Ok x) o.output)
    Left (Err e) u = Moved S l l w es []

    left : (x : Result PopAnswer OutShort) → said ≡ x → Left x v
    left (Ok pops.Nothing) e = stays e
    left (Ok (pops.Message time bytes packets)) e = given time bytes packets e
    left (Ok (pops.Late first end delay)) e = dropped first end delay e
    left (Err f) e = still a

    kept-by : (r : Result Popped OutShort) → Left (answered r) (window_after w r) → Kept (message_ended (after_pop h r now) o.output)
    kept-by (Ok r) m = m
    kept-by (Err f) m = m

    -- what the answer says of the places that leave
    abbrev Named : Result PopAnswer OutShort → Type 0
    Named (Ok pops.Nothing) = Unit
    Named (Ok (pops.Message time bytes packets)) = Unit
    Named (Ok (pops.Late first end delay)) = (0 < distance 31 end first) × (first ≡ w.seqno0) × (end ≡ number_in w (distance 31 end first))
    Named (Err e) = Unit

    named : Named said
    unfolding discard_front
    named =
        pop-cases h.clock h.latency h.dropping w ws now bs out (λ (x : PopOutcome). Named (answered x.popped))
        tt
        (λ m e long. tt)
        (λ m e fits. tt)
        (λ n stamp some held.
        let e : distance 31 (number_in w n) w.seqno0 ≡ n = distance-sum 31 w.seqno0 {n = n} (omega (arith, d.good.ranges.holds, d.good.ranges.most)) in
        (omega arith, refl, ap (number_in w) (sym e)))

    told : (k : Desk) → h.dropping ≡ k.dropping → (x : PopAnswer) → said ≡ Ok x → Tells l k (Ok x) o.output
    told k y pops.Nothing e = tt
    told k y (pops.Message time bytes packets) e =
        let m = pop-handed h.clock h.latency h.dropping w ws now bs out d.good d.payloads time bytes packets e in
        let f : Place → Fate = λ x. released (bytes_of x) in
        let run : packets ≤ received_run l.held = subst (λ (x : List Place). packets ≤ received_run x) a.held (subst (λ (x : ℕ). packets ≤ x) (sym (run-gap es)) m.whole) in
        let places : take packets l.held ≡ map place_of (take packets es) = ap (take packets) (sym a.held) ∙ sym (map-take place_of packets es) in
        let laid : take bytes o.output ≡ joined (take packets es) =
        ap (take bytes) m.output ∙ take_at (joined (take packets es)) (drop bytes out) bytes (sym m.long) in
        let same : released_bytes (map f (take packets l.held)) ≡ joined (take packets es) = ap (λ (x : List Place). released_bytes (map f x)) places ∙ released-joined (take packets es) in
        (m.some, run, laid ∙ sym same, m.long ∙ ap length (sym same))
    told k y (pops.Late first end delay) e =
        let n = subst Named e named in
        let some : distance 31 end first ≤ length l.held = subst (λ (x : ℕ). distance 31 end first ≤ x) (window-count ws bs a) (subst (λ (x : Result PopAnswer OutShort). takes x ≤ w.held) e (front d.good).1) in
        (sym y ∙ dropping first end delay e, n.0, some, n.1 ∙ a.front, n.2 ∙ place-number a (distance 31 end first))

    short : (k : Desk) → o.popped ≡ Err (record {}) → Tells l k (Err refusals.OutShort) o.output
    short k e =
        let q = pop-short h.clock h.latency h.dropping w ws now bs out d.good d.payloads e in
        let m = q.message.packets in
        let f : Place → Fate = λ x. released (bytes_of x) in
        let run : m ≤ received_run l.held = subst (λ (x : List Place). m ≤ received_run x) a.held (subst (λ (x : ℕ). m ≤ x) (sym (run-gap es)) q.whole) in
        let places : take m l.held ≡ map place_of (take m es) = ap (take m) (sym a.held) ∙ sym (map-take place_of m es) in
        let same : released_bytes (map f (take m l.held)) ≡ joined (take m es) = ap (λ (x : List Place). released_bytes (map f x)) places ∙ released-joined (take m es) in
        let long : length out < length (released_bytes (map f (take m l.held))) = omega (arith, q.long, ap length same) in
        let stays : o.output ≡ out = output-stays e in
        λ z. (m, q.some, run, subst (λ (x : List ℕ). length x < length (released_bytes (map f (take m l.held)))) (sym stays) long)

    tells : (k : Desk) → h.dropping ≡ k.dropping → (r : Result Popped OutShort) → o.popped ≡ r → Tells l k (answer_of r) o.output
    tells k y (Ok r) e = told k y r.answer (ap answered e)
    tells k y (Err f) e = short k e

  -- the call
  pub pop-stands : Kept (pop_call_of h ws bs out now)
  unfolding pop_call_of taken_of
  pop-stands =
      by-refusal Kept (first_refusal (pop_rules (head_ok h) w.capacity (length ws) (length bs) now h.latest)) _ _
      (λ x z. let d = pop-ready h now ws bs (sym z) in kept-by d o.popped (left d said refl))
      (λ e z. still a)

  pub pop-tells : (k : Desk) → h.dropping ≡ k.dropping → Told k (pop_call_of h ws bs out now)
  unfolding pop_call_of taken_of
  pop-tells k y =
      by-refusal (Told k) (first_refusal (pop_rules (head_ok h) w.capacity (length ws) (length bs) now h.latest)) _ _
      (λ x z. tells (pop-ready h now ws bs (sym z)) k y o.popped refl)
      (λ e z q.
      absurd
      (omega (arith, q, refusal-under 4 (pop_rules (head_ok h) w.capacity (length ws) (length bs) now h.latest) (lit≤ tt, (lit≤ tt, (lit≤ tt, (lit≤ tt, (lit≤ tt, tt))))) z)))
