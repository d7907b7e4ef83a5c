-- What a pop does to the list of entries, which bytes a message has, and that lrsn stays right. Assumes nothing.
use mathlib.Core.Path.{◌≡◌, refl, ap, sym, ◌∙◌, subst}
use mathlib.Core.Bool.{Bool, true, cond}
use mathlib.Core.List.{List, [], ◌∷◌, ◌++◌, append_assoc, append-nil}
use Prim.Native.Nat.{ℕ, zero, suc, ◌+◌, ◌-◌, ◌*◌, ◌<◌, ◌≤◌}
use native.Mathlib.Omega.{arith}
use lib.IntN.{ℤ}
use lib.ListN.{length, get_or, take, drop, length-append, length-drop}
use lib.Seq.{paste, take-length, take-suc, take_at, drop-append-add, drop-drop, length-take-le}
use Rattle.std.specs.Prelude.{Option, Some, None, Ok, Err, ⊤}
use Rattle.numbers.proofs.Flags.{impossible, by-test}
use Rattle.numbers.proofs.Circle.{distance-sum, sum-sum}
use Rattle.clock.specs.declared.time.SynchronizedRemoteClock.{SynchronizedRemoteClock}
use Rattle.slots.specs.Words.{entry_at, length_in, is_last, in_message, message_in, is_first}
use Rattle.slots.specs.Ring.{slot_of, payload_at}
use Rattle.slots.specs.declared.entry.Entry.{Entry}
use Rattle.slots.specs.declared.entry.Entry.TheVariants.{Lost, Received, GivenUp}
use Rattle.slots.proofs.Laws.{length-read, slot_lt}
use Rattle.window.specs.Window.{slot_in, entry_in, number_in, cut, first_gap}
use Rattle.window.specs.Ready.{Good, Bytes}
use Rattle.window.specs.declared.Window.{Window}
use Rattle.window_pop.specs.Pop.{PopOutcome, window_after, answered, Filled, run_from, message_of, filled, discard_front, pop_of}
use Rattle.window_pop.specs.declared.pop.Message.{Message}
use Rattle.window_pop.specs.declared.pop.PopAnswer.TheVariants as pops
use Rattle.window_pop.proofs.Fills.{front-whole, front-held}
use Rattle.window_pop.proofs.PopLaws.{pop-cases}
use Rattle.views.specs.Lists.{run_of}
use Rattle.views.specs.View.{Seen, given_up, seen_of, seen_at, is_received, entries_from, entries, gap_in, LrsnRight, after_pop, bytes_in, joined, Handed}
use Rattle.views.proofs.Lists.{entries-length, entries_at, entries-cut}
use Rattle.views.proofs.Gaps.{gap-found, gap_from}

-- an entry of a message is received
in-received : (bs : List ℕ) (s message : ℕ) (e : Entry) → in_message message e ≡ true → is_received (seen_of bs s e) ≡ true
in-received bs s message (Lost k f) h = impossible (sym h)
in-received bs s message (Received n l m t) h = refl
in-received bs s message GivenUp h = impossible (sym h)

-- all entries of a whole message are received
abbrev AllIn : ℕ → Option Message → Type 0
AllIn n (Some m) = m.packets ≤ n
AllIn n None = ⊤

run-gap : (capacity start : ℕ) (ws bs : List ℕ) (message n i total : ℕ) → AllIn (i + gap_in (entries_from capacity start ws bs i n)) (run_from capacity start ws message i total n)
unfolding run_from entries_from run_of
run-gap capacity start ws bs message zero i total = tt
run-gap capacity start ws bs message (suc n) i total =
    let e = entry_at ws (slot_of capacity start i) in
    let more : i + 1 ≡ suc i = omega arith in
    let rest = gap_in (entries_from capacity start ws bs (suc i) n) in
    let gap = cond (is_received (seen_at ws bs (slot_of capacity start i))) (suc rest) 0 in
    let same : suc i + rest ≡ i + suc rest = omega arith in
    by-test (AllIn (i + gap)) (in_message message e) _ _
    (λ t.
    let one : is_received (seen_at ws bs (slot_of capacity start i)) ≡ true = in-received bs (slot_of capacity start i) message e t in
    rw one
    (by-test (AllIn (i + suc rest)) (is_last e) _ _
    (λ u. omega arith)
    (λ u. rw (more, ← same) (run-gap capacity start ws bs message n (suc i) (total + length_in e)))))
    (λ t. tt)

-- the message in front
front-gap : (w : Window) (ws bs : List ℕ) {m : Message} → Some m ≡ message_of w ws → m.packets ≤ gap_in (entries w ws bs)
unfolding message_of
front-gap w ws bs c =
    let z : 0 + gap_in (entries w ws bs) ≡ gap_in (entries w ws bs) = omega arith in
    subst (AllIn (gap_in (entries w ws bs))) (sym c)
    (by-test (AllIn (gap_in (entries w ws bs))) (is_first (entry_in w ws 0)) _ _
    (λ t. subst (λ (n : ℕ). AllIn n (run_from w.capacity w.start ws (message_in (entry_in w ws 0)) 0 0 w.held)) z (run-gap w.capacity w.start ws bs (message_in (entry_in w ws 0)) w.held 0 0))
    (λ t. tt))

-- the bytes of one more entry
joined_snoc : (es : List Seen) (e : Seen) → joined (es ++ (e ∷ [])) ≡ joined es ++ bytes_in e
unfolding joined
joined_snoc [] e = append-nil (bytes_in e)
joined_snoc (x ∷ es) e = rw (joined_snoc es e) (sym (append_assoc (bytes_in x) (joined es) (bytes_in e)))

-- an entry's bytes are the payload in its slot, none if it is not received
slot-bytes : (bs : List ℕ) (s : ℕ) (e : Entry) → bytes_in (seen_of bs s e) ≡ payload_at bs s (length_in e)
slot-bytes bs s (Lost k f) = refl
slot-bytes bs s (Received n l m t) = refl
slot-bytes bs s GivenUp = refl

-- a payload put behind what is laid already
laid : (js q out : List ℕ) (at len : ℕ) → at ≡ length js → len ≡ length q → paste (js ++ drop at out) at q len ≡ js ++ q ++ drop (at + len) out
laid js q out at len a b =
    let head : take at (js ++ drop at out) ≡ js = take_at js (drop at out) at (sym a) in
    let body : take len q ≡ q = rw b (take-length q) in
    let tail : drop (at + len) (js ++ drop at out) ≡ drop (at + len) out =
    ap (λ (x : ℕ). drop (x + len) (js ++ drop at out)) a ∙ drop-append-add js (drop at out) len ∙ drop-drop len at out in
    rw (head, body, tail)

-- the output after n entries: their bytes, one after the other, and then what the output had
module _ (w : Window) (ws bs out : List ℕ) (g : Good w ws) (gb : Bytes w bs) where
  abbrev front : ℕ → List ℕ
  front n = joined (take n (entries w ws bs))

  abbrev Laid : Filled → ℕ → Type 0
  Laid f n = (f.at ≡ length (front n)) × (f.out ≡ front n ++ drop f.at out)

  pub filled-joined : (n : ℕ) → n ≤ w.held → Laid (filled w.capacity w.start ws bs out n) n
  unfolding filled joined
  filled-joined zero h = (refl, refl)
  filled-joined (suc n) h =
      let es = entries w ws bs in
      let s = slot_in w n in
      let len = length_in (entry_in w ws n) in
      let q = payload_at bs s len in
      let f = filled w.capacity w.start ws bs out n in
      let i = filled-joined n (omega arith) in
      let room : len ≤ length (drop (1456 * s) bs) = rw length-drop (omega (arith, length-read ws s, slot_lt w.capacity w.start n g.ranges.some)) in
      let long : length q ≡ len = length-take-le len (drop (1456 * s) bs) room in
      let z : 0 + n ≡ n = omega arith in
      let one : bytes_in (get_or es n given_up) ≡ q = ap bytes_in (entries_at w.capacity w.start ws bs 0 w.held n given_up (omega arith) ∙ ap (λ (x : ℕ). seen_at ws bs (slot_in w x)) z) ∙ slot-bytes bs s (entry_in w ws n) in
      let next : front (suc n) ≡ front n ++ q = ap joined (take-suc es n given_up (omega (arith, entries-length w.capacity w.start ws bs 0 w.held))) ∙ joined_snoc (take n es) (get_or es n given_up) ∙ ap (λ (x : List ℕ). front n ++ x) one in (
        ap (λ (x : ℕ). x + len) i.0 ∙ ap (λ (x : ℕ). length (front n) + x) (sym long) ∙ sym (length-append (front n) q) ∙ ap length (sym next),
        ap (λ (x : List ℕ). paste x f.at q len) i.1
            ∙ laid (front n) q out f.at len i.0 (sym long)
            ∙ ap (λ (x : List ℕ). x ++ drop (f.at + len) out) (sym next),
      )

module _ (k : SynchronizedRemoteClock) (latency : ℕ) (late : Bool) (w : Window) (ws : List ℕ) (now : ℤ) (bs out : List ℕ) (g : Good w ws) where
  abbrev es : List Seen
  es = entries w ws bs

  abbrev outcome : PopOutcome
  outcome = pop_of k latency late w ws now bs out

  -- the list, by the answer
  pub pop-seen : entries (window_after w outcome.popped) ws bs ≡ after_pop es (answered outcome.popped)
  unfolding discard_front
  pop-seen =
      pop-cases k latency late w ws now bs out (λ (x : PopOutcome). entries (window_after w x.popped) ws bs ≡ after_pop es (answered x.popped))
      refl
      (λ m c long. refl)
      (λ m c fits. entries-cut w ws bs m.packets (front-held w ws c))
      (λ n stamp some held. entries-cut w ws bs n held ∙ ap (λ (x : ℕ). drop x es) (sym (distance-sum 31 w.seqno0 {n = n} (omega arith))))

  -- lrsn
  pub pop-right : LrsnRight w es → LrsnRight (window_after w outcome.popped) (entries (window_after w outcome.popped) ws bs)
  unfolding discard_front
  pop-right l =
      pop-cases k latency late w ws now bs out (λ (x : PopOutcome). LrsnRight (window_after w x.popped) (entries (window_after w x.popped) ws bs))
      l
      (λ m c long. l)
      (λ m c fits.
      let n = m.packets in
      l
      ∙ ap (number_in w) (sym (gap_from n es (front-gap w ws bs c)))
      ∙ sym (sum-sum 31 w.seqno0 n (gap_in (drop n es)))
      ∙ ap (λ (x : List Seen). number_in (cut w n) (gap_in x)) (sym (entries-cut w ws bs n (front-held w ws c))))
      (λ n stamp some held.
      let c = cut w n in
      let z : c.held - 0 ≡ c.held = omega arith in
      ap (number_in c) (ap (first_gap c.capacity c.start ws 0) z ∙ gap-found c.capacity c.start ws bs c.held 0 ∙ omega arith))

  -- what a message hands out
  pub pop-handed : Bytes w bs → (time : ℤ) (bytes packets : ℕ) → answered outcome.popped ≡ Ok (pops.Message time bytes packets) → Handed w es out outcome bytes packets
  pop-handed gb time bytes packets =
      pop-cases k latency late w ws now bs out (λ (x : PopOutcome). answered x.popped ≡ Ok (pops.Message time bytes packets) → Handed w es out x bytes packets)
      (λ e. absurd (let z : ◌≡◌ {A = ℕ} 0 1 = cc in omega arith))
      (λ m c long e. absurd (let z : ◌≡◌ {A = ℕ} 0 1 = cc in omega arith))
      (λ m c fits e.
      let whole = front-whole w ws bs out c in
      let f = filled-joined w ws bs out g gb m.packets whole.held in
      let b : m.bytes ≡ bytes = cc in
      let n : m.packets ≡ packets = cc in
      record {
        some = omega (arith, whole.some);
        held = omega (arith, whole.held);
        whole = omega (arith, front-gap w ws bs c);
        long = sym b ∙ sym whole.long ∙ f.0 ∙ ap (λ (x : ℕ). length (joined (take x es))) n;
        output = f.1 ∙ ap (λ (x : ℕ). joined (take m.packets es) ++ drop x out) (whole.long ∙ b) ∙ ap (λ (x : ℕ). joined (take x es) ++ drop bytes out) n;
      })
      (λ n stamp some held e. absurd (let z : ◌≡◌ {A = ℕ} 0 1 = cc in omega arith))

  -- refusal 11: there is a message in front, all of its entries received, and it is longer than the output
  pub record TooLong : Type 0 where
    pub message : Message
    pub front : Some message ≡ message_of w ws
    pub some : 0 < message.packets
    pub whole : message.packets ≤ gap_in es
    pub long : length out < length (joined (take message.packets es))

  pub pop-short : Bytes w bs → outcome.popped ≡ Err (record {}) → TooLong
  pop-short gb =
      pop-cases k latency late w ws now bs out (λ (x : PopOutcome). x.popped ≡ Err (record {}) → TooLong)
      (λ e. absurd (let z : ◌≡◌ {A = ℕ} 0 1 = cc in omega arith))
      (λ m c long e.
      let whole = front-whole w ws bs out c in
      let f = filled-joined w ws bs out g gb m.packets whole.held in
      record { message = m; front = c; some = whole.some; whole = front-gap w ws bs c; long = omega (arith, whole.long, f.0, long) })
      (λ m c fits e. absurd (let z : ◌≡◌ {A = ℕ} 0 1 = cc in omega arith))
      (λ n stamp some held e. absurd (let z : ◌≡◌ {A = ℕ} 0 1 = cc in omega arith))
