-- Wrong programs that demand 3 rules out: 01, "Each proof's duty". Each theorem speaks of any step that meets it. docs/RULED_OUT.md lists them. Assumes nothing.
use mathlib.Core.Path.{◌≡◌, refl, ap, sym, ◌∙◌, subst}
use mathlib.Core.Bool.{Bool, true, false, ◌||◌}
use mathlib.Core.List.{List, [], ◌∷◌, map}
use mathlib.Core.Logic.{◌⊎◌, inl, inr}
use Prim.Native.Nat.{ℕ, zero, suc, ◌+◌, ◌-◌, ◌^◌, ◌<◌, ◌≤◌}
use native.Mathlib.Omega.{arith}
use borrow.Author.Tests.{ltb-true}
use lib.Dec.{ltb}
use lib.IntN.{ℤ, pos}
use lib.ListN.{length, length-append, length-map, length-drop, replicate, get_or, take}
use Rattle.std.specs.Prelude.{Result, Ok, Err}
use Rattle.numbers.specs.Circular.{distance, before, after, sum}
use Rattle.numbers.proofs.Circle.{distance_self, before-not}
use Rattle.numbers.proofs.Flags.{impossible, and_left, by_bool, by-order}
use Rattle.numbers.proofs.Places.{place-one, place-distance}
use Rattle.window.proofs.Ranges.{in_window}
use Rattle.head.specs.Head.{fresh_head, made_of}
use Rattle.head.specs.declared.refusal.Refusal.{Refusal}
use Rattle.head.proofs.Gates.{err-ok}
use Rattle.head.proofs.Ready.{in_parts}
use Rattle.receiver.specs.Paper.{data_line}
use Rattle.receiver.specs.declared.data.DataAnswer.{DataAnswer}
use Rattle.receiver.specs.declared.data.DataAnswer.TheVariants as datas
use Rattle.window_pop.specs.declared.pop.PopAnswer.{PopAnswer}
use Rattle.window_pop.specs.declared.pop.PopAnswer.TheVariants as messages
use Rattle.step.specs.Step.{State, Lent, Ended}
use Rattle.step.specs.declared.Call.{Call}
use Rattle.step.specs.declared.Call.TheVariants as calls
use Rattle.step.specs.declared.Answer.{Answer}
use Rattle.step.specs.declared.Answer.TheVariants as answers
use Rattle.views.specs.Lists.{run_of}
use Rattle.views.specs.View.{Seen, entries}
use Rattle.views.proofs.Lists.{entries-length}
use Rattle.ledger.specs.Seen.{NotClear, appends, recovers, is_loss, kind_in, refusal_in, refusal_of, refused_in, kind_of}
use Rattle.ledger.specs.Ledger.{Place, received, Ledger, number_of, front_of, next_of, ack_of, lost_count, enter_data, enter, lost, Fate, released, discarded, is_received, received_run, released_bytes}
use Rattle.ledger.specs.Runs.{Event, Book, book_after, Fresh, fresh_desk, fresh, NoneClear, place_of, handed_out, Sent}
use Rattle.ledger.specs.Runs as runs
use Rattle.ledger.specs.Claims.{DataAcks, Acks, Judges, Later, Refuses, early_refusal, Says, Demand3, Tells, front_bytes}

abbrev sight : State → List Seen
sight s = entries s.head.window s.slots s.payloads

-- an answer of the kind of a data packet is one
data-only : (a : Answer) → kind_in a ≡ 1 → (x : Result DataAnswer Refusal) × (a ≡ answers.Data x)
data-only (answers.Data x) e = (x, refl)
data-only (answers.Pop x) e = absurd (omega arith)
data-only (answers.Report x) e = absurd (omega arith)
data-only (answers.FullAck x) e = absurd (omega arith)
data-only (answers.Ack2 x) e = absurd (omega arith)
data-only (answers.Drop x) e = absurd (omega arith)
data-only (answers.Clock x) e = absurd (omega arith)
data-only (answers.Clear x) e = absurd (omega arith)

-- one that is no refusal has the number 0
unrefused : (x : Result DataAnswer Refusal) → refusal_of x ≡ Ok tt → (data_line x).refusal ≡ 0
unrefused (Ok (datas.Got lrsn recovered)) e = refl
unrefused (Ok (datas.Light lrsn recovered)) e = refl
unrefused (Ok (datas.Loss a b)) e = refl
unrefused (Err f) e = absurd (err-ok e)

-- one more place is held after a packet that came in order
one_more : (l : Ledger) (number : ℕ) (bytes : List ℕ) (x : Result DataAnswer Refusal) → appends x ≡ true → length (enter_data l number bytes x).held ≡ length l.held + 1
one_more l number bytes (Ok (datas.Got lrsn true)) e = impossible (sym e)
one_more l number bytes (Ok (datas.Got lrsn false)) e = length-append l.held (received bytes ∷ [])
one_more l number bytes (Ok (datas.Light lrsn true)) e = impossible (sym e)
one_more l number bytes (Ok (datas.Light lrsn false)) e = length-append l.held (received bytes ∷ [])
one_more l number bytes (Ok (datas.Loss a b)) e = impossible (sym e)
one_more l number bytes (Err f) e = impossible (sym e)

-- of the received places in front: each is received, and there are no more than are held
run-received : (xs : List Place) (i : ℕ) → i < received_run xs → is_received (get_or xs i lost) ≡ true
unfolding run_of
run-received [] i h = absurd (omega arith)
run-received (x ∷ xs) zero h = by_bool (is_received x) (λ t. t) (λ t. absurd (let k = rw t at h in omega arith))
run-received (x ∷ xs) (suc i) h =
    by_bool (is_received x)
    (λ t. run-received xs i (let k = rw t at h in omega arith))
    (λ t. absurd (let k = rw t at h in omega arith))

run-within : (xs : List Place) → received_run xs ≤ length xs
unfolding run_of
run-within [] = omega arith
run-within (x ∷ xs) = by_bool (is_received x) (λ t. rw t (let k = run-within xs in omega arith)) (λ t. rw t (omega arith))

-- no packet among these calls
abbrev pub NoData : List Event → Type 0
NoData [] = Unit
NoData (e ∷ past) = (kind_of e.call ≡ 1 → ⊥) × NoData past

none-sent : (past : List Event) (number : ℕ) (bytes : List ℕ) → NoData past → Sent past number bytes → ⊥
none-sent _ _ _ d (runs.now time number message location stamp t past) = d.0 refl
none-sent _ _ _ d (runs.before e past number bytes h) = none-sent past number bytes d.1 h

none-released : (fs : List Fate) → ((i : ℕ) (bytes : List ℕ) → get_or fs i discarded ≡ released bytes → ⊥) → released_bytes fs ≡ []
unfolding released_bytes
none-released [] h = refl
none-released (released bytes ∷ fs) h = absurd (h 0 bytes refl)
none-released (discarded ∷ fs) h = none-released fs (λ i bytes e. h (suc i) bytes e)

-- what is held fits the capacity that the station knows
fits : (step : State → Lent → Call → Ended) → Demand3 step → (first : ℕ) (s : State) (f : Fresh first s) (past : List Event) → NoneClear past
    → (length (book_after step (fresh f) past).ledger.held ≤ (book_after step (fresh f) past).desk.capacity) × (length (book_after step (fresh f) past).ledger.held ≤ 8192)
fits step demand first s f past p =
    let b = book_after step (fresh f) past in
    let h = (demand first s f past p).holds in
    let w = b.state.head.window in
    let r = in_window w (in_parts b.state.head h.in_range).window in
    let n = sym (length-map (sight b.state) place_of) ∙ ap length h.agrees.entries in
    let m = entries-length w.capacity w.start b.state.slots b.state.payloads 0 w.held in
    (omega (arith, n, m, r.holds, h.known.capacity), omega (arith, n, m, r.holds, r.most))

module _ (step : State → Lent → Call → Ended) (demand : Demand3 step) (first : ℕ) (s : State) (f : Fresh first s) (past : List Event) (p : NoneClear past) where
  abbrev b : Book
  b = book_after step (fresh f) past

  abbrev l : Ledger
  l = b.ledger

  abbrev r : Lent → Call → Ended
  r t c = step b.state t c

  abbrev event : Call → Lent → Event
  event c t = record { call = c; lent = t }

  -- what is held before and after a call
  held-now : length (sight b.state) ≡ length l.held
  held-now = sym (length-map (sight b.state) place_of) ∙ ap length (demand first s f past p).holds.agrees.entries

  held_then : (c : Call) (t : Lent) → NotClear c → map place_of (sight (r t c).state) ≡ (enter l c t.payload (r t c).answer).held
  unfolding book_after
  held_then c t q = (demand first s f (event c t ∷ past) (q, p)).holds.agrees.entries

  -- a packet, and what its answer says
  module _ (time : ℤ) (number message location stamp : ℕ) (t : Lent) (k : stamp < 2 ^ 32) where
    abbrev c : Call
    c = calls.Data time number message location stamp

    abbrev earlier : Result Unit Refusal
    earlier = early_refusal b.desk t c

    pub told : (x : Result DataAnswer Refusal) → (r t c).answer ≡ answers.Data x → Judges l b.desk.capacity earlier number x
    told x q = subst (λ (a : Answer). Says l b.desk t c a (r t c).output (r t c).list) q ((demand first s f past p).told (event c t) k).says

    pub refuses : (x : Result DataAnswer Refusal) → (r t c).answer ≡ answers.Data x → Refuses earlier c (answers.Data x)
    refuses x q = subst (λ (a : Answer). Refuses earlier c a) q ((demand first s f past p).told (event c t) k).refuses

    pub acks-so : (x : Result DataAnswer Refusal) → (r t c).answer ≡ answers.Data x → DataAcks (ack_of (enter_data l number t.payload x)) x
    acks-so x q = subst (λ (a : Answer). Acks (ack_of (enter l c t.payload a)) (b.desk.capacity - length (enter l c t.payload a).held) a) q ((demand first s f past p).told (event c t) k).acks

    pub answer-is : (x : Result DataAnswer Refusal) × ((r t c).answer ≡ answers.Data x)
    answer-is = data-only (r t c).answer ((demand first s f past p).told (event c t) k).kind

    -- a fresh packet, of the number next expected, that no test of 1 to 6 refuses and that has room, is taken: so a program that refuses all is ruled out, and
    -- one that compares numbers as plain numbers
    pub must-append : number ≡ number_of l (next_of l) → earlier ≡ Ok tt → length l.held < b.desk.capacity → appends answer-is.0 ≡ true
    must-append e z m = (told answer-is.0 answer-is.1).next z e m

    pub grown : appends answer-is.0 ≡ true → length (enter l c t.payload (r t c).answer).held ≡ length l.held + 1
    grown m =
        ap (λ (a : Answer). length (enter l c t.payload a).held) answer-is.1
        ∙ one_more l number t.payload answer-is.0 m

    -- it is held: so a program that does nothing is ruled out whatever it answers, and one that works on the first call only and then echoes
    pub must-hold : number ≡ number_of l (next_of l) → earlier ≡ Ok tt → length l.held < b.desk.capacity → length (sight (r t c).state) ≡ length (sight b.state) + 1
    must-hold e z m =
        sym (length-map (sight (r t c).state) place_of)
        ∙ ap length (held_then c t k)
        ∙ grown (must-append e z m)
        ∙ ap (λ (x : ℕ). x + 1) (sym held-now)

    pub idle : number ≡ number_of l (next_of l) → earlier ≡ Ok tt → length l.held < b.desk.capacity → (r t c).state ≡ b.state → ⊥
    idle e z m q = let x = must-hold e z m in let y = ap (λ (a : State). length (sight a)) q in omega arith

    -- the next expected number is that of no held place
    no_place : number ≡ number_of l (next_of l) → (i : ℕ) → i < length l.held → number_of l (front_of l + i) ≡ number → ⊥
    no_place e i h q =
        let m = (fits step demand first s f past p).1 in
        let z = place-one 31 l.first (front_of l) (front_of l + i) (next_of l) (omega arith) (omega (arith, h, m)) (omega arith) (omega (arith, m)) (q ∙ e) in
        omega arith

    -- and it is no duplicate
    pub no-duplicate : number ≡ number_of l (next_of l) → (x : Result DataAnswer Refusal) → (r t c).answer ≡ answers.Data x → (data_line x).refusal ≡ 10 → ⊥
    no-duplicate e x q d = let u = (told x q).duplicate d in no_place e u.0 u.1 u.2

    -- nor is it after itself
    not_after : number ≡ number_of l (next_of l) → after 31 number (number_of l (next_of l)) ≡ true → ⊥
    unfolding after
    not_after e q =
        let n = distance 31 number (number_of l (next_of l)) in
        let z : n ≡ 0 = ap (λ (x : ℕ). distance 31 x (number_of l (next_of l))) e ∙ distance_self 31 (number_of l (next_of l)) in
        let y = ltb-true 0 n (and_left (ltb 0 n) (ltb n (2 ^ 30)) q) in
        omega arith

    -- nor before the front
    not-before : number ≡ number_of l (next_of l) → before 31 number (number_of l (front_of l)) ≡ true → ⊥
    not-before e q =
        let m = (fits step demand first s f past p).1 in
        let d : distance 31 number (number_of l (front_of l)) ≡ length l.held =
        ap (λ (x : ℕ). distance 31 x (number_of l (front_of l))) e ∙ place-distance 31 l.first (front_of l) (length l.held) (omega arith) in
        impossible (sym q ∙ before-not 31 number (number_of l (front_of l)) (omega (arith, d, m)))

    -- where there is no room it is refused 7, and by no other number
    module _ (e : number ≡ number_of l (next_of l)) (z : earlier ≡ Ok tt) (m : length l.held ≡ b.desk.capacity) where
      abbrev x : Result DataAnswer Refusal
      x = answer-is.0

      abbrev y : ℕ
      y = (data_line x).refusal

      says_so : Judges l b.desk.capacity earlier number x
      says_so = told x answer-is.1

      too_many : appends x ≡ true → ⊥
      unfolding book_after
      too_many g = let u = (fits step demand first s f (event c t ∷ past) (k, p)).0 in omega (arith, u, grown g, m)

      taken : (appends x || recovers x || is_loss x) ≡ true → ⊥
      taken g =
          by_bool (appends x)
          too_many
          (λ n₁.
          by_bool (recovers x)
          (λ n₂. let u = says_so.for_lost n₂ in no_place e u.0 u.1 u.2)
          (λ n₂. by_bool (is_loss x) (λ n₃. not_after e (says_so.after_gap n₃)) (λ n₃. impossible (sym (rw (n₁, n₂, n₃) at g)))))

      by-number : 7 ≤ y → y ≤ 10 → y ≡ 7
      by-number low high =
          by-order y 8
          (λ h. omega arith)
          (λ h.
          absurd
          (by-order y 9
          (λ i. not_after e (says_so.early (omega arith)).0)
          (λ i. by-order y 10 (λ j. not-before e (says_so.late (omega arith)).0) (λ j. no-duplicate e x answer-is.1 (omega arith)))))

      pub must-be-full : (data_line answer-is.0).refusal ≡ 7
      must-be-full = go (refuses x answer-is.1).tested
        where
          go : (refused_in (answers.Data x) ≡ earlier) ⊎ ((earlier ≡ Ok tt) × Later c (refusal_in (answers.Data x))) → y ≡ 7
          go (inl u) = absurd (taken (says_so.took (unrefused x (u ∙ z))))
          go (inr u) = by-number u.1.0 u.1.1

  -- counts are not made up: a message's packets, a late drop's range and a drop request's count are what the receiver no longer holds
  pub message-count : (time : ℤ) (t : Lent) (at : ℤ) (bytes packets : ℕ) → (r t (calls.Pop time)).answer ≡ answers.Pop (Ok (messages.Message at bytes packets))
      → length (sight (r t (calls.Pop time)).state) ≡ length (sight b.state) - packets
  message-count time t at bytes packets q =
      sym (length-map (sight (r t (calls.Pop time)).state) place_of)
      ∙ ap length (held_then (calls.Pop time) t tt ∙ ap (λ (a : Answer). (enter l (calls.Pop time) t.payload a).held) q)
      ∙ length-drop packets l.held
      ∙ ap (λ (x : ℕ). x - packets) (sym held-now)

  pub late-count : (time : ℤ) (t : Lent) (from end : ℕ) (delay : ℤ) → (r t (calls.Pop time)).answer ≡ answers.Pop (Ok (messages.Late from end delay))
      → length (sight (r t (calls.Pop time)).state) ≡ length (sight b.state) - distance 31 end from
  late-count time t from end delay q =
      sym (length-map (sight (r t (calls.Pop time)).state) place_of)
      ∙ ap length (held_then (calls.Pop time) t tt ∙ ap (λ (a : Answer). (enter l (calls.Pop time) t.payload a).held) q)
      ∙ length-drop (distance 31 end from) l.held
      ∙ ap (λ (x : ℕ). x - distance 31 end from) (sym held-now)

  pub drop-count : (from last : ℕ) (t : Lent) (n : ℕ) → (r t (calls.Drop from last)).answer ≡ answers.Drop (Ok n)
      → lost_count (map place_of (sight b.state)) ≡ lost_count (map place_of (sight (r t (calls.Drop from last)).state)) + n
  drop-count from last t n q =
      let c = calls.Drop from last in
      let u = subst (λ (a : Answer). Says l b.desk t c a (r t c).output (r t c).list) q ((demand first s f past p).told (event c t) tt).says in
      let v = held_then c t tt ∙ ap (λ (a : Answer). (enter l c t.payload a).held) q in
      ap lost_count (demand first s f past p).holds.agrees.entries ∙ u ∙ ap (λ (x : List Place). lost_count x + n) (sym v)

  -- what a pop answers
  pop-told : (time : ℤ) (t : Lent) (a : Result PopAnswer Refusal) → (r t (calls.Pop time)).answer ≡ answers.Pop a → Tells l b.desk a (r t (calls.Pop time)).output
  pop-told time t a q =
      let c = calls.Pop time in
      subst (λ (x : Answer). Says l b.desk t c x (r t c).output (r t c).list) q ((demand first s f past p).told (event c t) tt).says

  -- a message is the bytes of the places in front, none of which is a hole, and those places leave: so a program that hands out other bytes is ruled out, one
  -- that releases over a place that is lost, and one that leaves the front where it was and releases it again
  pub own-bytes : (time : ℤ) (t : Lent) (at : ℤ) (bytes packets : ℕ) → (r t (calls.Pop time)).answer ≡ answers.Pop (Ok (messages.Message at bytes packets))
      → take bytes (r t (calls.Pop time)).output ≡ front_bytes l packets
  own-bytes time t at bytes packets q = (pop-told time t (Ok (messages.Message at bytes packets)) q).2

  pub no-hole : (time : ℤ) (t : Lent) (at : ℤ) (bytes packets : ℕ) → (r t (calls.Pop time)).answer ≡ answers.Pop (Ok (messages.Message at bytes packets))
      → (i : ℕ) → i < packets → is_received (get_or l.held i lost) ≡ true
  no-hole time t at bytes packets q i h = run-received l.held i (omega (arith, h, (pop-told time t (Ok (messages.Message at bytes packets)) q).1))

  pub released-once : (time : ℤ) (t : Lent) (at : ℤ) (bytes packets : ℕ) → (r t (calls.Pop time)).answer ≡ answers.Pop (Ok (messages.Message at bytes packets))
      → (r t (calls.Pop time)).state ≡ b.state → ⊥
  released-once time t at bytes packets q e =
      let u = pop-told time t (Ok (messages.Message at bytes packets)) q in
      let n = message-count time t at bytes packets q in
      let m = ap (λ (x : State). length (sight x)) e in
      omega (arith, u.0, u.1, run-within l.held, held-now)

  -- what was never handed in is never handed out
  pub never-sent : NoData past → handed_out step (fresh f) past ≡ []
  never-sent d =
      let h = (demand first s f past p).holds in
      h.handed ∙ none-released (book_after step (fresh f) past).ledger.gone (λ i bytes e. none-sent past _ bytes d (h.own i bytes e))

-- a receiver of one slot, fresh, and a packet that no test of 1 to 6 refuses: so these theorems speak of something
abbrev pub small : State
small = record { head = fresh_head (pos 0) 0 false 0 1; slots = replicate 3 0; payloads = replicate 1456 0; history = [] }

unfoldable pub small-fresh : Fresh 0 small
unfolding made_of
small-fresh = record { start = pos 0; latency = 0; dropping = false; capacity = 1; made = refl }

abbrev pub packet : Lent
packet = record { payload = 7 ∷ []; output = []; list = [] }

pub small-tests : early_refusal (fresh_desk small-fresh) packet (calls.Data (pos 0) 0 0 3 0) ≡ Ok tt
unfolding small-fresh
small-tests = refl

-- doing nothing, whatever it answers
pub doing-nothing : (step : State → Lent → Call → Ended) → Demand3 step → ((s : State) (t : Lent) (c : Call) → (step s t c).state ≡ s) → ⊥
unfolding small-fresh book_after sum
doing-nothing step demand still =
    idle step demand 0 small small-fresh [] tt (pos 0) 0 0 3 0 packet (omega arith) refl small-tests (omega arith) (still small packet (calls.Data (pos 0) 0 0 3 0))

-- refusing all, by whatever numbers: no packet is ever taken
pub refusing-all : (step : State → Lent → Call → Ended) → Demand3 step
    → ((s : State) (t : Lent) (time : ℤ) (number message location stamp : ℕ) (a : Result DataAnswer Refusal) → (step s t (calls.Data time number message location stamp)).answer ≡ answers.Data a
    → (appends a || recovers a || is_loss a) ≡ false) → ⊥
unfolding small-fresh book_after sum
refusing-all step demand none =
    let x = answer-is step demand 0 small small-fresh [] tt (pos 0) 0 0 3 0 packet (omega arith) in
    let m = must-append step demand 0 small small-fresh [] tt (pos 0) 0 0 3 0 packet (omega arith) refl small-tests (omega arith) in
    impossible (sym (ap (λ (y : Bool). y || recovers x.0 || is_loss x.0) m) ∙ none small packet (pos 0) 0 0 3 0 x.0 x.1)

-- got every time: every packet is said to be taken in order, or for a lost place; the one just before the first number is neither
pub got-every-time : (step : State → Lent → Call → Ended) → Demand3 step
    → ((s : State) (t : Lent) (time : ℤ) (number message location stamp : ℕ) (a : Result DataAnswer Refusal) → (step s t (calls.Data time number message location stamp)).answer ≡ answers.Data a
    → (appends a || recovers a) ≡ true) → ⊥
unfolding small-fresh book_after sum
got-every-time step demand all =
    let x = answer-is step demand 0 small small-fresh [] tt (pos 0) 2147483647 0 3 0 packet (omega arith) in
    let j = told step demand 0 small small-fresh [] tt (pos 0) 2147483647 0 3 0 packet (omega arith) x.0 x.1 in
    by_bool (appends x.0)
    (λ u. let z = j.in_order u in omega arith)
    (λ u.
    by_bool (recovers x.0)
    (λ v. let z = (j.for_lost v).1 in omega arith)
    (λ v.
    let z : (appends x.0 || recovers x.0) ≡ false = rw (u, v) in
    impossible (sym (all small packet (pos 0) 2147483647 0 3 0 x.0 x.1) ∙ z)))
