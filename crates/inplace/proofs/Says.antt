-- The words after a data packet or a pop say the head that the call ended with, so that the next call begins with it: whatever words the first call began
-- with, that head fits its machine types. Assumes nothing.
use mathlib.Core.Path.{◌≡◌, refl, sym, ◌∙◌, subst}
use mathlib.Core.Bool.{Bool, true, false, ◌&&◌, cond}
use mathlib.Core.List.{List}
use Prim.Native.Nat.{ℕ, zero, suc, ◌+◌, ◌-◌, ◌%◌, ◌^◌, ◌<◌, ◌≤◌}
use native.Mathlib.Nat.{mod-lt}
use native.Mathlib.Omega.{arith}
use borrow.Author.Tests.{ltb-true, leb-true, eqb-true, eqb-false, not-false}
use lib.Dec.{eqb, ltb, leb, lit<}
use lib.Ieee.{binary64}
use lib.Ieee.Bits.{of_bits-fits}
use lib.IntN.{ℤ, pos, negsuc, nat_abs}
use lib.ListN.{length, set, length-set}
use lib.Seq.{get_or-set_same, get_or-set_other}
use Rattle.std.specs.Prelude.{Option, Some, None, Result, Ok, Err}
use Rattle.numbers.proofs.Flags.{and_left, and_right, by_bool, by-test, by-order}
use Rattle.numbers.proofs.Signs.{reading-size, since-under}
use Rattle.clock.specs.Ranges.{last_ok}
use Rattle.clock.specs.Release.{release_of}
use Rattle.clock.specs.declared.time.SynchronizedRemoteClock.{SynchronizedRemoteClock}
use Rattle.clock.proofs.Ranges.{ranges, reference-size}
use Rattle.acks.specs.Rtt.{rtt_ok}
use Rattle.intervals.specs.Rates as rates
use Rattle.intervals.specs.Rates.{time_ok, arrivals_ok, links_ok, all_under, arrival_gaps, arrival_sizes, link_gaps}
use Rattle.acks.specs.History.{history_ok}
use Rattle.numbers.specs.Circular.{before, sum}
use Rattle.numbers.specs.Instants.{since_time}
use Rattle.acks.specs.declared.history.History.{History}
use Rattle.intervals.specs.declared.rates.Arrivals.{Arrivals}
use Rattle.intervals.specs.declared.rates.Links.{Links}
use Rattle.acks.specs.declared.rtt.Rtt.{Rtt}
use Rattle.acks.proofs.HistoryKept.{history-ranges}
use Rattle.window.specs.Push.{push_of}
use Rattle.window.specs.declared.Window.{Window}
use Rattle.window.specs.declared.push.Packet.{Packet}
use Rattle.window.specs.declared.push.Pushed.{Pushed}
use Rattle.window.specs.declared.push.PushRefusal.{PushRefusal}
use Rattle.window.specs.declared.push.PushAnswer.{PushAnswer}
use Rattle.window.specs.declared.push.PushAnswer.TheVariants as pushes
use Rattle.window_pop.specs.Pop.{PopOutcome, clock_after, pop_of}
use Rattle.window_pop.specs.declared.pop.Popped.{Popped}
use Rattle.window_pop.specs.declared.pop.OutShort.{OutShort}
use Rattle.window_pop.proofs.PopLaws.{pop-cases}
use Rattle.head.specs.Rules.{number_of, first_refusal, pop_rules, push_rules}
use Rattle.head.specs.Head as heads
use Rattle.head.specs.Head.{head_ok}
use Rattle.head.specs.declared.state.Head.{Head}
use Rattle.head.specs.declared.refusal.Refusal.{Refusal}
use Rattle.head.proofs.Gates.{by-refusal, clear}
use Rattle.head.proofs.Ready.{in_parts, push-ready}
use Rattle.window.proofs.Ranges.{in_window}
use lib.Ieee as ieee
use Rattle.clock.specs.Base as bases
use Rattle.clock.specs.Samples as samples
use Rattle.clock.specs.Sync as syncs
use Rattle.acks.specs.History as histories
use Rattle.receiver.specs.Data.{DataOutcome, placed_of, rated_of, light_or_got, got_of, acked_of, after_taken, after_push, taken_of as dataTakenOf, data_call_of}
use Rattle.receiver.specs.Message.{MessageOutcome, head_after, taken_of, pop_call_of}
use Rattle.kept.proofs.DataKept.{data-kept}
use Rattle.kept.proofs.Parts.{from_parts}
use Rattle.kept.proofs.TimedKept.{message-kept}
use Rattle.packing.specs.Packed.{at, sixteen_of, numbers_formed, formed, head_of, nowhere, pack_of, unpack_of}
use Rattle.packing.specs.Holds.{Number, Whole, Time, Numbers, Double, RttHolds, HistoryHolds, Holds}
use Rattle.packing.proofs.Undo.{unpack-pack}
use Rattle.sound.proofs.Sounds.{formed-under, element}
use Rattle.inplace.proofs.Messages.{not-zero}

-- what a head in range has beside its ranges
pub record Rest (h : Head) : Type 0 where
  pub stamp : Number h.clock.base.stamp
  pub mean : Double h.clock.stats.mean
  pub squares : Double h.clock.stats.squares
  pub gaps : Numbers h.arrivals.gaps
  pub sizes : Numbers h.arrivals.sizes
  pub probes : Numbers h.links.gaps
  pub first : Number h.history.first

-- numbers of 32 bits
under_first : (ns : List ℕ) (n k : ℕ) → numbers_formed ns 0 n ≡ true → k < n → at ns (0 + k) < 2 ^ 32
unfolding numbers_formed
under_first ns zero k e l = absurd (omega arith)
under_first ns (suc n) k e l =
    by-order k n
    (λ m. under_first ns n k (and_left (numbers_formed ns 0 n) (ltb (at ns (0 + n)) (2 ^ 32)) e) m)
    (λ m. let q : k ≡ n = omega arith in rw q (ltb-true (at ns (0 + n)) (2 ^ 32) (and_right (numbers_formed ns 0 n) (ltb (at ns (0 + n)) (2 ^ 32)) e)))

under_all : (ns : List ℕ) → Numbers ns → (k : ℕ) → k < 16 → at ns k < 2 ^ 32
under_all ns h k l = let z : 0 + k ≡ k = omega arith in rw z at (under_first ns 16 k h.1 l)

numbers_of : (ns : List ℕ) → length ns ≡ 16 → ((k : ℕ) → k < 16 → at ns k < 2 ^ 32) → Numbers ns
numbers_of ns l u = (l, formed-under (2 ^ 32) ns 0 16 (λ k m. let z : 0 + k ≡ k = omega arith in rw z (u k m)) (omega arith) (omega arith))

numbers-set : (ns : List ℕ) (i x : ℕ) → Numbers ns → x < 2 ^ 32 → Numbers (set ns i x)
numbers-set ns i x h l =
    numbers_of (set ns i x) (length-set ns i x ∙ h.0)
    (λ k m.
    by_bool (eqb i k)
    (λ e. let q = eqb-true i k e in rw (← q) (subst (λ (y : ℕ). y < 2 ^ 32) (sym (get_or-set_same ns i x 0 (let z = h.0 in omega arith))) l))
    (λ e. subst (λ (y : ℕ). y < 2 ^ 32) (sym (get_or-set_other ns i k x 0 (λ q. eqb-false i k e (sym q)))) (under_all ns h k m)))

sixteen-long : (ws : List ℕ) (i : ℕ) → length (sixteen_of ws i) ≡ 16
unfolding sixteen_of
sixteen-long ws i = refl

numbers-said : (ws : List ℕ) (i : ℕ) → Numbers (sixteen_of ws i)
numbers-said ws i = numbers_of (sixteen_of ws i) (sixteen-long ws i) (λ k m. subst (λ (y : ℕ). y < 2 ^ 32) (sym (element ws i k m)) (mod-lt (at ws (i + k)) (omega arith)))

-- the head that words say
rest-head : (ws : List ℕ) → Rest (head_of ws)
unfolding head_of
rest-head ws =
    record {
      stamp = mod-lt (at ws 9) (omega arith);
      mean = of_bits-fits binary64 (at ws 13);
      squares = of_bits-fits binary64 (at ws 14);
      gaps = numbers-said ws 18;
      sizes = numbers-said ws 34;
      probes = numbers-said ws 54;
      first = mod-lt (at ws 76) (omega arith);
    }

rest-nowhere : Rest nowhere
unfolding heads.fresh_head syncs.fresh_clock bases.fresh_base ieee.fits samples.no_samples rates.fresh_arrivals rates.fresh_links histories.fresh_history numbers_formed
rest-nowhere =
    record { stamp = lit< tt; mean = tt; squares = tt; gaps = (refl, refl); sizes = (refl, refl); probes = (refl, refl); first = lit< tt }

rest-said : (ws : List ℕ) → Rest (unpack_of ws)
unfolding unpack_of
rest-said ws = by-test Rest (formed ws) (head_of ws) nowhere (λ b. rest-head ws) (λ b. rest-nowhere)

-- and in range it fits its types
mag-small : (z : ℤ) → nat_abs z ≤ 2 ^ 62 → Whole z
mag-small (pos n) h = omega arith
mag-small (negsuc n) h = omega arith

last-small : (m : Option ℤ) → last_ok m ≡ true → Time m
last-small None e = tt
last-small (Some (pos n)) e = let h = leb-true n (2 ^ 61 + 2 ^ 31) e in omega arith
last-small (Some (negsuc n)) e = let h = leb-true n (2 ^ 61 + 2 ^ 31 - 1) (and_left (leb n (2 ^ 61 + 2 ^ 31 - 1)) true e) in omega arith

time-small : (m : Option ℤ) → time_ok m ≡ true → Time m
time-small None e = tt
time-small (Some t) e = mag-small t (let h = reading-size t e in omega arith)

rtt-small : (t : Rtt) → rtt_ok t ≡ true → RttHolds t
unfolding rtt_ok
rtt-small t e =
    record {
      mean = let a = ltb-true t.mean (2 ^ 31) (and_left (ltb t.mean (2 ^ 31)) _ e) in omega arith;
      variance = let a = ltb-true t.variance (2 ^ 31) (and_right (ltb t.mean (2 ^ 31)) _ e) in omega arith;
    }

arrival-time : (a : Arrivals) → arrivals_ok a ≡ true → time_ok a.last ≡ true
unfolding arrivals_ok
arrival-time a e = and_right (leb a.count 16 && ltb a.at 16 && all_under (2 ^ 31) (arrival_gaps a) && all_under 1457 (arrival_sizes a)) (time_ok a.last) e

probe-time : (l : Links) → links_ok l ≡ true → time_ok l.probe ≡ true
unfolding links_ok
probe-time l e = and_right (leb l.count 16 && ltb l.at 16 && all_under (2 ^ 31) (link_gaps l)) (time_ok l.probe) e

history-small : (y : History) → history_ok y ≡ true → Number y.first → HistoryHolds y
history-small y e f =
    let r = history-ranges y e in
    record { first = f; largest = let a = r.largest in omega arith; lastack = let a = r.lastack in omega arith }

holds-from : (h : Head) → head_ok h ≡ true → Rest h → Holds h
holds-from h e r =
    let p = in_parts h e in
    let w = in_window h.window p.window in
    let k = ranges h.clock p.clock in
    record {
      latest = mag-small h.latest (let a = reading-size h.latest p.latest in omega arith);
      latency = let a = p.latency in omega arith;
      window = record { seqno0 = let a = w.seqno0 in omega arith; lrsn = let a = w.lrsn in omega arith };
      base = record { time = mag-small h.clock.base.time (let a = reference-size h.clock.base.time k.reference in omega arith); stamp = r.stamp; last = last-small h.clock.last k.last };
      stats = record { mean = r.mean; squares = r.squares; count = let a = leb-true h.clock.stats.count 999 k.samples in omega arith };
      rtt = rtt-small h.rtt p.rtt;
      arrivals = record { gaps = r.gaps; sizes = r.sizes; last = time-small h.arrivals.last (arrival-time h.arrivals p.arrivals) };
      links = record { gaps = r.probes; probe = time-small h.links.probe (probe-time h.links p.links) };
      history = history-small h.history p.history r.first;
    }

some-number : (e : Refusal) → number_of e ≡ 0 → ⊥
some-number e = eqb-false (number_of e) 0 (not-zero e)

-- a pop keeps the rest: of the clock it moves only the last released time
module _ (k : SynchronizedRemoteClock) (latency : ℕ) (drop : Bool) (w : Window) (ws : List ℕ) (now : ℤ) (bs out : List ℕ) where
  abbrev Same : PopOutcome → Type 0
  Same o = ((clock_after k o.popped).base ≡ k.base) × ((clock_after k o.popped).stats ≡ k.stats)

  pop-same : Same (pop_of k latency drop w ws now bs out)
  unfolding release_of
  pop-same = pop-cases k latency drop w ws now bs out Same (refl, refl) (λ m a b. (refl, refl)) (λ m a b. (refl, refl)) (λ n s a b. (refl, refl))

rest-after-pop : (h : Head) (now : ℤ) → Rest h → (r : Result Popped OutShort) → (clock_after h.clock r).base ≡ h.clock.base → (clock_after h.clock r).stats ≡ h.clock.stats → Rest (head_after h r now)
rest-after-pop h now r (Ok p) e f =
    record { stamp = rw e r.stamp; mean = rw f r.mean; squares = rw f r.squares; gaps = r.gaps; sizes = r.sizes; probes = r.probes; first = r.first }
rest-after-pop h now r (Err _) e f = r

module _ (h : Head) (slots bs out : List ℕ) (now : ℤ) where
  abbrev pop_refusal : Result Unit Refusal
  pop_refusal = first_refusal (pop_rules (head_ok h) h.window.capacity (length slots) (length bs) now h.latest)

  rest-message : Rest h → Rest (pop_call_of h slots bs out now).given.head
  unfolding pop_call_of taken_of
  rest-message r =
      let o = pop_of h.clock h.latency h.dropping h.window slots now bs out in
      let s = pop-same h.clock h.latency h.dropping h.window slots now bs out in
      by-refusal (λ (x : MessageOutcome). Rest x.given.head) pop_refusal _ _
      (λ x z. rest-after-pop h now r o.popped s.0 s.1)
      (λ e z. r)

  message-open : (pop_call_of h slots bs out now).line.refusal ≡ 0 → Ok tt ≡ pop_refusal
  unfolding pop_call_of
  message-open =
      by-refusal (λ (x : MessageOutcome). x.line.refusal ≡ 0 → Ok tt ≡ pop_refusal) pop_refusal _ _
      (λ x z e. sym z)
      (λ x z e. absurd (some-number x e))

  message-ranged : (pop_call_of h slots bs out now).line.refusal ≡ 0 → head_ok h ≡ true
  message-ranged e =
      not-false (head_ok h)
      (clear (pop_rules (head_ok h) h.window.capacity (length slots) (length bs) now h.latest) (message-open e)).0

pub message-says : (ws slots bs out : List ℕ) (now : ℤ)
    → let o = pop_call_of (unpack_of ws) slots bs out now in o.line.refusal ≡ 0 → unpack_of (pack_of o.given.head) ≡ o.given.head
message-says ws slots bs out now e =
    let h = unpack_of ws in
    unpack-pack (pop_call_of h slots bs out now).given.head
    (holds-from (pop_call_of h slots bs out now).given.head (message-kept h slots bs out now (message-ranged h slots bs out now e)) (rest-message h slots bs out now (rest-said ws)))

-- a data packet: one interval and size enter a window
rest-rated : (h : Head) (now : ℤ) (number size : ℕ) → size < 2 ^ 32 → Rest h → Rest (rated_of h now number size)
unfolding rated_of rates.arrival_of rates.link_of rates.pair_of
rest-rated h now number size l r =
    let a = arrived h.arrivals.last in
    record { stamp = r.stamp; mean = r.mean; squares = r.squares; gaps = a.0; sizes = a.1; probes = linked; first = r.first }
  where
    under : (t : ℤ) → since_time now t < 2 ^ 32
    under t = let k = since-under now t in omega arith

    arrived : (m : Option ℤ) → Numbers (rates.arrived_since m h.arrivals now size).gaps × Numbers (rates.arrived_since m h.arrivals now size).sizes
    arrived None = (r.gaps, r.sizes)
    arrived (Some t) = (numbers-set h.arrivals.gaps h.arrivals.at (since_time now t) r.gaps (under t), numbers-set h.arrivals.sizes h.arrivals.at size r.sizes l)

    paired : (m : Option ℤ) → Numbers (rates.paired_since m h.links now).gaps
    paired None = r.probes
    paired (Some t) = numbers-set h.links.gaps h.links.at (since_time now t) r.probes (under t)

    linked : Numbers (cond (eqb (number % 16) 0) (rates.with_probe h.links (Some now)) (cond (eqb (number % 16) 1) (rates.paired_since h.links.probe h.links now) h.links)).gaps
    linked =
        by-test (λ (x : Links). Numbers x.gaps) (eqb (number % 16) 0) _ _
        (λ b. r.probes)
        (λ b. by-test (λ (x : Links). Numbers x.gaps) (eqb (number % 16) 1) _ _ (λ c. paired h.links.probe) (λ c. r.probes))

rest-placed : (h : Head) (w : Window) (now : ℤ) → Rest h → Rest (placed_of h w now)
rest-placed h w now r =
    record { stamp = r.stamp; mean = r.mean; squares = r.squares; gaps = r.gaps; sizes = r.sizes; probes = r.probes; first = r.first }

rest-acked : (h : Head) (lrsn : ℕ) (recovered : Bool) → Rest h → Rest (acked_of h lrsn recovered).head
unfolding acked_of histories.light_ack_of
rest-acked h lrsn recovered r =
    by-test (λ (x : Option History). Rest (light_or_got h lrsn recovered x).head) (before 31 lrsn (sum 31 h.history.lastack 64)) _ _
    (λ b. r)
    (λ b. record { stamp = r.stamp; mean = r.mean; squares = r.squares; gaps = r.gaps; sizes = r.sizes; probes = r.probes; first = r.first })

rest-after-taken : (h : Head) (w : Window) (now : ℤ) (number size : ℕ) → size < 2 ^ 32 → Rest h → (a : PushAnswer) → Rest (after_taken h w a now number size).head
unfolding got_of
rest-after-taken h w now number size l r (pushes.Got lrsn true) = rest-acked (placed_of h w now) lrsn true (rest-placed h w now r)
rest-after-taken h w now number size l r (pushes.Got lrsn false) =
    let g = rated_of h now number size in rest-acked (placed_of g w now) lrsn false (rest-placed g w now (rest-rated h now number size l r))
rest-after-taken h w now number size l r (pushes.Loss first last) = rest-placed h w now r

rest-after-push : (h : Head) (now : ℤ) (number size : ℕ) → size < 2 ^ 32 → Rest h → (r : Result Pushed PushRefusal) → Rest (after_push h r now number size).head
rest-after-push h now number size l r (Ok u) = rest-after-taken h u.window now number size l r u.answer
rest-after-push h now number size l r (Err _) = r

module _ (h : Head) (slots bs : List ℕ) (now : ℤ) (p : Packet) (payload : List ℕ) where
  abbrev push_refusal : Result Unit Refusal
  push_refusal = first_refusal (push_rules (head_ok h) h.window.capacity (length slots) (length bs) now h.latest p (length payload))

  rest-data : Rest h → Rest (data_call_of h slots bs now p payload).handled.head
  unfolding data_call_of dataTakenOf
  rest-data r =
      let o = push_of h.window slots bs now p payload in
      by-refusal (λ (x : DataOutcome). Rest x.handled.head) push_refusal _ _
      (λ x z.
      let d = push-ready h slots bs now p payload (sym z) in
      rest-after-push h now p.number (length payload) (let b = d.right.bytes in omega arith) r o.pushed)
      (λ e z. r)

  data-open : (data_call_of h slots bs now p payload).line.refusal ≡ 0 → Ok tt ≡ push_refusal
  unfolding data_call_of
  data-open =
      by-refusal (λ (x : DataOutcome). x.line.refusal ≡ 0 → Ok tt ≡ push_refusal) push_refusal _ _
      (λ x z e. sym z)
      (λ x z e. absurd (some-number x e))

  data-ranged : (data_call_of h slots bs now p payload).line.refusal ≡ 0 → head_ok h ≡ true
  data-ranged e = from_parts h (push-ready h slots bs now p payload (data-open e)).head

pub data-says : (ws slots bs : List ℕ) (now : ℤ) (p : Packet) (payload : List ℕ)
    → let o = data_call_of (unpack_of ws) slots bs now p payload in o.line.refusal ≡ 0 → unpack_of (pack_of o.handled.head) ≡ o.handled.head
data-says ws slots bs now p payload e =
    let h = unpack_of ws in
    unpack-pack (data_call_of h slots bs now p payload).handled.head
    (holds-from (data_call_of h slots bs now p payload).handled.head (data-kept h slots bs now p payload (data-ranged h slots bs now p payload e)) (rest-data h slots bs now p payload (rest-said ws)))
