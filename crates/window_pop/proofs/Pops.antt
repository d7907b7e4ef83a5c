-- What the code of pop.rt does at each return, from `discard_front` on, as laws over plain values; the proof files hand them to `search`. A signed number
-- stands twice, as it is and as the machine reads it back. Assumes nothing.
use mathlib.Core.Path.{◌≡◌, refl, sym, ◌∙◌, subst}
use mathlib.Core.Bool.{Bool, true, false, ◌&&◌}
use mathlib.Core.List.{List}
use Prim.Native.Nat.{ℕ, ◌<◌, ◌≤◌}
use native.Mathlib.Omega.{arith}
use borrow.Author.Rules.{rules}
use borrow.Author.Tests.{lt-ltb, le-ltb, eq-eqb, ne_eqb}
use lib.Dec.{ltb, eqb}
use lib.IntN.{ℤ}
use lib.ListN.{length}
use lib.Signed.{lt_z}
use Rattle.std.specs.Prelude.{Option, Some, None, Result, Ok, Err}
use Rattle.numbers.specs.Instants.{interval_of}
use Rattle.numbers.proofs.Flags.{impossible, by-test, by-order}
use Rattle.numbers.proofs.Circle.{sum_below}
use Rattle.clock.specs.Release.{release_of}
use Rattle.clock.specs.declared.base.TimeBase.{TimeBase}
use Rattle.clock.specs.declared.time.Release.{Release}
use Rattle.clock.specs.declared.time.SynchronizedRemoteClock.{SynchronizedRemoteClock}
use Rattle.slots.specs.Words.{is_received, entry_at, stamp_in}
use Rattle.slots.specs.declared.entry.Entry.{Entry}
use Rattle.slots.specs.declared.entry.Entry.TheVariants.{GivenUp}
use Rattle.slots.proofs.Laws.{slot_lt}
use Rattle.window.specs.Window.{entry_in, lrsn_from, cut}
use Rattle.window.specs.Ready.{Good, Ring}
use Rattle.window_pop.specs.Pop.{pop_ended, message_of, filled, walk_from, due_of, limit_of, discard_front, discarded, released_of, late_of, front_of, pop_of}
use Rattle.window_pop.specs.Inner.{front_in}
use Rattle.window.specs.declared.Window.{Window}
use Rattle.window_pop.specs.declared.pop.Message.{Message}
use Rattle.window_pop.specs.declared.pop.Walk.{Walk}
use Rattle.window_pop.specs.declared.pop.OutShort.{OutShort}
use Rattle.window_pop.specs.declared.pop.Popped.{Popped}
use Rattle.window_pop.specs.declared.pop.PopAnswer.{PopAnswer}
use Rattle.window_pop.specs.declared.pop.PopAnswer.TheVariants as answers
use Rattle.window_pop.proofs.Runs.{front-entry}
use Rattle.window_pop.proofs.Fills.{front-room, front-held}
use Rattle.window_pop.proofs.Lates.{Walked, walk-held}

abbrev popped : Window → SynchronizedRemoteClock → PopAnswer → Popped
popped w k a = record { window = w; clock = k; answer = a }

-- discard_front: what is left of a window is one
pub cut-good : {w c : Window} {ws : List ℕ} (n : ℕ) → c ≡ cut w n → Good w ws → n ≤ w.held → Good c ws
cut-good {w} n e g h =
    let s = slot_lt w.capacity w.start n g.ranges.some in
    let f = sum_below 31 w.seqno0 n in
    rw e
    (record {
      ranges = record { some = g.ranges.some; most = g.ranges.most; starts = s; holds = omega (arith, g.ranges.holds); seqno0 = f; lrsn = g.ranges.lrsn };
      words = g.words;
    })

pub front-discarded : (w : Window) (ws : List ℕ) (n : ℕ) {c : Window} {l : ℕ} → c ≡ cut w n → l ≡ lrsn_from c ws 0
    → ◌≡◌ {A = Window} (record { capacity = c.capacity; start = c.start; held = c.held; seqno0 = c.seqno0; lrsn = l }) (discard_front w ws n)
unfolding discard_front
front-discarded w ws n e f = rw (f, e)

-- discard
pub discard-some : (k : SynchronizedRemoteClock) (latency : ℕ) (w : Window) (ws : List ℕ) (now : ℤ) (walk : Walk) {d d₁ n i i₁ : ℤ} {c : Window}
    → c ≡ discard_front w ws walk.count → d ≡ due_of k.base latency walk.first_stamp → i ≡ interval_of d₁ n → d₁ ≡ d → n ≡ now → i₁ ≡ i
    → popped c k (answers.Late w.seqno0 c.seqno0 i₁) ≡ discarded k latency w ws now (Some walk)
unfolding discarded discard_front
discard-some k latency w ws now walk e a b p q o = rw (o, b, p, q, a, e)

-- drop_late
walk-there : (w : Window) (ws : List ℕ) (base : TimeBase) (limit : ℤ) {walk : Walk} → Some walk ≡ walk_from base limit w.capacity w.start ws 0 None w.held → Walked w.held (Some walk)
walk-there w ws base limit e = subst (Walked w.held) (sym e) (walk-held base limit w.capacity w.start ws w.held w.held 0 None (omega arith) tt)

pub walk-some : (w : Window) (ws : List ℕ) (base : TimeBase) (limit : ℤ) {walk : Walk} → Some walk ≡ walk_from base limit w.capacity w.start ws 0 None w.held → 0 < walk.count
walk-some w ws base limit e = (walk-there w ws base limit e).0

pub walk-within : (w : Window) (ws : List ℕ) (base : TimeBase) (limit : ℤ) {o : Option Walk} {walk : Walk}
    → o ≡ walk_from base limit w.capacity w.start ws 0 None w.held → o ≡ Some walk → walk.count ≤ w.held
walk-within w ws base limit e f = (walk-there w ws base limit (sym f ∙ e)).1

module _ (k : SynchronizedRemoteClock) (latency : ℕ) (drop : Bool) (w : Window) (ws : List ℕ) (now : ℤ) where
  pub drop-off : drop ≡ false → popped w k answers.Nothing ≡ late_of k latency drop w ws now
  unfolding late_of
  drop-off h = rw h

  module _ {z l m : ℤ} {o : Option Walk} (h : drop ≡ true) (b : o ≡ walk_from k.base m w.capacity w.start ws 0 None w.held) (q : m ≡ l) (c : l ≡ limit_of z latency) (p : z ≡ now) where
    there : late_of k latency drop w ws now ≡ discarded k latency w ws now o
    unfolding late_of
    there = rw (h, b, q, c, p)

    pub drop-some : {n : ℤ} {walk : Walk} {r : Popped} → o ≡ Some walk → r ≡ discarded k latency w ws n (Some walk) → n ≡ now → r ≡ late_of k latency drop w ws now
    drop-some f a g = rw (there, f) (a ∙ rw g)

    pub drop-none : o ≡ None → popped w k answers.Nothing ≡ late_of k latency drop w ws now
    unfolding discarded
    drop-none f = rw (there, f)

-- release
pub front-some : (w : Window) (ws : List ℕ) {o : Option Message} {m : Message} → o ≡ message_of w ws → o ≡ Some m → Some m ≡ message_of w ws
front-some w ws b f = sym f ∙ b

pub front-ring : (w : Window) (ws : List ℕ) {m : Message} → Some m ≡ message_of w ws → Good w ws → Ring w.capacity w.start m.packets ws
front-ring w ws c g =
    record { most = g.ranges.most; starts = g.ranges.starts; holds = omega (arith, front-held w ws c, g.ranges.holds); words = g.words }

module _ (k : SynchronizedRemoteClock) (w : Window) (ws bs out : List ℕ) (stamp : ℕ) (m : Message) where
  pub release-short : length out < m.bytes → pop_ended (Err (record {})) out ≡ released_of k w ws bs out stamp m
  unfolding released_of
  release-short h = rw (lt-ltb _ _ h)

  pub release-whole : {r : Release} {t : ℤ} {c : Window} {out₁ : List ℕ}
      → m.bytes ≤ length out → r ≡ release_of k stamp → c ≡ cut w m.packets → out₁ ≡ (filled w.capacity w.start ws bs out m.packets).out → t ≡ r.time
      → pop_ended (Ok (popped c r.clock (answers.Message t m.bytes m.packets))) out₁ ≡ released_of k w ws bs out stamp m
  unfolding released_of
  release-whole h a b e p = rw (le-ltb _ _ h, p, a, b, e)

-- front
pub no_front : (w : Window) (ws : List ℕ) → w.held ≡ 0 → GivenUp ≡ front_in w ws
unfolding front_in
no_front w ws h = rw (eq-eqb w.held 0 h)

pub some-front : (w : Window) (ws : List ℕ) {e : Entry} → (w.held ≡ 0 → ⊥) → e ≡ entry_at ws w.start → w.start < w.capacity → e ≡ front_in w ws
unfolding front_in
some-front w ws h c g = rw (ne_eqb w.held 0 h) (front-entry w ws c g)

-- a window that holds nothing has no received front; one that holds some has it in the start slot
front-test : (w : Window) (ws : List ℕ) → (ltb 0 w.held && is_received (entry_in w ws 0)) ≡ is_received (front_in w ws)
unfolding front_in
front-test w ws =
    by-order 0 w.held
    (λ h. rw (lt-ltb 0 w.held h, ne_eqb w.held 0 (λ e. omega arith)))
    (λ h. rw (le-ltb 0 w.held h, eq-eqb w.held 0 (omega arith)))

front_same : (w : Window) (ws : List ℕ) → is_received (front_in w ws) ≡ true → front_in w ws ≡ entry_in w ws 0
unfolding front_in
front_same w ws =
    by-test (λ (e : Entry). is_received e ≡ true → e ≡ entry_in w ws 0) (eqb w.held 0) GivenUp (entry_in w ws 0) (λ t f. impossible (sym f)) (λ t f. refl)

-- pop_front
module _ (k : SynchronizedRemoteClock) (latency : ℕ) (drop : Bool) (w : Window) (ws : List ℕ) (now : ℤ) (bs out : List ℕ) where
  module _ (stamp : ℕ) {d d₁ n : ℤ} (a : d ≡ due_of k.base latency stamp) (p : d₁ ≡ d) (q : n ≡ now) where
    pub front-early : lt_z n d₁ ≡ true → pop_ended (Ok (popped w k answers.Nothing)) out ≡ front_of k latency drop w ws now bs out stamp
    unfolding front_of
    front-early h = rw (← a, ← p, ← q, h)

    module _ {o : Option Message} (h : lt_z n d₁ ≡ false) (b : o ≡ message_of w ws) where
      pub front-released : {m : Message} {r : Result Popped OutShort} {out₁ : List ℕ}
          → o ≡ Some m → pop_ended r out₁ ≡ released_of k w ws bs out stamp m → pop_ended r out₁ ≡ front_of k latency drop w ws now bs out stamp
      unfolding front_of
      front-released f e = rw (← a, ← p, ← q, h, ← b, f) e

      pub front-late : {r : Popped} {z : ℤ}
          → o ≡ None → r ≡ late_of k latency drop w ws z → z ≡ now → pop_ended (Ok r) out ≡ front_of k latency drop w ws now bs out stamp
      unfolding front_of
      front-late f e g = rw (← a, ← p, ← q, h, ← b, f) (rw e (rw (g ∙ sym q)))

  -- pop
  module _ {e : Entry} {t : Bool} (c : e ≡ front_in w ws) (d : t ≡ is_received e) where
    pub pop-received : {stamp : ℕ} {z : ℤ} {r : Result Popped OutShort} {out₁ : List ℕ}
        → t ≡ true → stamp ≡ stamp_in e → pop_ended r out₁ ≡ front_of k latency drop w ws z bs out stamp → z ≡ now → pop_ended r out₁ ≡ pop_of k latency drop w ws now bs out
    unfolding pop_of
    pop-received f a b o =
        let g : is_received (front_in w ws) ≡ true = rw (← c, ← d) f in
        rw (front-test w ws, g, ← front_same w ws g, ← c, ← a, ← o) b

    pub pop-gap : {r : Popped} {z : ℤ} → t ≡ false → r ≡ late_of k latency drop w ws z → z ≡ now → pop_ended (Ok r) out ≡ pop_of k latency drop w ws now bs out
    unfolding pop_of
    pop-gap f a o = rw (front-test w ws, ← c, ← d, f, a, o)

pub ruleset pops = (
  cut-good,
  front-discarded,
  discard-some,
  walk-within,
  drop-off,
  drop-some,
  drop-none,
  front-some,
  front-ring,
  front-room,
  front-held,
  release-short,
  release-whole,
  front-early,
  front-released,
  front-late,
  no_front,
  some-front,
  pop-received,
  pop-gap,
  rules,
)
