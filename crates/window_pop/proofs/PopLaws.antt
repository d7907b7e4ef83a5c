-- What the layers above may say of a pop, from its definition alone: 01, "Window" and refusal 11. It ends in one of four ways (`pop-cases`). Assumes nothing.
use mathlib.Core.Path.{◌≡◌, refl, sym, ap}
use mathlib.Core.Bool.{Bool, true, ◌&&◌}
use mathlib.Core.List.{List}
use Prim.Native.Nat.{ℕ, ◌<◌, ◌≤◌}
use native.Mathlib.Omega.{arith}
use borrow.Author.Tests.{ltb-true, ltb-false}
use lib.Dec.{ltb}
use lib.IntN.{ℤ}
use lib.ListN.{length}
use lib.Signed.{lt_z}
use Rattle.std.specs.Prelude.{Option, Some, None, Ok, Err}
use Rattle.numbers.specs.Instants.{interval_of}
use Rattle.numbers.proofs.Flags.{by-test}
use Rattle.numbers.proofs.Circle.{sum_below}
use Rattle.clock.specs.Release.{release_of}
use Rattle.clock.specs.Ranges.{clock_ok}
use Rattle.clock.specs.declared.time.SynchronizedRemoteClock.{SynchronizedRemoteClock}
use Rattle.clock.proofs.Kept.{release-kept}
use Rattle.slots.specs.Words.{is_received, stamp_in}
use Rattle.window.specs.Window.{entry_in, number_in, cut}
use Rattle.window.specs.Ready.{Good, Bytes}
use Rattle.window_pop.specs.Pop.{PopOutcome, pop_ended, window_after, clock_after, answered, message_of, filled, walk_from, due_of, limit_of, nothing, discard_front, discarded, released_of, late_of, by_message, front_of, pop_of}
use Rattle.window.specs.declared.Window.{Window}
use Rattle.window_pop.specs.declared.pop.Message.{Message}
use Rattle.window_pop.specs.declared.pop.Walk.{Walk}
use Rattle.window_pop.specs.declared.pop.Popped.{Popped}
use Rattle.window_pop.specs.declared.pop.PopAnswer.TheVariants as answers
use Rattle.window_pop.proofs.Runs.{by-option}
use Rattle.window_pop.proofs.Fills.{front-whole, front-room, front-held, fill-length}
use Rattle.window_pop.proofs.Pops.{cut-good, walk-some, walk-within}

-- what is left of a good window is good
pub discard-good : (w : Window) (ws : List ℕ) (n : ℕ) → Good w ws → n ≤ w.held → Good (discard_front w ws n) ws
unfolding discard_front
discard-good w ws n g h =
    let c : Good (cut w n) ws = cut-good n refl g h in
    let r = c.ranges in
    record {
      ranges = record { some = r.some; most = r.most; starts = r.starts; holds = r.holds; seqno0 = r.seqno0; lrsn = sum_below 31 _ _ };
      words = c.words;
    }

-- what a message and a late drop leave
pub record Delivered (w : Window) (out : List ℕ) (x : PopOutcome) (bytes packets : ℕ) : Type 0 where
  pub some : 0 < packets
  pub held : packets ≤ w.held
  pub fits : bytes ≤ length out
  pub window : window_after w x.popped ≡ cut w packets

pub record Dropped (k : SynchronizedRemoteClock) (w : Window) (ws out : List ℕ) (x : PopOutcome) (first end : ℕ) : Type 0 where
  pub count : ℕ
  pub some : 0 < count
  pub held : count ≤ w.held
  pub begins : first ≡ w.seqno0
  pub ends : end ≡ number_in w count
  pub window : window_after w x.popped ≡ discard_front w ws count
  pub clock : clock_after k x.popped ≡ k
  pub output : x.output ≡ out

module _ (k : SynchronizedRemoteClock) (latency : ℕ) (drop : Bool) (w : Window) (ws : List ℕ) (now : ℤ) where
  -- the first n entries go, the first received one of them has this stamp
  abbrev pub dropped : ℕ → ℕ → Popped
  dropped n stamp =
      record {
        window = discard_front w ws n;
        clock = k;
        answer = answers.Late w.seqno0 (number_in w n) (interval_of (due_of k.base latency stamp) now);
      }

  pub late-cases : (P : Popped → Type 0) → P (nothing k w) → ((n stamp : ℕ) → 0 < n → n ≤ w.held → P (dropped n stamp)) → P (late_of k latency drop w ws now)
  unfolding late_of discarded
  late-cases P a b =
      let walk : Option Walk = walk_from k.base (limit_of now latency) w.capacity w.start ws 0 None w.held in
      by-test P drop _ _
      (λ t.
      by-option (λ (o : Option Walk). P (discarded k latency w ws now o)) walk
      (λ x e. b x.count x.first_stamp (walk-some w ws k.base (limit_of now latency) (sym e)) (walk-within w ws k.base (limit_of now latency) refl e))
      (λ e. a))
      (λ t. a)

  module _ (bs out : List ℕ) where
    abbrev pub refused : PopOutcome
    refused = pop_ended (Err (record {})) out

    abbrev pub given : Message → PopOutcome
    given m =
        let r = release_of k (stamp_in (entry_in w ws 0)) in
        pop_ended
        (Ok (record { window = cut w m.packets; clock = r.clock; answer = answers.Message r.time m.bytes m.packets }))
        (filled w.capacity w.start ws bs out m.packets).out

    -- nothing, refusal 11, a message, or a late drop
    pub pop-cases : (P : PopOutcome → Type 0)
        → P (pop_ended (Ok (nothing k w)) out)
        → ((m : Message) → Some m ≡ message_of w ws → length out < m.bytes → P refused)
        → ((m : Message) → Some m ≡ message_of w ws → m.bytes ≤ length out → P (given m))
        → ((n stamp : ℕ) → 0 < n → n ≤ w.held → P (pop_ended (Ok (dropped n stamp)) out))
        → P (pop_of k latency drop w ws now bs out)
    unfolding pop_of front_of released_of
    pop-cases P a b c d =
        let stamp = stamp_in (entry_in w ws 0) in
        let late = late-cases (λ (r : Popped). P (pop_ended (Ok r) out)) a d in
        by-test P (ltb 0 w.held && is_received (entry_in w ws 0)) _ _
        (λ t.
        by-test P (lt_z now (due_of k.base latency stamp)) _ _
        (λ u. a)
        (λ u.
        by-option (λ (o : Option Message). P (by_message k latency drop w ws now bs out stamp o)) (message_of w ws)
        (λ m e.
        by-test P (ltb (length out) m.bytes) _ _
        (λ y. b m (sym e) (ltb-true (length out) m.bytes y))
        (λ y. c m (sym e) (ltb-false (length out) m.bytes y)))
        (λ e. late)))
        (λ t. late)

    abbrev outcome : PopOutcome
    outcome = pop_of k latency drop w ws now bs out

    -- a good window stays one, a clock in range too, and the output keeps its length
    pub pop-good : Good w ws → Good (window_after w outcome.popped) ws
    pop-good g =
        pop-cases (λ (x : PopOutcome). Good (window_after w x.popped) ws)
        g
        (λ m e long. g)
        (λ m e fits. cut-good m.packets refl g (front-held w ws e))
        (λ n stamp some held. discard-good w ws n g held)

    pub pop-clock : clock_ok k ≡ true → clock_ok (clock_after k outcome.popped) ≡ true
    pop-clock g =
        pop-cases (λ (x : PopOutcome). clock_ok (clock_after k x.popped) ≡ true)
        g
        (λ m e long. g)
        (λ m e fits. release-kept k (stamp_in (entry_in w ws 0)) g)
        (λ n stamp some held. g)

    pub pop-length : w.start < w.capacity → Bytes w bs → length outcome.output ≡ length out
    pop-length h hb =
        pop-cases (λ (x : PopOutcome). length x.output ≡ length out)
        refl
        (λ m e long. refl)
        (λ m e fits. fill-length w.capacity w.start ws bs out m.packets (front-room w ws bs out e fits) h hb)
        (λ n stamp some held. refl)

    -- refusal 11: the output stays, and the message in front is longer than it
    pub pop-refused : outcome.popped ≡ Err (record {}) → outcome ≡ refused
    pop-refused =
        pop-cases (λ (x : PopOutcome). x.popped ≡ Err (record {}) → x ≡ refused)
        (λ e. absurd (let z : ◌≡◌ {A = ℕ} 0 1 = cc in omega arith))
        (λ m f long e. refl)
        (λ m f fits e. absurd (let z : ◌≡◌ {A = ℕ} 0 1 = cc in omega arith))
        (λ n stamp some held e. absurd (let z : ◌≡◌ {A = ℕ} 0 1 = cc in omega arith))

    -- nothing: window, clock and output stay
    pub pop-nothing : answered outcome.popped ≡ Ok answers.Nothing → outcome ≡ pop_ended (Ok (nothing k w)) out
    pop-nothing =
        pop-cases (λ (x : PopOutcome). answered x.popped ≡ Ok answers.Nothing → x ≡ pop_ended (Ok (nothing k w)) out)
        (λ e. refl)
        (λ m f long e. absurd (let z : ◌≡◌ {A = ℕ} 0 1 = cc in omega arith))
        (λ m f fits e. absurd (let z : ◌≡◌ {A = ℕ} 0 1 = cc in omega arith))
        (λ n stamp some held e. absurd (let z : ◌≡◌ {A = ℕ} 0 1 = cc in omega arith))

    -- a message takes its packets off the front, one at least, and its bytes fit the output
    pub pop-message : {time : ℤ} {bytes packets : ℕ} → answered outcome.popped ≡ Ok (answers.Message time bytes packets) → Delivered w out outcome bytes packets
    pop-message {time} {bytes} {packets} =
        pop-cases (λ (x : PopOutcome). answered x.popped ≡ Ok (answers.Message time bytes packets) → Delivered w out x bytes packets)
        (λ e. absurd (let z : ◌≡◌ {A = ℕ} 0 1 = cc in omega arith))
        (λ m f long e. absurd (let z : ◌≡◌ {A = ℕ} 0 1 = cc in omega arith))
        (λ m f fits e.
        let b : m.bytes ≡ bytes = cc in
        let p : m.packets ≡ packets = cc in
        let whole = front-whole w ws bs out f in
        record { some = omega (arith, whole.some); held = omega (arith, whole.held); fits = omega arith; window = ap (cut w) p })
        (λ n stamp some held e. absurd (let z : ◌≡◌ {A = ℕ} 0 1 = cc in omega arith))

    -- a late drop takes one entry at least off the front, and says which
    pub pop-late : {first end : ℕ} {delay : ℤ} → answered outcome.popped ≡ Ok (answers.Late first end delay) → Dropped k w ws out outcome first end
    pop-late {first} {end} {delay} =
        pop-cases (λ (x : PopOutcome). answered x.popped ≡ Ok (answers.Late first end delay) → Dropped k w ws out x first end)
        (λ e. absurd (let z : ◌≡◌ {A = ℕ} 0 1 = cc in omega arith))
        (λ m f long e. absurd (let z : ◌≡◌ {A = ℕ} 0 1 = cc in omega arith))
        (λ m f fits e. absurd (let z : ◌≡◌ {A = ℕ} 0 1 = cc in omega arith))
        (λ n stamp some held e.
        let f : first ≡ w.seqno0 = cc in
        let l : end ≡ number_in w n = cc in
        record { count = n; some = some; held = held; begins = f; ends = l; window = refl; clock = refl; output = refl })
