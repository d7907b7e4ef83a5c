-- What the code of message.rt does with a message of one packet, as laws over plain values: its release is the pop's. Assumes nothing.
use mathlib.Core.Path.{◌≡◌, refl, sym, ◌∙◌, ap}
use mathlib.Core.Bool.{Bool, true, false, not, ◌&&◌}
use mathlib.Core.List.{List}
use Prim.Native.Nat.{ℕ, suc, ◌+◌, ◌-◌, ◌*◌, ◌^◌, ◌<◌, ◌≤◌}
use native.Mathlib.Omega.{arith}
use borrow.Author.Rules.{rules}
use borrow.Author.Tests.{lt-ltb, ltb-true, ltb-false, not-true, eq-eqb}
use lib.Dec.{ltb}
use lib.IntN.{ℤ, nat_abs}
use lib.ListN.{length, set}
use lib.Seq.{paste}
use lib.Signed.{lt_z}
use Rattle.std.specs.Prelude.{Option, Some, Ok}
use Rattle.numbers.proofs.Flags.{impossible, and_left, and_right}
use Rattle.clock.specs.Release as releases
use Rattle.clock.specs.Release.{release_of}
use Rattle.clock.specs.declared.base.TimeBase.{TimeBase}
use Rattle.clock.specs.declared.stats.OnlineStats.{OnlineStats}
use Rattle.clock.specs.declared.time.Release.{Release}
use Rattle.clock.specs.declared.time.SynchronizedRemoteClock.{SynchronizedRemoteClock}
use Rattle.slots.specs.Words.{is_received, entry_at, length_in, stamp_in, message_in, is_first, is_last, in_message}
use Rattle.slots.specs.Ring.{slot_of, payload_at}
use Rattle.slots.specs.declared.entry.Entry.{Entry}
use Rattle.slots.specs.declared.entry.Entry.TheVariants.{Lost, Received, GivenUp}
use Rattle.slots.proofs.Laws.{slot-zero, length-read}
use Rattle.window.specs.Window.{entry_in, cut}
use Rattle.window.specs.Ready.{Good}
use Rattle.window.specs.declared.Window.{Window}
use Rattle.window_pop.specs.Pop.{pop_ended, run_from, message_of, filled, due_of, pop_of}
use Rattle.window_pop.specs.Pop as pop
use Rattle.window_pop.specs.declared.pop.PopAnswer.TheVariants as answers
use Rattle.head.specs.declared.state.Head.{Head}
use Rattle.packing.specs.Words.{word_of, number_of, flag_of, moment_of}
use Rattle.packing.specs.Packed as packed
use Rattle.packing.specs.Packed.{at, window_of, base_of, clock_of, head_of, formed, pack_of}
use Rattle.packing.specs.Puts.{put_window, put_base, put_stats}
use Rattle.packing.proofs.Undo.{pack-unpack}
use Rattle.inplace.proofs.Messages.{says-head, take-ready, take-is}
use Rattle.sound.specs.Sound.{Typed}
use Rattle.inplace.specs.Calls.{PopIn, pop_in}
use Rattle.inplace.specs.Pops.{put_popped, released_of, is_single, release_time, put_single, Single, single_of, Fronted, is_usual, Usual, usual_of, Popping, message_taken}

-- is_single
module _ (w : Window) (base : TimeBase) (latency : ℕ) (slots : List ℕ) (room : ℕ) (now : ℤ) where
  pub single-empty : w.held ≡ 0 → false ≡ is_single w base latency slots room now
  unfolding is_single
  single-empty e = rw e

  pub single-by : {e : Entry} {f l : Bool} {s n : ℕ} {t z : ℤ} → (w.held ≡ 0 → ⊥) → e ≡ entry_at slots w.start → s ≡ stamp_in e → t ≡ due_of base latency s → f ≡ is_first e → l ≡ is_last e
      → n ≡ length_in e → z ≡ now → (f && l && not (lt_z z t) && not (ltb room n)) ≡ is_single w base latency slots room now
  unfolding is_single
  single-by h a b c d e g z = rw (lt-ltb 0 w.held (omega (arith, h)), d, e, z, c, b, g, a)

pub start-words : (w : Window) (slots : List ℕ) → Good w slots → 3 * w.start + 3 ≤ length slots
start-words w slots g = omega (arith, g.words, g.ranges.starts)

-- put_single
pub single-put : (ws : List ℕ) (w : Window) (released now : ℤ) {a b c d e : ℕ} {x y : ℤ}
    → a ≡ w.start → b ≡ w.held → c ≡ w.seqno0 → d ≡ word_of x → x ≡ released → e ≡ word_of y → y ≡ now
    → set (set (set (set (set (set ws 2 a) 3 b) 4 c) 10 1) 11 d) 0 e ≡ put_single ws w released now
unfolding put_single
single-put ws w released now a b c d e f g = rw (a, b, c, d, e, f, g)

-- release_single
module _ (w : Window) (base : TimeBase) (slots bs out : List ℕ) where
  pub pays-small : {e : Entry} {n : ℕ} → e ≡ entry_at slots w.start → n ≡ length_in e → n ≤ 1456
  pays-small {n = n} a b = let q : n ≡ length_in (entry_at slots w.start) = b ∙ ap length_in a in omega (arith, q, length-read slots w.start)

  pub pays-place : Single w base slots bs out → 1456 * w.start + 1456 ≤ length bs
  pays-place r = let g = r.good in omega (arith, r.payloads, g.ranges.starts)

  pub pays-fits : {e : Entry} {n : ℕ} → Single w base slots bs out → e ≡ entry_at slots w.start → n ≡ length_in e → 0 + n ≤ length out
  pays-fits {n = n} r a b = let q : n ≡ length_in (entry_at slots w.start) = b ∙ ap length_in a in omega (arith, q, r.fits)

  module _ (r : Single w base slots bs out) where
    pub cuts-starts : w.start < w.capacity
    cuts-starts = r.good.ranges.starts

    pub cuts-most : w.capacity ≤ 8192
    cuts-most = r.good.ranges.most

    pub cuts-holds : w.held ≤ w.capacity
    cuts-holds = r.good.ranges.holds

    pub cuts-one : 1 ≤ w.held
    cuts-one = omega (arith, r.some)

  pub single-gone : (ws : List ℕ) (now : ℤ) {e : Entry} {n s : ℕ} {t t₁ z : ℤ} {c : Window} {vs out₁ : List ℕ}
      → e ≡ entry_at slots w.start → n ≡ length_in e → out₁ ≡ paste out 0 (payload_at bs w.start n) n → s ≡ stamp_in e
      → t ≡ release_time ws base s → t₁ ≡ t → c ≡ cut w 1 → vs ≡ put_single ws c t₁ z → z ≡ now
      → pop_in (Ok (answers.Message t n 1)) vs out₁ ≡ single_of ws w base slots bs out now
  unfolding single_of
  single-gone ws now a b c d e f g h i = rw (h, c, g, f, i, e, d, b, a)

-- release_time
pub timed : (ws : List ℕ) (base : TimeBase) (s : ℕ) {m : Option ℤ} (b : Bool) (x : OnlineStats) {r : Release}
    → m ≡ moment_of (at ws 10) (at ws 11) → r ≡ release_of (record { base = base; last = m; seen = b; stats = x }) s → r.time ≡ release_time ws base s
unfolding release_of releases.released
timed ws base s b x d f = rw (f, d)

-- a message of one packet in front, due and not too long, is what the pop gives
received-first : (e : Entry) → is_first e ≡ true → is_received e ≡ true
received-first (Lost k f) h = impossible (sym h)
received-first (Received n l m t) h = refl
received-first GivenUp h = impossible (sym h)

own-message : (e : Entry) → is_first e ≡ true → in_message (message_in e) e ≡ true
own-message (Lost k f) h = impossible (sym h)
own-message (Received n l m t) h = eq-eqb m m refl
own-message GivenUp h = impossible (sym h)

module _ (w : Window) (base : TimeBase) (latency : ℕ) (slots : List ℕ) (room : ℕ) (now : ℤ) (h : is_single w base latency slots room now ≡ true) where
  abbrev front : Entry
  front = entry_at slots w.start

  abbrev early : Bool
  early = lt_z now (due_of base latency (stamp_in front))

  abbrev long : Bool
  long = ltb room (length_in front)

  all-four : (is_first front && is_last front && not early && not long) ≡ true
  unfolding is_single
  all-four = and_right (ltb 0 w.held) (is_first front && is_last front && not early && not long) h

  three : (is_first front && is_last front && not early) ≡ true
  three = and_left (is_first front && is_last front && not early) (not long) all-four

  ends : (is_first front && is_last front) ≡ true
  ends = and_left (is_first front && is_last front) (not early) three

  some : 0 < w.held
  unfolding is_single
  some = ltb-true 0 w.held (and_left (ltb 0 w.held) (is_first front && is_last front && not early && not long) h)

  not-early : early ≡ false
  not-early = not-true early (and_right (is_first front && is_last front) (not early) three)

  not-long : long ≡ false
  not-long = not-true long (and_right (is_first front && is_last front && not early) (not long) all-four)

  with_first : is_first front ≡ true
  with_first = and_left (is_first front) (is_last front) ends

  with-last : is_last front ≡ true
  with-last = and_right (is_first front) (is_last front) ends

  module _ (g : Good w slots) where
    at-start : slot_of w.capacity w.start 0 ≡ w.start
    at-start = slot-zero w.capacity w.start g.ranges.starts

    in-front : entry_in w slots 0 ≡ front
    in-front = ap (entry_at slots) at-start

    run : (n : ℕ) → run_from w.capacity w.start slots (message_in front) 0 0 (suc n) ≡ Some (record { packets = 1; bytes = length_in front })
    unfolding run_from
    run n = let z : 0 + length_in front ≡ length_in front = omega arith in rw (at-start, own-message front with_first, with-last, z)

    counted : message_of w slots ≡ Some (record { packets = 1; bytes = length_in front })
    unfolding message_of
    counted = let e : w.held ≡ suc (w.held - 1) = omega (arith, some) in rw (in-front, with_first, e) (run (w.held - 1))

    put : (bs out : List ℕ) → (filled w.capacity w.start slots bs out 1).out ≡ paste out 0 (payload_at bs w.start (length_in front)) (length_in front)
    unfolding filled
    put bs out = rw at-start

pop-single : (k : SynchronizedRemoteClock) (latency : ℕ) (drop : Bool) (w : Window) (slots : List ℕ) (now : ℤ) (bs out : List ℕ) → Good w slots → is_single w k.base latency slots (length out) now ≡ true
    → let e = entry_at slots w.start in
    let r = release_of k (stamp_in e) in
    pop_of k latency drop w slots now bs out
    ≡ pop_ended (Ok (record { window = cut w 1; clock = r.clock; answer = answers.Message r.time (length_in e) 1 })) (paste out 0 (payload_at bs w.start (length_in e)) (length_in e))
unfolding pop_of pop.front_of pop.released_of
pop-single k latency drop w slots now bs out g h =
    let b = k.base in
    let n = length out in
    let e = entry_at slots w.start in
    rw (
      lt-ltb 0 w.held (some w b latency slots n now h),
      in-front w b latency slots n now h g,
      received-first e (with_first w b latency slots n now h),
      not-early w b latency slots n now h,
      counted w b latency slots n now h g,
      not-long w b latency slots n now h,
      put w b latency slots n now h g bs out,
    )

-- and the words that it leaves alone are those that the pop would write
single-words : (h : Head) (s : ℕ) (now : ℤ)
    → let r = release_of h.clock s in put_single (pack_of h) (cut h.window 1) r.time now ≡ put_popped (pack_of h) (cut h.window 1) r.clock now
unfolding put_single put_popped put_window put_base put_stats pack_of packed.numbers_words release_of
single-words h s now = refl

module _ (ws slots bs out : List ℕ) (now : ℤ) where
  same-words : Typed ws → formed ws ≡ true → (s : ℕ)
      → let r = release_of (clock_of ws) s in put_single ws (cut (window_of ws) 1) r.time now ≡ put_popped ws (cut (window_of ws) 1) r.clock now
  unfolding head_of
  same-words t f s =
      let r = release_of (clock_of ws) s in
      let e : ws ≡ pack_of (head_of ws) = sym (pack-unpack ws t.small f t.long) ∙ ap pack_of (says-head ws f) in
      ap (λ (l : List ℕ). put_single l (cut (window_of ws) 1) r.time now) e
      ∙ single-words (head_of ws) s now
      ∙ ap (λ (l : List ℕ). put_popped l (cut (window_of ws) 1) r.clock now) (sym e)

  -- is_usual
  pub usual-by : {w : Window} {b : TimeBase} {l : ℕ} {c : Bool} {t : ℤ} (n : ℕ) → w ≡ window_of ws → b ≡ base_of ws → l ≡ number_of (at ws 6)
      → c ≡ is_single w b l slots n t → t ≡ now → c ≡ is_usual ws slots n now
  unfolding is_usual
  usual-by n e f g d i = rw (d, e, f, g, i)

  pub fronts-window : {w : Window} → Fronted ws slots → w ≡ window_of ws → Good w slots
  fronts-window p e = rw e p.good

  pub fronts-base : {b : TimeBase} → Fronted ws slots → b ≡ base_of ws → nat_abs b.time ≤ 2 ^ 61
  fronts-base p e = rw e p.reference

  pub fronts-latency : {l : ℕ} → Fronted ws slots → l ≡ number_of (at ws 6) → l ≤ 65535000
  fronts-latency p e = rw e p.setting

  -- release_usual
  pub usual-single : {w : Window} {b : TimeBase} → Usual ws slots bs out → w ≡ window_of ws → b ≡ base_of ws → Single w b slots bs out
  usual-single r e f = rw (e, f) r.single

  pub usual-gone : {w : Window} {b : TimeBase} {x : PopIn} {t : ℤ} → w ≡ window_of ws → b ≡ base_of ws → x ≡ single_of ws w b slots bs out t → t ≡ now → x ≡ usual_of ws slots bs out now
  unfolding usual_of
  usual-gone e f x q = rw (x, e, f, q)

  -- take
  usual-is : Typed ws → Popping ws slots bs now → is_usual ws slots (length out) now ≡ true → usual_of ws slots bs out now ≡ released_of ws slots bs out now
  unfolding is_usual usual_of released_of single_of release_of releases.released
  usual-is t p h =
      let e = entry_at slots (window_of ws).start in
      rw (
        pop-single (clock_of ws) (number_of (at ws 6)) (flag_of (at ws 7)) (window_of ws) slots now bs out p.ready.good h,
        same-words t p.says (stamp_in e),
      )

  pub take-front : Popping ws slots bs now → Fronted ws slots
  take-front p = let r = p.ready in record { good = r.good; reference = r.reference; setting = r.setting }

  pub take-usual : {c : Bool} (t : ℤ) → Popping ws slots bs now → c ≡ is_usual ws slots (length out) t → c ≡ true → Usual ws slots bs out
  unfolding is_usual
  take-usual t p d h =
      let r = p.ready in
      let w = window_of ws in
      let b = base_of ws in
      let l = number_of (at ws 6) in
      let i : is_single w b l slots (length out) t ≡ true = sym d ∙ h in
      record {
        single = record {
          good = r.good;
          payloads = r.payloads;
          some = some w b l slots (length out) t i;
          reference = r.reference;
          fits = ltb-false (length out) (length_in (entry_at slots w.start)) (not-long w b l slots (length out) t i);
        };
      }

  pub usual-taken : {c : Bool} {x : PopIn} {t t₁ : ℤ} → Typed ws → Popping ws slots bs now → c ≡ is_usual ws slots (length out) t → t ≡ now → c ≡ true
      → x ≡ usual_of ws slots bs out t₁ → t₁ ≡ now → x ≡ message_taken ws slots bs out now
  usual-taken y p d i h j k = take-is ws slots bs out now y p (j ∙ rw k (usual-is y p (rw i at (sym d ∙ h)))) refl

pub ruleset singles = (single-empty, single-by, start-words, single-put, pays-small, pays-place, pays-fits, cuts-starts, cuts-most, cuts-holds, cuts-one, single-gone, timed, rules)

pub ruleset usuals = (usual-by, fronts-window, fronts-base, fronts-latency, usual-single, usual-gone, rules)

pub ruleset takes-single = (take-front, take-usual, usual-taken, take-ready, take-is, rules)
