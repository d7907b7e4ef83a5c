-- What the quick test of sound.rt finds in range is in range. Assumes nothing.
use mathlib.Core.Path.{◌≡◌, refl, sym, ◌∙◌}
use mathlib.Core.Bool.{Bool, true, ◌&&◌}
use mathlib.Core.List.{List, [], ◌∷◌}
use Prim.Native.Nat.{ℕ, zero, suc, ◌+◌, ◌-◌, ◌*◌, ◌%◌, ◌^◌, ◌<◌, ◌≤◌}
use native.Mathlib.Nat.{mod-eq_of_lt}
use native.Mathlib.Omega.{arith}
use borrow.Author.Rules.{rules}
use borrow.Author.Tests.{ltb-true, leb-true, lt-ltb, le-leb}
use lib.Bits.{bit_or}
use lib.Dec.{ltb, leb}
use lib.IntN.{pos}
use Rattle.numbers.proofs.Flags.{and_left, and_right}
use Rattle.numbers.proofs.Signs.{signed_low}
use Rattle.numbers.specs.Instants.{is_reading}
use Rattle.clock.specs.Base.{in_reference}
use Rattle.clock.specs.Ranges.{last_ok, clock_ok}
use Rattle.acks.specs.Rtt.{rtt_ok}
use Rattle.intervals.specs.Rates.{time_ok}
use Rattle.acks.specs.History.{history_ok}
use Rattle.window.specs.Window.{window_ok}
use Rattle.head.specs.Head.{head_ok}
use Rattle.packing.specs.Words.{whole_of, number_of, moment_of, float_formed, moment_formed}
use Rattle.packing.specs.Packed.{at, window_of, clock_of, rtt_of, history_of, first_formed, last_formed, unpack_of}
use Rattle.packing.proofs.Floats.{nan-low}
use Rattle.sound.proofs.Sounds.{or_left, or_right, places_ok, parts_ok, sound-quick, sound-slow}
use Rattle.sound.specs.Sound.{sizes_small, intervals_small, few_bits, beside, beside_all, finite, window_small, counts_small, quickly}

-- the parts of a test, however many
abbrev conj : Bool → List Bool → Bool
conj b [] = b
conj b (x ∷ xs) = conj (b && x) xs

abbrev AllTrue : List Bool → Type 0
AllTrue [] = Unit
AllTrue (x ∷ xs) = (x ≡ true) × AllTrue xs

pub parts : (b : Bool) (bs : List Bool) → conj b bs ≡ true → (b ≡ true) × AllTrue bs
parts b [] h = (h, tt)
parts b (x ∷ xs) h = let r = parts (b && x) xs h in (and_left b x r.0, (and_right b x r.0, r.1))

-- two values under a bound, by their bits
left-under : (a b n : ℕ) → bit_or a b < n → a < n
left-under a b n h = let k = or_left a b in omega arith

right-under : (a b n : ℕ) → bit_or a b < n → b < n
right-under a b n h = let k = or_right a b in omega arith

-- a time beside its flag
abbrev Beside : ℕ → ℕ → Type 0
Beside s t = t ≤ s % 2 * 1152921504606846975

beside-formed : (s t : ℕ) → s < 2 → Beside s t → moment_formed s t ≡ true
beside-formed zero t h k = let e : t ≡ 0 = omega arith in rw e
beside-formed (suc zero) t h k = refl
beside-formed (suc (suc s)) t h k = absurd (omega arith)

-- a small word is itself as a whole number
low : (w : ℕ) → w < 2 ^ 63 → whole_of w ≡ pos w
low w h = signed_low 64 w h

reads : (w : ℕ) → w < 2 ^ 60 → is_reading (whole_of w) ≡ true
reads w h = rw (low w (omega arith), le-leb 0 w (omega arith), lt-ltb w (2 ^ 60) h)

beside-time : (s t : ℕ) → s < 2 → Beside s t → time_ok (moment_of s t) ≡ true
beside-time zero t h k = refl
beside-time (suc zero) t h k = reads t (omega arith)
beside-time (suc (suc s)) t h k = absurd (omega arith)

beside-last : (s t : ℕ) → s < 2 → Beside s t → last_ok (moment_of s t) ≡ true
beside-last zero t h k = refl
beside-last (suc zero) t h k = rw (low t (omega arith), le-leb t (2 ^ 61 + 2 ^ 31) (omega arith))
beside-last (suc (suc s)) t h k = absurd (omega arith)

in-reference : (w : ℕ) → w < 2 ^ 60 → in_reference (whole_of w) ≡ true
in-reference w h = rw (low w (omega arith), le-leb w (2 ^ 61) (omega arith))

is_finite : (w : ℕ) → w % 2 ^ 63 + 2 ^ 52 < 2 ^ 63 → float_formed w ≡ true
is_finite w h = rw (nan-low w (omega arith))

-- a number under 2^32 is read as itself
itself : (w n : ℕ) → w < n → n ≤ 2 ^ 32 → number_of w ≡ w
itself w n h k = mod-eq_of_lt (omega arith)

-- what the test has found
record Found (ws : List ℕ) : Type 0 where
  latest : at ws 0 < 2 ^ 60
  some : 1 ≤ at ws 1
  most : at ws 1 ≤ 8192
  starts : at ws 2 < at ws 1
  holds : at ws 3 ≤ at ws 1
  seqno0 : at ws 4 < 2 ^ 31
  lrsn : at ws 5 < 2 ^ 31
  latency : at ws 6 ≤ 65535000
  dropping : at ws 7 < 2
  base : at ws 8 < 2 ^ 60
  stamp : at ws 9 < 2 ^ 32
  released : at ws 10 < 2
  release : Beside (at ws 10) (at ws 11)
  seen : at ws 12 < 2
  mean : at ws 13 % 2 ^ 63 + 2 ^ 52 < 2 ^ 63
  squares : at ws 14 % 2 ^ 63 + 2 ^ 52 < 2 ^ 63
  samples : at ws 15 ≤ 999
  rtt : at ws 16 < 2 ^ 31
  variance : at ws 17 < 2 ^ 31
  place : at ws 50 < 16
  count : at ws 51 ≤ 16
  arrived : at ws 52 < 2
  arrival : Beside (at ws 52) (at ws 53)
  pair : at ws 70 < 16
  pairs : at ws 71 ≤ 16
  probed : at ws 72 < 2
  probe : Beside (at ws 72) (at ws 73)
  start : at ws 74 < 1024
  acks : at ws 75 ≤ 1024
  first : 1 ≤ at ws 76
  number : at ws 76 < 2 ^ 32
  newest : at ws 76 % 2 ^ 32 + at ws 75 % 2048 ≤ 2 ^ 32
  largest : at ws 77 < 2 ^ 31
  lastack : at ws 78 < 2 ^ 31

found : (ws : List ℕ) → quickly ws ≡ true → Found ws
found ws e =
    let all = parts (few_bits ws) (beside_all ws ∷ finite ws ∷ window_small ws ∷ counts_small ws ∷ []) e in
    let x1 = bit_or (at ws 4) (at ws 5) in
    let x2 = bit_or x1 (at ws 16) in
    let x3 = bit_or x2 (at ws 17) in
    let x4 = bit_or x3 (at ws 77) in
    let y1 = bit_or (at ws 7) (at ws 10) in
    let y2 = bit_or y1 (at ws 12) in
    let y3 = bit_or y2 (at ws 52) in
    let bits = parts (ltb (bit_or x4 (at ws 78)) (2 ^ 31)) (ltb (bit_or y3 (at ws 72)) 2 ∷ ltb (bit_or (at ws 9) (at ws 76)) (2 ^ 32) ∷ ltb (bit_or (at ws 50) (at ws 70)) 16 ∷ ltb (bit_or (at ws 0) (at ws 8)) (2 ^ 60) ∷ []) all.0 in
    let times = parts (beside (at ws 10) (at ws 11)) (beside (at ws 52) (at ws 53) ∷ beside (at ws 72) (at ws 73) ∷ []) all.1.0 in
    let f = ltb-true _ _ all.1.1.0 in
    let w = parts (leb 1 (at ws 1)) (leb (at ws 1) 8192 ∷ ltb (at ws 2) (at ws 1) ∷ leb (at ws 3) (at ws 1) ∷ leb (at ws 6) 65535000 ∷ []) all.1.1.1.0 in
    let c = parts (leb (at ws 15) 999) (leb (at ws 51) 16 ∷ leb (at ws 71) 16 ∷ ltb (at ws 74) 1024 ∷ leb (at ws 75) 1024 ∷ leb 1 (at ws 76) ∷ leb (at ws 76 % 2 ^ 32 + at ws 75 % 2048) (2 ^ 32) ∷ []) all.1.1.1.1.0 in
    let l5 = ltb-true (bit_or x4 (at ws 78)) (2 ^ 31) bits.0 in
    let l4 = left-under x4 (at ws 78) (2 ^ 31) l5 in
    let l3 = left-under x3 (at ws 77) (2 ^ 31) l4 in
    let l2 = left-under x2 (at ws 17) (2 ^ 31) l3 in
    let l1 = left-under x1 (at ws 16) (2 ^ 31) l2 in
    let g4 = ltb-true (bit_or y3 (at ws 72)) 2 bits.1.0 in
    let g3 = left-under y3 (at ws 72) 2 g4 in
    let g2 = left-under y2 (at ws 52) 2 g3 in
    let g1 = left-under y1 (at ws 12) 2 g2 in
    let n = ltb-true (bit_or (at ws 9) (at ws 76)) (2 ^ 32) bits.1.1.0 in
    let p = ltb-true (bit_or (at ws 50) (at ws 70)) 16 bits.1.1.1.0 in
    let t = ltb-true (bit_or (at ws 0) (at ws 8)) (2 ^ 60) bits.1.1.1.1.0 in
    record {
      latest = left-under (at ws 0) (at ws 8) (2 ^ 60) t;
      some = leb-true 1 (at ws 1) w.0;
      most = leb-true (at ws 1) 8192 w.1.0;
      starts = ltb-true (at ws 2) (at ws 1) w.1.1.0;
      holds = leb-true (at ws 3) (at ws 1) w.1.1.1.0;
      seqno0 = left-under (at ws 4) (at ws 5) (2 ^ 31) l1;
      lrsn = right-under (at ws 4) (at ws 5) (2 ^ 31) l1;
      latency = leb-true (at ws 6) 65535000 w.1.1.1.1.0;
      dropping = left-under (at ws 7) (at ws 10) 2 g1;
      base = right-under (at ws 0) (at ws 8) (2 ^ 60) t;
      stamp = left-under (at ws 9) (at ws 76) (2 ^ 32) n;
      released = right-under (at ws 7) (at ws 10) 2 g1;
      release = leb-true _ _ times.0;
      seen = right-under y1 (at ws 12) 2 g2;
      mean = left-under (at ws 13 % 2 ^ 63 + 2 ^ 52) (at ws 14 % 2 ^ 63 + 2 ^ 52) (2 ^ 63) f;
      squares = right-under (at ws 13 % 2 ^ 63 + 2 ^ 52) (at ws 14 % 2 ^ 63 + 2 ^ 52) (2 ^ 63) f;
      samples = leb-true (at ws 15) 999 c.0;
      rtt = right-under x1 (at ws 16) (2 ^ 31) l2;
      variance = right-under x2 (at ws 17) (2 ^ 31) l3;
      place = left-under (at ws 50) (at ws 70) 16 p;
      count = leb-true (at ws 51) 16 c.1.0;
      arrived = right-under y2 (at ws 52) 2 g3;
      arrival = leb-true _ _ times.1.0;
      pair = right-under (at ws 50) (at ws 70) 16 p;
      pairs = leb-true (at ws 71) 16 c.1.1.0;
      probed = right-under y3 (at ws 72) 2 g4;
      probe = leb-true _ _ times.1.1.0;
      start = ltb-true (at ws 74) 1024 c.1.1.1.0;
      acks = leb-true (at ws 75) 1024 c.1.1.1.1.0;
      first = leb-true 1 (at ws 76) c.1.1.1.1.1.0;
      number = right-under (at ws 9) (at ws 76) (2 ^ 32) n;
      newest = leb-true _ _ c.1.1.1.1.1.1.0;
      largest = right-under x3 (at ws 77) (2 ^ 31) l4;
      lastack = right-under x4 (at ws 78) (2 ^ 31) l5;
    }

module _ (ws : List ℕ) (q : Found ws) where
  quick-first : first_formed ws ≡ true
  quick-first =
      rw (
        lt-ltb (at ws 4) (2 ^ 32) (omega (arith, q.seqno0)),
        lt-ltb (at ws 5) (2 ^ 32) (omega (arith, q.lrsn)),
        lt-ltb (at ws 6) (2 ^ 32) (omega (arith, q.latency)),
        lt-ltb (at ws 7) 2 q.dropping,
        lt-ltb (at ws 9) (2 ^ 32) q.stamp,
        beside-formed (at ws 10) (at ws 11) q.released q.release,
        lt-ltb (at ws 12) 2 q.seen,
        is_finite (at ws 13) q.mean,
        is_finite (at ws 14) q.squares,
        lt-ltb (at ws 15) (2 ^ 32) (omega (arith, q.samples)),
      )

  quick-last : last_formed ws ≡ true
  quick-last =
      rw (
        lt-ltb (at ws 16) (2 ^ 32) (omega (arith, q.rtt)),
        lt-ltb (at ws 17) (2 ^ 32) (omega (arith, q.variance)),
        beside-formed (at ws 52) (at ws 53) q.arrived q.arrival,
        beside-formed (at ws 72) (at ws 73) q.probed q.probe,
        lt-ltb (at ws 76) (2 ^ 32) q.number,
        lt-ltb (at ws 77) (2 ^ 32) (omega (arith, q.largest)),
        lt-ltb (at ws 78) (2 ^ 32) (omega (arith, q.lastack)),
      )

  quick-places : places_ok ws ≡ true
  quick-places =
      rw (
        le-leb (at ws 51) 16 q.count,
        lt-ltb (at ws 50) 16 q.place,
        beside-time (at ws 52) (at ws 53) q.arrived q.arrival,
        le-leb (at ws 71) 16 q.pairs,
        lt-ltb (at ws 70) 16 q.pair,
        beside-time (at ws 72) (at ws 73) q.probed q.probe,
      )

  quick-window : window_ok (window_of ws) ≡ true
  quick-window =
      rw (
        itself (at ws 4) (2 ^ 31) q.seqno0 (omega arith),
        itself (at ws 5) (2 ^ 31) q.lrsn (omega arith),
        le-leb 1 (at ws 1) q.some,
        le-leb (at ws 1) 8192 q.most,
        lt-ltb (at ws 2) (at ws 1) q.starts,
        le-leb (at ws 3) (at ws 1) q.holds,
        lt-ltb (at ws 4) (2 ^ 31) q.seqno0,
        lt-ltb (at ws 5) (2 ^ 31) q.lrsn,
      )

  quick-clock : clock_ok (clock_of ws) ≡ true
  unfolding clock_ok
  quick-clock =
      rw (
        in-reference (at ws 8) q.base,
        beside-last (at ws 10) (at ws 11) q.released q.release,
        itself (at ws 15) 1000 (omega (arith, q.samples)) (omega arith),
        le-leb (at ws 15) 999 q.samples,
      )

  quick-rtt : rtt_ok (rtt_of ws) ≡ true
  unfolding rtt_ok
  quick-rtt =
      rw (
        itself (at ws 16) (2 ^ 31) q.rtt (omega arith),
        itself (at ws 17) (2 ^ 31) q.variance (omega arith),
        lt-ltb (at ws 16) (2 ^ 31) q.rtt,
        lt-ltb (at ws 17) (2 ^ 31) q.variance,
      )

  quick-history : history_ok (history_of ws) ≡ true
  unfolding history_ok
  quick-history =
      let k : at ws 75 % 2048 ≡ at ws 75 = mod-eq_of_lt (omega (arith, q.acks)) in
      let e = itself (at ws 76) (2 ^ 32) q.number (omega arith) in
      rw (
        e,
        itself (at ws 77) (2 ^ 31) q.largest (omega arith),
        itself (at ws 78) (2 ^ 31) q.lastack (omega arith),
        lt-ltb (at ws 74) 1024 q.start,
        le-leb (at ws 75) 1024 q.acks,
        le-leb 1 (at ws 76) q.first,
        le-leb (at ws 76) 4294967295 (omega (arith, q.number)),
        le-leb (at ws 76 + at ws 75 - 1) 4294967295 (omega (arith, q.newest, q.first, e, k)),
        lt-ltb (at ws 77) (2 ^ 31) q.largest,
        lt-ltb (at ws 78) (2 ^ 31) q.lastack,
      )

  quick-parts : parts_ok ws ≡ true
  quick-parts =
      rw (
        quick-window,
        itself (at ws 6) 65535001 (omega (arith, q.latency)) (omega arith),
        le-leb (at ws 6) 65535000 q.latency,
        quick-clock,
        quick-rtt,
        quick-history,
        reads (at ws 0) q.latest,
      )

-- beside_all, quickly: each is its parts
pub beside-by : (ws : List ℕ) {a b c : Bool} → a ≡ beside (at ws 10) (at ws 11) → b ≡ beside (at ws 52) (at ws 53) → c ≡ beside (at ws 72) (at ws 73) → (a && b && c) ≡ beside_all ws
beside-by ws e f g = rw (e, f, g)

pub quickly-by : (ws : List ℕ) {a b c d e : Bool} → a ≡ few_bits ws → b ≡ beside_all ws → c ≡ finite ws → d ≡ window_small ws → e ≡ counts_small ws → (a && b && c && d && e) ≡ quickly ws
quickly-by ws e f g h k = rw (e, f, g, h, k)

-- sound
pub sound-quickly : (ws : List ℕ) {i b s : Bool} → i ≡ intervals_small ws → i ≡ true → b ≡ quickly ws → b ≡ true → s ≡ sizes_small ws → s ≡ true → true ≡ head_ok (unpack_of ws)
sound-quickly ws e f g h k l =
    let q = found ws (sym g ∙ h) in
    sound-quick ws (sym e ∙ f) (sym k ∙ l) (sym (quick-first ws q)) (sym (quick-last ws q)) (sym (quick-places ws q)) (sym (quick-parts ws q))

pub ruleset quick-sounds = (beside-by, quickly-by, sound-quickly, sound-slow, rules)
