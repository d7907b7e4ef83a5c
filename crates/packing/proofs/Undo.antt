-- Packing and unpacking undo each other: a head's words say that head (`unpack-pack`), and formed words are those of the head that they say (`pack-unpack`).
-- So nothing of a head is lost between two calls. Assumes nothing.
use mathlib.Core.Path.{◌≡◌, refl, sym, ◌∙◌, ap}
use mathlib.Core.Bool.{Bool, true, false, ◌&&◌}
use mathlib.Core.List.{List, [], ◌∷◌, ◌++◌}
use Prim.Native.Nat.{ℕ, zero, suc, ◌+◌, ◌-◌, ◌^◌, ◌<◌, ◌≤◌}
use native.Mathlib.Nat.{mod-eq_of_lt}
use native.Mathlib.Omega.{arith}
use borrow.Author.Tests.{lt-ltb, ltb-true, eqb-true}
use lib.Dec.{eqb}
use lib.Ieee.{Float, nan, inf, fin, binary64, is_nan, nan_bits, of_bits, to_bits}
use lib.Ieee.Bits.{of_bits-to_bits, to_bits-of_bits, nan_bits_is}
use lib.IntN.{ℤ}
use lib.ListN.{length}
use Rattle.std.specs.Prelude.{Option, Some, None}
use Rattle.numbers.proofs.Flags.{and_left, and_right, by_bool, by-order}
use Rattle.numbers.proofs.Signs.{signed-congruent, signed-only}
use Rattle.head.specs.declared.state.Head.{Head}
use Rattle.packing.specs.Words.{word_of, whole_of, bits_of, float_of, flag_word, flag_of, number_of, set_word, time_word, moment_of, number_formed, flag_formed, float_formed, moment_formed}
use Rattle.packing.specs.Packed.{at, numbers_words, window_words, clock_words, rtt_words, arrivals_words, links_words, history_words, pack_of, sixteen_of, window_of, clock_of, rtt_of, arrivals_of, links_of, history_of, head_of, numbers_formed, first_formed, rates_formed, last_formed, formed, unpack_of}
use Rattle.counts.specs.declared.Counters.{Counters}
use Rattle.packing.specs.Tally.{counters_words, counters_of}
use Rattle.packing.specs.Holds.{Number, Whole, Time, Numbers, Double, Holds}

-- one value and back
whole_back : (z : ℤ) → Whole z → whole_of (word_of z) ≡ z
whole_back z h = sym (signed-only 64 z (omega arith) h)

number-back : (n : ℕ) → Number n → number_of n ≡ n
number-back n h = mod-eq_of_lt h

flag-back : (b : Bool) → flag_of (flag_word b) ≡ b
flag-back true = refl
flag-back false = refl

time-back : (m : Option ℤ) → Time m → moment_of (set_word m) (time_word m) ≡ m
time-back None h = refl
time-back (Some t) h = ap Some (whole_back t h)

-- and its word is formed
flag-fits : (b : Bool) → flag_formed (flag_word b) ≡ true
flag-fits true = refl
flag-fits false = refl

time-fits : (m : Option ℤ) → moment_formed (set_word m) (time_word m) ≡ true
time-fits None = refl
time-fits (Some t) = refl

double-fits : (x : Float) → Double x → float_formed (bits_of x) ≡ true
unfolding is_nan to_bits nan_bits
double-fits nan h = refl
double-fits (inf s) h = rw (nan_bits_is binary64 (bits_of (inf s)), of_bits-to_bits binary64 (inf s) h)
double-fits (fin s m e) h = rw (nan_bits_is binary64 (bits_of (fin s m e)), of_bits-to_bits binary64 (fin s m e) h)

-- elements one by one, from element i on: n of them as they are, and as numbers
abbrev firsts : ℕ → ℕ → List ℕ → List ℕ
firsts i zero l = []
firsts i (suc n) l = at l i ∷ firsts (suc i) n l

abbrev reads : ℕ → ℕ → List ℕ → List ℕ
reads i zero l = []
reads i (suc n) l = number_of (at l i) ∷ reads (suc i) n l

firsts-tail : (i n x : ℕ) (l : List ℕ) → firsts (suc i) n (x ∷ l) ≡ firsts i n l
firsts-tail i zero x l = refl
firsts-tail i (suc n) x l = ap (λ (t : List ℕ). at l i ∷ t) (firsts-tail (suc i) n x l)

firsts-all : (l : List ℕ) → firsts 0 (length l) l ≡ l
firsts-all [] = refl
firsts-all (x ∷ l) = ap (λ (t : List ℕ). x ∷ t) (firsts-tail 0 (length l) x l ∙ firsts-all l)

one_by_one : (n : ℕ) (l : List ℕ) → length l ≡ n → firsts 0 n l ≡ l
one_by_one n l e = ap (λ (k : ℕ). firsts 0 k l) (sym e) ∙ firsts-all l

reads_same : (i n : ℕ) (l : List ℕ) → ((k : ℕ) → i ≤ k → k < i + n → Number (at l k)) → reads i n l ≡ firsts i n l
reads_same i zero l h = refl
reads_same i (suc n) l h = rw (number-back (at l i) (h i (omega arith) (omega arith)), reads_same (suc i) n l (λ k a b. h k (omega arith) (omega arith)))

-- each of the words that were tested
tested : (l : List ℕ) (i n j : ℕ) → numbers_formed l i n ≡ true → j < n → Number (at l (i + j))
unfolding numbers_formed
tested l i zero j e h = absurd (omega arith)
tested l i (suc n) j e h =
    by-order j n
    (λ g. tested l i n j (and_left (numbers_formed l i n) (number_formed (at l (i + n))) e) g)
    (λ g.
    let d : j ≡ n = omega arith in
    rw d (ltb-true (at l (i + n)) (2 ^ 32) (and_right (numbers_formed l i n) (number_formed (at l (i + n))) e)))

tested-from : (l : List ℕ) (i n : ℕ) → numbers_formed l i n ≡ true → (k : ℕ) → i ≤ k → k < i + n → Number (at l k)
tested-from l i n e k a b =
    let j = k - i in
    let d : i + j ≡ k = omega arith in
    rw d at (tested l i n j e (omega arith))

numbers-back : (l : List ℕ) → Numbers l → reads 0 16 l ≡ l
numbers-back l h = reads_same 0 16 l (tested-from l 0 16 h.1) ∙ one_by_one 16 l h.0

-- each part of a head from the head's words
module _ (h : Head) (o : Holds h) where
  abbrev ws : List ℕ
  ws = pack_of h

  window-back : window_of ws ≡ h.window
  unfolding pack_of
  window-back = rw (number-back h.window.seqno0 o.window.seqno0, number-back h.window.lrsn o.window.lrsn)

  clock-back : clock_of ws ≡ h.clock
  unfolding pack_of
  clock-back =
      let k = h.clock in
      rw (whole_back k.base.time o.base.time, number-back k.base.stamp o.base.stamp, time-back k.last o.base.last, flag-back k.seen, of_bits-to_bits binary64 k.stats.mean o.stats.mean, of_bits-to_bits binary64 k.stats.squares o.stats.squares, number-back k.stats.count o.stats.count)

  rtt-back : rtt_of ws ≡ h.rtt
  unfolding pack_of
  rtt-back = rw (number-back h.rtt.mean o.rtt.mean, number-back h.rtt.variance o.rtt.variance)

  gaps-back : sixteen_of ws 18 ≡ h.arrivals.gaps
  unfolding pack_of numbers_words sixteen_of
  gaps-back = numbers-back h.arrivals.gaps o.arrivals.gaps

  sizes-back : sixteen_of ws 34 ≡ h.arrivals.sizes
  unfolding pack_of numbers_words sixteen_of
  sizes-back = numbers-back h.arrivals.sizes o.arrivals.sizes

  pairs-back : sixteen_of ws 54 ≡ h.links.gaps
  unfolding pack_of numbers_words sixteen_of
  pairs-back = numbers-back h.links.gaps o.links.gaps

  last-back : moment_of (at ws 52) (at ws 53) ≡ h.arrivals.last
  unfolding pack_of numbers_words
  last-back = time-back h.arrivals.last o.arrivals.last

  at_back : (at ws 50 ≡ h.arrivals.at) × (at ws 51 ≡ h.arrivals.count)
  unfolding pack_of numbers_words
  at_back = (refl, refl)

  arrivals-back : arrivals_of ws ≡ h.arrivals
  arrivals-back = rw (gaps-back, sizes-back, at_back.0, at_back.1, last-back)

  probe-back : moment_of (at ws 72) (at ws 73) ≡ h.links.probe
  unfolding pack_of numbers_words
  probe-back = time-back h.links.probe o.links.probe

  pair-at-back : (at ws 70 ≡ h.links.at) × (at ws 71 ≡ h.links.count)
  unfolding pack_of numbers_words
  pair-at-back = (refl, refl)

  links-back : links_of ws ≡ h.links
  links-back = rw (pairs-back, pair-at-back.0, pair-at-back.1, probe-back)

  history-back : history_of ws ≡ h.history
  unfolding pack_of numbers_words
  history-back =
      let y = h.history in
      let g = o.history in
      rw (number-back y.first g.first, number-back y.largest g.largest, number-back y.lastack g.lastack)

  settings-back : (whole_of (at ws 0) ≡ h.latest) × (number_of (at ws 6) ≡ h.latency) × (flag_of (at ws 7) ≡ h.dropping)
  unfolding pack_of
  settings-back = (whole_back h.latest o.latest, number-back h.latency o.latency, flag-back h.dropping)

  head-back : head_of ws ≡ h
  unfolding head_of
  head-back =
      rw (settings-back.0, settings-back.1, settings-back.2, window-back, clock-back, rtt-back, arrivals-back, links-back, history-back)

  -- and all words are formed
  first_fits : first_formed ws ≡ true
  unfolding pack_of
  first_fits =
      let k = h.clock in
      rw
      (lt-ltb h.window.seqno0 (2 ^ 32) o.window.seqno0, lt-ltb h.window.lrsn (2 ^ 32) o.window.lrsn, lt-ltb h.latency (2 ^ 32) o.latency, flag-fits h.dropping, lt-ltb k.base.stamp (2 ^ 32) o.base.stamp, time-fits k.last, flag-fits k.seen, double-fits k.stats.mean o.stats.mean, double-fits k.stats.squares o.stats.squares, lt-ltb k.stats.count (2 ^ 32) o.stats.count)

  rates-fit : rates_formed ws ≡ true
  unfolding pack_of numbers_words numbers_formed
  rates-fit = rw (o.arrivals.gaps.1, o.arrivals.sizes.1, o.links.gaps.1)

  last_fits : last_formed ws ≡ true
  unfolding pack_of numbers_words
  last_fits =
      let y = h.history in
      let g = o.history in
      rw
      (lt-ltb h.rtt.mean (2 ^ 32) o.rtt.mean, lt-ltb h.rtt.variance (2 ^ 32) o.rtt.variance, time-fits h.arrivals.last, time-fits h.links.probe, lt-ltb y.first (2 ^ 32) g.first, lt-ltb y.largest (2 ^ 32) g.largest, lt-ltb y.lastack (2 ^ 32) g.lastack)

  pub all-formed : formed (pack_of h) ≡ true
  unfolding formed
  all-formed = rw (first_fits, last_fits, rates-fit)

  pub unpack-pack : unpack_of (pack_of h) ≡ h
  unfolding unpack_of
  unpack-pack = rw (all-formed, head-back)

pub pack-length : (h : Head) → length (pack_of h) ≡ 79
unfolding pack_of numbers_words
pack-length h = refl

-- one word and back, if it is formed
word_back : (w : ℕ) → w < 2 ^ 64 → word_of (whole_of w) ≡ w
word_back w h = signed-congruent 64 w h

flag-word : (w : ℕ) → flag_formed w ≡ true → flag_word (flag_of w) ≡ w
flag-word zero e = refl
flag-word (suc zero) e = refl
flag-word (suc (suc w)) e = absurd (let h = ltb-true (suc (suc w)) 2 e in omega arith)

moment-words : (s t : ℕ) → t < 2 ^ 64 → moment_formed s t ≡ true → (set_word (moment_of s t) ≡ s) × (time_word (moment_of s t) ≡ t)
moment-words s t h e =
    by_bool (eqb s 1)
    (λ p. rw p (sym (eqb-true s 1 p), word_back t h))
    (λ p.
    let b : (eqb s 0 && eqb t 0) ≡ true = rw p at e in
    rw p (sym (eqb-true s 0 (and_left (eqb s 0) (eqb t 0) b)), sym (eqb-true t 0 (and_right (eqb s 0) (eqb t 0) b))))

one-nan : bits_of (float_of 9221120237041090560) ≡ 9221120237041090560
unfolding of_bits to_bits
one-nan = refl

bits_back : (w : ℕ) → w < 2 ^ 64 → float_formed w ≡ true → bits_of (float_of w) ≡ w
bits_back w h e =
    by_bool (nan_bits binary64 w)
    (λ n.
    let i : w ≡ 9221120237041090560 = eqb-true w 9221120237041090560 (rw n at e) in
    rw i one-nan)
    (λ n. to_bits-of_bits binary64 w h (rw (sym (nan_bits_is binary64 w) ∙ n) tt))

-- tests that all hold, one by one
abbrev all : Bool → List Bool → Bool
all b [] = b
all b (c ∷ bs) = all (b && c) bs

abbrev Each : List Bool → Type 0
Each [] = Unit {0}
Each (b ∷ bs) = (b ≡ true) × Each bs

all_first : (b : Bool) (bs : List Bool) → all b bs ≡ true → b ≡ true
all_first b [] e = e
all_first b (c ∷ bs) e = and_left b c (all_first (b && c) bs e)

each : (b : Bool) (bs : List Bool) → all b bs ≡ true → Each bs
each b [] e = tt
each b (c ∷ bs) e = (and_right b c (all_first (b && c) bs e), each (b && c) bs e)

joined : {a a' b b' c c' : ℕ} {w w' k k' t t' r r' l l' y y' : List ℕ}
    → a ≡ a' → w ≡ w' → b ≡ b' → c ≡ c' → k ≡ k' → t ≡ t' → r ≡ r' → l ≡ l' → y ≡ y'
    → (a ∷ w ++ b ∷ c ∷ k ++ t) ++ r ++ l ++ y ≡ (a' ∷ w' ++ b' ∷ c' ∷ k' ++ t') ++ r' ++ l' ++ y'
joined a w b c k t r l y = rw (a, w, b, c, k, t, r, l, y)

-- the tests of `formed`, as lists
abbrev low_tests : List ℕ → List Bool
low_tests ws =
    number_formed (at ws 4)
    ∷ number_formed (at ws 5)
    ∷ number_formed (at ws 6)
    ∷ flag_formed (at ws 7)
    ∷ number_formed (at ws 9)
    ∷ moment_formed (at ws 10) (at ws 11)
    ∷ flag_formed (at ws 12)
    ∷ float_formed (at ws 13)
    ∷ float_formed (at ws 14)
    ∷ number_formed (at ws 15)
    ∷ []

abbrev rate_tests : List ℕ → List Bool
rate_tests ws = numbers_formed ws 18 16 ∷ numbers_formed ws 34 16 ∷ numbers_formed ws 54 16 ∷ []

abbrev high_tests : List ℕ → List Bool
high_tests ws =
    number_formed (at ws 16)
    ∷ number_formed (at ws 17)
    ∷ moment_formed (at ws 52) (at ws 53)
    ∷ moment_formed (at ws 72) (at ws 73)
    ∷ number_formed (at ws 76)
    ∷ number_formed (at ws 77)
    ∷ number_formed (at ws 78)
    ∷ []

-- each part's words from the part that they say
module _ (ws : List ℕ) (small : (i : ℕ) → at ws i < 2 ^ 64) (f : formed ws ≡ true) where
  parts : Each (first_formed ws ∷ last_formed ws ∷ rates_formed ws ∷ [])
  unfolding formed
  parts = each true (first_formed ws ∷ last_formed ws ∷ rates_formed ws ∷ []) f

  low : Each (low_tests ws)
  low = each true (low_tests ws) parts.0

  middle : Each (rate_tests ws)
  middle = each true (rate_tests ws) parts.1.1.0

  high : Each (high_tests ws)
  high = each true (high_tests ws) parts.1.0

  -- a word that was tested, read as a number
  is : (i : ℕ) → number_formed (at ws i) ≡ true → number_of (at ws i) ≡ at ws i
  is i e = number-back (at ws i) (ltb-true (at ws i) (2 ^ 32) e)

  window-words : window_words (window_of ws) ≡ firsts 1 5 ws
  window-words = rw (is 4 low.0, is 5 low.1.0)

  settings-words : (number_of (at ws 6) ≡ at ws 6) × (flag_word (flag_of (at ws 7)) ≡ at ws 7)
  settings-words = (is 6 low.1.1.0, flag-word (at ws 7) low.1.1.1.0)

  clock-words : clock_words (clock_of ws) ≡ firsts 8 8 ws
  clock-words =
      let l = low.1.1.1.1 in
      let m = moment-words (at ws 10) (at ws 11) (small 11) l.1.0 in
      rw
      (word_back (at ws 8) (small 8), is 9 l.0, m.0, m.1, flag-word (at ws 12) l.1.1.0, bits_back (at ws 13) (small 13) l.1.1.1.0, bits_back (at ws 14) (small 14) l.1.1.1.1.0, is 15 l.1.1.1.1.1.0)

  rtt-words : rtt_words (rtt_of ws) ≡ firsts 16 2 ws
  rtt-words = rw (is 16 high.0, is 17 high.1.0)

  sixteen-words : (i : ℕ) → numbers_formed ws i 16 ≡ true → reads i 16 ws ≡ firsts i 16 ws
  sixteen-words i e = reads_same i 16 ws (tested-from ws i 16 e)

  arrivals-words : arrivals_words (arrivals_of ws) ≡ firsts 18 36 ws
  unfolding numbers_words sixteen_of
  arrivals-words =
      let m = moment-words (at ws 52) (at ws 53) (small 53) high.1.1.0 in
      rw (m.0, m.1)
      (ap (λ (l : List ℕ). l ++ reads 34 16 ws ++ firsts 50 4 ws) (sixteen-words 18 middle.0)
      ∙ ap (λ (l : List ℕ). firsts 18 16 ws ++ l ++ firsts 50 4 ws) (sixteen-words 34 middle.1.0))

  links-words : links_words (links_of ws) ≡ firsts 54 20 ws
  unfolding numbers_words sixteen_of
  links-words =
      let m = moment-words (at ws 72) (at ws 73) (small 73) high.1.1.1.0 in
      rw (m.0, m.1) (ap (λ (l : List ℕ). l ++ firsts 70 4 ws) (sixteen-words 54 middle.1.1.0))

  history-words : history_words (history_of ws) ≡ firsts 74 5 ws
  history-words =
      let g = high.1.1.1.1 in
      rw (is 76 g.0, is 77 g.1.0, is 78 g.1.1.0)

  head-words : pack_of (head_of ws) ≡ firsts 0 79 ws
  unfolding pack_of head_of
  head-words = joined (word_back (at ws 0) (small 0)) window-words settings-words.0 settings-words.1 clock-words rtt-words arrivals-words links-words history-words

  pub pack-unpack : length ws ≡ 79 → pack_of (unpack_of ws) ≡ ws
  unfolding unpack_of
  pack-unpack e = rw f (head-words ∙ one_by_one 79 ws e)

-- the counters, with no condition but their number
pub tally-back : (c : Counters) → counters_of (counters_words c) ≡ c
tally-back c = refl

pub tally-words : (ws : List ℕ) → length ws ≡ 10 → counters_words (counters_of ws) ≡ ws
tally-words ws e = one_by_one 10 ws e
