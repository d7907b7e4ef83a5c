-- What the code of sound.rt does at each return, as laws over plain values. Assumes nothing.
use mathlib.Core.Path.{◌≡◌, refl, sym, ◌∙◌, ap}
use mathlib.Core.Bool.{Bool, true, false, ◌&&◌, cond, and-true}
use mathlib.Core.List.{List}
use Prim.Native.Nat.{ℕ, zero, suc, ◌+◌, ◌-◌, ◌%◌, ◌^◌, ◌<◌, ◌≤◌}
use native.Mathlib.Nat.{mod-lt, mod-le, mod-eq_of_lt}
use native.Mathlib.Numerals.{add-one}
use native.Mathlib.Omega.{arith}
use borrow.Author.Rules.{rules}
use borrow.Author.Tests.{lt-ltb, le-leb, lt-leb, ltb-true, leb-true}
use lib.Bits.{bit_or, or_add_and, and_le_l, and_le_r}
use lib.Dec.{ltb, leb}
use lib.ListN.{get_or}
use Rattle.numbers.proofs.Flags.{by-order, by_bool, and_left, and_right}
use Rattle.clock.specs.Ranges.{clock_ok}
use Rattle.acks.specs.Rtt.{rtt_ok}
use Rattle.intervals.specs.Rates.{place_before, window_of as windowFrom, all_under, arrivals_ok, links_ok, time_ok}
use Rattle.acks.specs.History.{history_ok}
use Rattle.head.specs.declared.state.Head.{Head}
use Rattle.head.specs.Head.{head_ok, fresh_head}
use Rattle.window.specs.Window.{window_ok}
use Rattle.numbers.specs.Instants.{is_reading}
use Rattle.packing.specs.Words.{number_of, whole_of, moment_of}
use Rattle.packing.specs.Packed.{at, sixteen_of, numbers_formed, first_formed, rates_formed, last_formed, formed, window_of, clock_of, rtt_of, arrivals_of, links_of, history_of, head_of, nowhere, unpack_of}
use Rattle.sound.specs.Sound.{bits_to, raised_to, sizes_small, intervals_small}

-- bits, raised_bits
pub or_left : (a b : ℕ) → a ≤ bit_or a b
or_left a b = let k = or_add_and a b in let l = and_le_r a b in omega arith

pub or_right : (a b : ℕ) → b ≤ bit_or a b
or_right a b = let k = or_add_and a b in let l = and_le_l a b in omega arith

module _ (ws : List ℕ) (i : ℕ) where
  pub bits-start : 0 ≡ bits_to ws i 0
  unfolding bits_to
  bits-start = refl

  pub bits-turn : (n : ℕ) {x y : ℕ} → x ≡ bits_to ws i n → y ≡ at ws (i + n) → bit_or x y ≡ bits_to ws i (n + 1)
  unfolding bits_to
  bits-turn n e f = rw (e, f, add-one n)

  pub bits-end : (n : ℕ) {x : ℕ} → x ≡ bits_to ws i n → n ≤ 16 → 16 ≤ n → x ≡ bits_to ws i 16
  bits-end n e h k = let q : n ≡ 16 = omega arith in e ∙ ap (bits_to ws i) q

  in-bits : (n k : ℕ) → k < n → at ws (i + k) ≤ bits_to ws i n
  unfolding bits_to
  in-bits zero k h = absurd (omega arith)
  in-bits (suc n) k h =
      by-order k n
      (λ l. let a = in-bits n k l in let b = or_left (bits_to ws i n) (at ws (i + n)) in omega arith)
      (λ l. let q : k ≡ n = omega arith in rw q (or_right (bits_to ws i n) (at ws (i + n))))

pub raised-start : (ws : List ℕ) → 0 ≡ raised_to ws 0
unfolding raised_to
raised-start ws = refl

pub raised-turn : (ws : List ℕ) (n : ℕ) {x y : ℕ} → x ≡ raised_to ws n → y ≡ at ws (34 + n) → bit_or x (y % 2048 + 591) ≡ raised_to ws (n + 1)
unfolding raised_to
raised-turn ws n e f = rw (e, f, add-one n)

pub raised-end : (ws : List ℕ) (n : ℕ) {x : ℕ} → x ≡ raised_to ws n → n ≤ 16 → 16 ≤ n → x ≡ raised_to ws 16
raised-end ws n e h k = let q : n ≡ 16 = omega arith in e ∙ ap (raised_to ws) q

in-raised : (ws : List ℕ) (n k : ℕ) → k < n → at ws (34 + k) % 2048 + 591 ≤ raised_to ws n
unfolding raised_to
in-raised ws zero k h = absurd (omega arith)
in-raised ws (suc n) k h =
    by-order k n
    (λ l. let a = in-raised ws n k l in let b = or_left (raised_to ws n) (at ws (34 + n) % 2048 + 591) in omega arith)
    (λ l. let q : k ≡ n = omega arith in rw q (or_right (raised_to ws n) (at ws (34 + n) % 2048 + 591)))

-- sixteen words that are all under a bound
abbrev pub Under : ℕ → List ℕ → ℕ → Type 0
Under b ws i = (k : ℕ) → k < 16 → at ws (i + k) < b

pub formed-under : (b : ℕ) (ws : List ℕ) (i n : ℕ) → Under b ws i → b ≤ 2 ^ 32 → n ≤ 16 → numbers_formed ws i n ≡ true
unfolding numbers_formed
formed-under b ws i zero u h k = refl
formed-under b ws i (suc n) u h k =
    rw (formed-under b ws i n u h (omega arith), lt-ltb (at ws (i + n)) (2 ^ 32) (let l = u n (omega arith) in omega arith))

-- an element of sixteen is that word
pub element : (ws : List ℕ) (i k : ℕ) → k < 16 → get_or (sixteen_of ws i) k 0 ≡ number_of (at ws (i + k))
unfolding sixteen_of
element ws i zero h = refl
element ws i (suc zero) h = refl
element ws i (suc (suc zero)) h = refl
element ws i (suc (suc (suc zero))) h = refl
element ws i (suc (suc (suc (suc zero)))) h = refl
element ws i (suc (suc (suc (suc (suc zero))))) h = refl
element ws i (suc (suc (suc (suc (suc (suc zero)))))) h = refl
element ws i (suc (suc (suc (suc (suc (suc (suc zero))))))) h = refl
element ws i (suc (suc (suc (suc (suc (suc (suc (suc zero)))))))) h = refl
element ws i (suc (suc (suc (suc (suc (suc (suc (suc (suc zero))))))))) h = refl
element ws i (suc (suc (suc (suc (suc (suc (suc (suc (suc (suc zero)))))))))) h = refl
element ws i (suc (suc (suc (suc (suc (suc (suc (suc (suc (suc (suc zero))))))))))) h = refl
element ws i (suc (suc (suc (suc (suc (suc (suc (suc (suc (suc (suc (suc zero)))))))))))) h = refl
element ws i (suc (suc (suc (suc (suc (suc (suc (suc (suc (suc (suc (suc (suc zero))))))))))))) h = refl
element ws i (suc (suc (suc (suc (suc (suc (suc (suc (suc (suc (suc (suc (suc (suc zero)))))))))))))) h = refl
element ws i (suc (suc (suc (suc (suc (suc (suc (suc (suc (suc (suc (suc (suc (suc (suc zero))))))))))))))) h = refl
element ws i (suc (suc (suc (suc (suc (suc (suc (suc (suc (suc (suc (suc (suc (suc (suc (suc k)))))))))))))))) h = absurd (omega arith)

window-under : (b : ℕ) (ws : List ℕ) (i a c : ℕ) → Under b ws i → all_under b (windowFrom (sixteen_of ws i) a c) ≡ true
unfolding windowFrom all_under
window-under b ws i a zero u = refl
window-under b ws i a (suc n) u =
    let p = place_before a (suc n) in
    let h : p < 16 = mod-lt (a + (16 - suc n)) (omega arith) in
    let l = u p h in
    let m = mod-le (at ws (i + p)) (2 ^ 32) in
    rw (element ws i p h, lt-ltb (number_of (at ws (i + p))) b (omega arith), window-under b ws i a n u)

-- the windows of intervals, whose places are all small
abbrev pub places_ok : List ℕ → Bool
places_ok ws =
    (leb (at ws 51) 16 && ltb (at ws 50) 16 && time_ok (moment_of (at ws 52) (at ws 53)))
    && (leb (at ws 71) 16 && ltb (at ws 70) 16 && time_ok (moment_of (at ws 72) (at ws 73)))

-- all parts but those two
abbrev pub parts_ok : List ℕ → Bool
parts_ok ws =
    window_ok (window_of ws)
    && leb (number_of (at ws 6)) 65535000
    && clock_ok (clock_of ws)
    && rtt_ok (rtt_of ws)
    && history_ok (history_of ws)
    && is_reading (whole_of (at ws 0))

-- sizes_small
module _ (ws : List ℕ) {c : ℕ} (e : c ≡ bits_to ws 34 16) where
  pub sizes-alike : c ≤ 1456 → true ≡ sizes_small ws
  sizes-alike h = rw (sym e, le-leb c 1456 h)

  pub sizes-raised : {d : ℕ} → 1456 < c → d ≡ raised_to ws 16 → (ltb c 2048 && ltb d 2048) ≡ sizes_small ws
  sizes-raised h f = rw (sym e, lt-leb c 1456 h, f)

module _ (ws : List ℕ) where
  size-under : sizes_small ws ≡ true → Under 1457 ws 34
  size-under e k h =
      let a = in-bits ws 34 16 k h in
      let b3 = ltb (bits_to ws 34 16) 2048 in
      let b4 = ltb (raised_to ws 16) 2048 in
      by_bool (leb (bits_to ws 34 16) 1456)
      (λ t. let b = leb-true (bits_to ws 34 16) 1456 t in omega arith)
      (λ t.
      let f : (b3 && b4) ≡ true = rw t at e in
      let b = ltb-true (bits_to ws 34 16) 2048 (and_left b3 b4 f) in
      let c = in-raised ws 16 k h in
      let d = ltb-true (raised_to ws 16) 2048 (and_right b3 b4 f) in
      let g : at ws (34 + k) % 2048 ≡ at ws (34 + k) = mod-eq_of_lt (omega arith) in
      omega arith)

module _ (ws : List ℕ) (e : intervals_small ws ≡ true) (f : sizes_small ws ≡ true) where
  together : bit_or (bits_to ws 18 16) (bits_to ws 54 16) < 2 ^ 31
  together = ltb-true (bit_or (bits_to ws 18 16) (bits_to ws 54 16)) (2 ^ 31) e

  gaps-small : Under (2 ^ 31) ws 18
  gaps-small k h = let a = in-bits ws 18 16 k h in let b = or_left (bits_to ws 18 16) (bits_to ws 54 16) in let c = together in omega arith

  probes-small : Under (2 ^ 31) ws 54
  probes-small k h = let a = in-bits ws 54 16 k h in let b = or_right (bits_to ws 18 16) (bits_to ws 54 16) in let c = together in omega arith

  sizes-small : Under 1457 ws 34
  sizes-small = size-under ws f

  all-formed : rates_formed ws ≡ true
  all-formed =
      rw (
        formed-under (2 ^ 31) ws 18 16 gaps-small (omega arith) (omega arith),
        formed-under 1457 ws 34 16 sizes-small (omega arith) (omega arith),
        formed-under (2 ^ 31) ws 54 16 probes-small (omega arith) (omega arith),
      )

  quick : {b : Bool} → b ≡ places_ok ws → b ≡ (rates_formed ws && (arrivals_ok (arrivals_of ws) && links_ok (links_of ws)))
  unfolding arrivals_ok links_ok
  quick g =
      g
      ∙ rw (
        all-formed,
        window-under (2 ^ 31) ws 18 (at ws 50) (at ws 51) gaps-small,
        window-under 1457 ws 34 (at ws 50) (at ws 51) sizes-small,
        window-under (2 ^ 31) ws 54 (at ws 70) (at ws 71) probes-small,
        and-true (leb (at ws 51) 16 && ltb (at ws 50) 16),
        and-true (leb (at ws 51) 16 && ltb (at ws 50) 16),
        and-true (leb (at ws 71) 16 && ltb (at ws 70) 16),
      )

-- intervals_small
pub small_by : (ws : List ℕ) {a b : ℕ} → a ≡ bits_to ws 18 16 → b ≡ bits_to ws 54 16 → ltb (bit_or a b) 2147483648 ≡ intervals_small ws
small_by ws e f = rw (e, f)

-- sound
and-any : (b : Bool) → (b && false) ≡ false
and-any true = refl
and-any false = refl

shuffle : (f l r a k w t c m y z : Bool)
    → (f && l && (r && (a && k)) && (w && t && c && m && y && z)) ≡ ((f && l && r) && (w && t && c && m && a && k && y && z))
shuffle false l r a k w t c m y z = refl
shuffle true false r a k w t c m y z = refl
shuffle true true false a k w t c m y z = refl
shuffle true true true a k false t c m y z = and-any (a && k)
shuffle true true true a k true false c m y z = and-any (a && k)
shuffle true true true a k true true false m y z = and-any (a && k)
shuffle true true true a k true true true false y z = and-any (a && k)
shuffle true true true false k true true true true y z = refl
shuffle true true true true false true true true true y z = refl
shuffle true true true true true true true true true y z = refl

pub no-range : head_ok nowhere ≡ false
unfolding head_ok fresh_head
no-range = refl

gated : (b : Bool) (ws : List ℕ) → (b && head_ok (head_of ws)) ≡ head_ok (cond b (head_of ws) nowhere)
gated true ws = refl
gated false ws = sym no-range

sound-by : (ws : List ℕ) {f l r p : Bool} → f ≡ first_formed ws → l ≡ last_formed ws → r ≡ (rates_formed ws && (arrivals_ok (arrivals_of ws) && links_ok (links_of ws))) → p ≡ parts_ok ws
    → (f && l && r && p) ≡ head_ok (unpack_of ws)
unfolding unpack_of formed head_of head_ok
sound-by ws e g h k =
    rw (e, g, h, k)
    (shuffle (first_formed ws) (last_formed ws) (rates_formed ws) (arrivals_ok (arrivals_of ws)) (links_ok (links_of ws)) (window_ok (window_of ws)) (leb (number_of (at ws 6)) 65535000) (clock_ok (clock_of ws)) (rtt_ok (rtt_of ws)) (history_ok (history_of ws)) (is_reading (whole_of (at ws 0)))
    ∙ gated (first_formed ws && last_formed ws && rates_formed ws) ws)

pub sound-quick : (ws : List ℕ) {f l p q : Bool} → intervals_small ws ≡ true → sizes_small ws ≡ true → f ≡ first_formed ws → l ≡ last_formed ws → p ≡ places_ok ws → q ≡ parts_ok ws
    → (f && l && p && q) ≡ head_ok (unpack_of ws)
sound-quick ws a b e g h k = sound-by ws e g (quick ws a b h) k

pub sound-slow : (ws : List ℕ) {h : Head} {b : Bool} → h ≡ unpack_of ws → b ≡ head_ok h → b ≡ head_ok (unpack_of ws)
sound-slow ws e f = rw (f, e)

pub ruleset sounds = (bits-start, bits-turn, bits-end, raised-start, raised-turn, raised-end, sizes-alike, sizes-raised, small_by, rules)
