-- Exactly when words are refused with 1: by one of 1a to 1d, or since the head that they say is out of range. Assumes nothing.
use mathlib.Core.Path.{◌≡◌, refl, sym, ◌∙◌, ap}
use mathlib.Core.Bool.{Bool, true, false, ◌&&◌, cond}
use mathlib.Core.List.{List, [], ◌∷◌, ◌++◌, map}
use Prim.Native.Nat.{ℕ, zero, suc}
use native.Mathlib.Omega.{arith}
use borrow.Author.Tests.{le-ltb, ne_eqb}
use lib.Ieee.{fits, nan_bits, of_bits}
use lib.ListN.{replicate, set}
use Rattle.numbers.specs.Circular.{signed}
use Rattle.numbers.proofs.Flags.{and_left, and_right}
use Rattle.clock.specs.Base.{fresh_base}
use Rattle.clock.specs.Ranges.{clock_ok}
use Rattle.clock.specs.Samples.{no_samples}
use Rattle.clock.specs.Sync.{fresh_clock}
use Rattle.acks.specs.History.{fresh_history, history_ok}
use Rattle.acks.specs.Rtt.{fresh_rtt, rtt_ok}
use Rattle.intervals.specs.Rates.{fresh_arrivals, fresh_links, arrivals_ok, links_ok, window_of, all_under}
use Rattle.head.specs.Head.{head_ok, fresh_head, nowhere}
use Rattle.head.specs.declared.state.Head.{Head}
use Rattle.upkeep.specs.Request.{room_call_of}
use Rattle.packing.specs.Packed.{at, numbers_formed, sixteen_of, formed, head_of, unpack_of}
use Rattle.packing.specs.Words.{number_formed, flag_formed, float_formed, moment_formed}
use Rattle.exports.specs.Calls.{room_export_of}
use Rattle.exports.specs.Causes.{flags_right, beside_right, times_right, floats_right, fields_right}

-- two tests that hold together are one
same_truth : (a b : Bool) → (a ≡ true → b ≡ true) → (b ≡ true → a ≡ true) → a ≡ b
same_truth true b f g = sym (f refl)
same_truth false true f g = g refl
same_truth false false f g = refl

-- tests joined by `and`, and each of them
abbrev joined : Bool → List Bool → Bool
joined t [] = t
joined t (x ∷ l) = joined (t && x) l

abbrev Each : List Bool → Type 0
Each [] = Unit {0}
Each (x ∷ l) = (x ≡ true) × Each l

each_of : (t : Bool) (l : List Bool) → joined t l ≡ true → (t ≡ true) × Each l
each_of t [] e = (e, tt)
each_of t (x ∷ l) e = let r = each_of (t && x) l e in (and_left t x r.0, (and_right t x r.0, r.1))

each : (l : List Bool) → joined true l ≡ true → Each l
each l e = (each_of true l e).1

-- the same 23 tests in the order of the words and by their cause
module _ (n4 n5 n6 f7 n9 s10 u10 f12 d13 d14 n15 n16 n17 s52 u52 s72 u72 n76 n77 n78 r18 r34 r54 : Bool) where
  abbrev firsts : List Bool
  firsts = n4 ∷ n5 ∷ n6 ∷ f7 ∷ n9 ∷ (s10 && u10) ∷ f12 ∷ d13 ∷ d14 ∷ n15 ∷ []

  abbrev lasts : List Bool
  lasts = n16 ∷ n17 ∷ (s52 && u52) ∷ (s72 && u72) ∷ n76 ∷ n77 ∷ n78 ∷ []

  abbrev by_words : Bool
  by_words = joined true firsts && joined true lasts && (r18 && r34 && r54)

  abbrev flags : List Bool
  flags = f7 ∷ f12 ∷ s10 ∷ s52 ∷ s72 ∷ []

  abbrev fields : List Bool
  fields = n4 ∷ n5 ∷ n6 ∷ n9 ∷ n15 ∷ n16 ∷ n17 ∷ r18 ∷ r34 ∷ r54 ∷ n76 ∷ n77 ∷ n78 ∷ []

  abbrev by_cause : Bool
  by_cause = joined true flags && (u10 && u52 && u72) && (d13 && d14) && joined true fields

  to-cause : by_words ≡ true → by_cause ≡ true
  to-cause e =
      let p = each (joined true firsts ∷ joined true lasts ∷ (r18 && r34 && r54) ∷ []) e in
      let a = each firsts p.0 in
      let b = each lasts p.1.0 in
      let c = each (r18 ∷ r34 ∷ r54 ∷ []) p.1.1.0 in
      let m = each (s10 ∷ u10 ∷ []) a.1.1.1.1.1.0 in
      let k = each (s52 ∷ u52 ∷ []) b.1.1.0 in
      let q = each (s72 ∷ u72 ∷ []) b.1.1.1.0 in
      rw (a.1.1.1.0, a.1.1.1.1.1.1.0, m.0, k.0, q.0, m.1.0, k.1.0, q.1.0, a.1.1.1.1.1.1.1.0, a.1.1.1.1.1.1.1.1.0)
      (rw (a.0, a.1.0, a.1.1.0, a.1.1.1.1.0, a.1.1.1.1.1.1.1.1.1.0, b.0, b.1.0, c.0, c.1.0, c.1.1.0, b.1.1.1.1.0, b.1.1.1.1.1.0, b.1.1.1.1.1.1.0))

  to-words : by_cause ≡ true → by_words ≡ true
  to-words e =
      let p = each (joined true flags ∷ (u10 && u52 && u72) ∷ (d13 && d14) ∷ joined true fields ∷ []) e in
      let a = each flags p.0 in
      let b = each (u10 ∷ u52 ∷ u72 ∷ []) p.1.0 in
      let c = each (d13 ∷ d14 ∷ []) p.1.1.0 in
      let f = each fields p.1.1.1.0 in
      rw (f.0, f.1.0, f.1.1.0, a.0, f.1.1.1.0, a.1.1.0, b.0, a.1.0, c.0, c.1.0, f.1.1.1.1.0)
      (rw (f.1.1.1.1.1.0, f.1.1.1.1.1.1.0, a.1.1.1.0, b.1.0, a.1.1.1.1.0, b.1.1.0)
      (rw (f.1.1.1.1.1.1.1.1.1.1.0, f.1.1.1.1.1.1.1.1.1.1.1.0, f.1.1.1.1.1.1.1.1.1.1.1.1.0, f.1.1.1.1.1.1.1.0, f.1.1.1.1.1.1.1.1.0, f.1.1.1.1.1.1.1.1.1.0)))

  sorted : by_words ≡ by_cause
  sorted = same_truth by_words by_cause to-cause to-words

-- an optional time is two words: a flag, and nothing beside an unset one
moment-right : (set time : ℕ) → moment_formed set time ≡ (flag_formed set && beside_right set time)
moment-right zero time = refl
moment-right (suc zero) time = refl
moment-right (suc (suc n)) time =
    rw (ne_eqb (suc (suc n)) 1 (λ e. omega arith), ne_eqb (suc (suc n)) 0 (λ e. omega arith), le-ltb (suc (suc n)) 2 (omega arith))

-- words that are not formed say a head out of range
by_form : (b : Bool) (h : Head) → head_ok (cond b h nowhere) ≡ (b && head_ok h)
unfolding head_ok fresh_head
by_form true h = refl
by_form false h = refl

module _ (ws : List ℕ) where
  pub formed-exactly : formed ws ≡ (flags_right ws && times_right ws && floats_right ws && fields_right ws)
  unfolding formed
  formed-exactly =
      rw (moment-right (at ws 10) (at ws 11), moment-right (at ws 52) (at ws 53), moment-right (at ws 72) (at ws 73))
      (sorted (number_formed (at ws 4)) (number_formed (at ws 5)) (number_formed (at ws 6)) (flag_formed (at ws 7)) (number_formed (at ws 9))
      (flag_formed (at ws 10)) (beside_right (at ws 10) (at ws 11)) (flag_formed (at ws 12)) (float_formed (at ws 13)) (float_formed (at ws 14)) (number_formed (at ws 15))
      (number_formed (at ws 16)) (number_formed (at ws 17)) (flag_formed (at ws 52)) (beside_right (at ws 52) (at ws 53)) (flag_formed (at ws 72)) (beside_right (at ws 72) (at ws 73))
      (number_formed (at ws 76)) (number_formed (at ws 77)) (number_formed (at ws 78)) (numbers_formed ws 18 16) (numbers_formed ws 34 16) (numbers_formed ws 54 16))

  -- in range only if nothing of 1a to 1d is wrong, and the head that the words say is in range: 01's ranges, and 1e
  pub refused-exactly : head_ok (unpack_of ws) ≡ (flags_right ws && times_right ws && floats_right ws && fields_right ws && head_ok (head_of ws))
  unfolding unpack_of
  refused-exactly = by_form (formed ws) (head_of ws) ∙ ap (λ (b : Bool). b && head_ok (head_of ws)) formed-exactly

-- the words of a fresh head (start 5, latency 120,000, late dropping, first number 7, capacity 32), with one word, or two, put otherwise
abbrev fresh : List ℕ
fresh = 5 ∷ 32 ∷ 0 ∷ 0 ∷ 7 ∷ 7 ∷ 120000 ∷ 1 ∷ 5 ∷ replicate 7 0 ++ 10000 ∷ 1000 ∷ replicate 56 0 ++ 0 ∷ 0 ∷ 1 ∷ 7 ∷ 7 ∷ []

-- 1a to 1e, a word for each kind of place
abbrev wrong : List (List ℕ)
wrong =
    set fresh 7 2
    ∷ set fresh 12 2
    ∷ set fresh 10 2
    ∷ set fresh 11 5
    ∷ set fresh 53 5
    ∷ set fresh 73 5
    ∷ set fresh 13 9221120237041090561
    ∷ set fresh 14 18444492273895866368
    ∷ set fresh 9 4294967296
    ∷ set fresh 18 4294967296
    ∷ set fresh 69 4294967296
    ∷ set fresh 50 16
    ∷ set fresh 70 16
    ∷ []

-- and what is right there: the flags turned, a time that is set, the one NaN and an infinity, a field at the end of its type, a place of 15
abbrev right : List (List ℕ)
right =
    fresh
    ∷ set fresh 7 0
    ∷ set fresh 12 1
    ∷ set (set fresh 10 1) 11 5
    ∷ set (set fresh 52 1) 53 5
    ∷ set (set fresh 72 1) 73 5
    ∷ set fresh 13 9221120237041090560
    ∷ set fresh 14 9218868437227405312
    ∷ set fresh 9 4294967295
    ∷ set fresh 18 4294967295
    ∷ set fresh 69 4294967295
    ∷ set fresh 50 15
    ∷ set fresh 70 15
    ∷ []

causes-refused : map (λ (ws : List ℕ). (room_export_of ws).returned) (wrong ++ right) ≡ (replicate 13 1 ++ replicate 13 0)
unfolding room_export_of room_call_of unpack_of formed head_of numbers_formed sixteen_of head_ok fresh_head fresh_clock fresh_base no_samples fresh_rtt fresh_arrivals fresh_links fresh_history clock_ok rtt_ok arrivals_ok links_ok window_of all_under history_ok signed nan_bits of_bits fits
causes-refused = refl
