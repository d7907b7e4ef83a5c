-- Big-endian numbers: what the code of bytes.rt does at each return, as laws over plain values. Assumes nothing.
use mathlib.Core.Path.{◌≡◌, sym, ◌∙◌, ap}
use mathlib.Core.List.{List, [], ◌∷◌}
use Prim.Native.Nat.{ℕ, suc, ◌+◌, ◌-◌, ◌^◌, ◌<◌, ◌≤◌}
use native.Mathlib.Omega.{arith}
use borrow.Author.Rules.{rules}
use lib.IntN.{ℤ, pos, negsuc, ◌-ℤ◌}
use lib.ListN.{length, get_or, take, drop}
use lib.Seq.{drop-cons}
use mir.Syntax.{w8, w64}
use mir.Val.{Fits}
use mir.Facts.{to_z_pos, to_z-neg}
use Rattle.std.specs.Int.{w16, w32, from_be_bytes, cast_signed}
use Rattle.numbers.specs.Circular.{signed}
use Rattle.numbers.proofs.Flags.{by-order}
use Rattle.numbers.proofs.Halves.{same, above--, below--}
use Rattle.numbers.proofs.Signs.{signed_low, signed_high}
use Rattle.dlt.specs.Bytes.{big_from, big, field, time_at}

-- the number of the bytes is the library's
two_bytes : (a b : ℕ) → from_be_bytes w16 (a ∷ b ∷ []) ≡ big (a ∷ b ∷ [])
unfolding big big_from
two_bytes a b = omega arith

four_bytes : (a b c d : ℕ) → from_be_bytes w32 (a ∷ b ∷ c ∷ d ∷ []) ≡ big (a ∷ b ∷ c ∷ d ∷ [])
unfolding big big_from
four_bytes a b c d = omega arith

eight_bytes : (a b c d e f g h : ℕ) → from_be_bytes w64 (a ∷ b ∷ c ∷ d ∷ e ∷ f ∷ g ∷ h ∷ []) ≡ big (a ∷ b ∷ c ∷ d ∷ e ∷ f ∷ g ∷ h ∷ [])
unfolding big big_from
eight_bytes a b c d e f g h = omega arith

-- the bytes of a field, one by one
module _ (xs : List ℕ) where
  one_in : (at n : ℕ) → at < length xs → take (suc n) (drop at xs) ≡ get_or xs at 0 ∷ take n (drop (at + 1) xs)
  one_in at n h = let e : at + 1 ≡ suc at = omega arith in rw (e, drop-cons xs at 0)

  two_in : (at n : ℕ) → at + 1 < length xs → take (suc (suc n)) (drop at xs) ≡ get_or xs at 0 ∷ get_or xs (at + 1) 0 ∷ take n (drop (at + 2) xs)
  two_in at n h = let e : at + 1 + 1 ≡ at + 2 = omega arith in rw (one_in at (suc n) (omega arith), one_in (at + 1) n h, e)

  four_in : (at n : ℕ) → at + 3 < length xs
      → take (suc (suc (suc (suc n)))) (drop at xs) ≡ get_or xs at 0 ∷ get_or xs (at + 1) 0 ∷ get_or xs (at + 2) 0 ∷ get_or xs (at + 3) 0 ∷ take n (drop (at + 4) xs)
  four_in at n h =
      let e : at + 2 + 1 ≡ at + 3 = omega arith in
      let f : at + 2 + 2 ≡ at + 4 = omega arith in
      rw (two_in at (suc (suc n)) (omega arith), two_in (at + 2) n (omega arith), e, f)

  module _ (at : ℕ) where
    pub half_is : {r : ℕ} → at + 2 ≤ length xs → r ≡ from_be_bytes w16 (get_or xs at 0 ∷ get_or xs (at + 1) 0 ∷ []) → r ≡ field xs at 2
    unfolding field
    half_is h e = rw (two_in at 0 (omega arith)) (e ∙ two_bytes _ _)

    pub word-is : {r : ℕ} → at + 4 ≤ length xs → r ≡ from_be_bytes w32 (get_or xs at 0 ∷ get_or xs (at + 1) 0 ∷ get_or xs (at + 2) 0 ∷ get_or xs (at + 3) 0 ∷ []) → r ≡ field xs at 4
    unfolding field
    word-is h e = rw (four_in at 0 (omega arith)) (e ∙ four_bytes _ _ _ _)

    long-is : at + 8 ≤ length xs
        → from_be_bytes w64 (get_or xs at 0 ∷ get_or xs (at + 1) 0 ∷ get_or xs (at + 2) 0 ∷ get_or xs (at + 3) 0 ∷ get_or xs (at + 4) 0 ∷ get_or xs (at + 5) 0 ∷ get_or xs (at + 6) 0 ∷ get_or xs (at + 7) 0 ∷ [])
        ≡ field xs at 8
    unfolding field
    long-is h =
        let e : at + 4 + 1 ≡ at + 5 = omega arith in
        let f : at + 4 + 2 ≡ at + 6 = omega arith in
        let g : at + 4 + 3 ≡ at + 7 = omega arith in
        rw (four_in at 4 (omega arith), four_in (at + 4) 0 (omega arith), e, f, g) (eight_bytes _ _ _ _ _ _ _ _)

-- the signed number of the same 64 bits
signed-is : (n : ℕ) → n < 2 ^ 64 → cast_signed w64 n ≡ signed 64 n
signed-is n h =
    by-order n (2 ^ 63)
    (λ l. to_z_pos w64 l ∙ sym (signed_low 64 n l))
    (λ l.
    let k : ℕ = 2 ^ 64 - suc n in
    let e : 2 ^ 64 - suc k ≡ n = omega arith in
    let f : negsuc k ≡ pos n -ℤ pos (2 ^ 64) = same (simp above-- (omega arith)) (simp below-- (omega arith)) in
    ap (cast_signed w64) (sym e) ∙ to_z-neg w64 k (omega arith) ∙ f ∙ sym (signed_high 64 n l))

eight-below : (a b c d e f g h : ℕ) → a < 256 → b < 256 → c < 256 → d < 256 → e < 256 → f < 256 → g < 256 → h < 256
    → from_be_bytes w64 (a ∷ b ∷ c ∷ d ∷ e ∷ f ∷ g ∷ h ∷ []) < 2 ^ 64
eight-below a b c d e f g h i j k l m n o p = omega arith

pub time-is : (xs : List ℕ) (at : ℕ) {z : ℤ} → ((i : ℕ) → Fits w8 (get_or xs i 0)) → at + 8 ≤ length xs
    → z ≡ cast_signed w64 (from_be_bytes w64 (get_or xs at 0 ∷ get_or xs (at + 1) 0 ∷ get_or xs (at + 2) 0 ∷ get_or xs (at + 3) 0 ∷ get_or xs (at + 4) 0 ∷ get_or xs (at + 5) 0 ∷ get_or xs (at + 6) 0 ∷ get_or xs (at + 7) 0 ∷ []))
    → z ≡ time_at xs at
unfolding time_at
time-is xs at small h e =
    e
    ∙ signed-is _ (eight-below _ _ _ _ _ _ _ _ (small at).fits (small (at + 1)).fits (small (at + 2)).fits (small (at + 3)).fits (small (at + 4)).fits (small (at + 5)).fits (small (at + 6)).fits (small (at + 7)).fits)
    ∙ ap (signed 64) (long-is xs at h)

pub ruleset numbering = (half_is, word-is, rules)
