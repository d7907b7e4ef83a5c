-- What the code of part.rt does at each return, as laws over plain values. Assumes nothing.
use mathlib.Core.Path.{◌≡◌, sym, ◌∙◌, ap}
use mathlib.Core.List.{List, [], ◌∷◌, ◌++◌, append-nil}
use Prim.Native.Nat.{ℕ, suc, ◌+◌, ◌^◌, ◌<◌, ◌≤◌}
use native.Mathlib.Omega.{arith}
use borrow.Author.Rules.{rules}
use lib.IntN.{ℤ, pos, negsuc}
use lib.ListN.{length}
use mir.Syntax.{w64}
use mir.Val.{SFits}
use Rattle.text.specs.Decimal as decimals
use Rattle.text.specs.Decimal.{decimal, signed_decimal}
use Rattle.text.specs.Put.{put_ended, put_of}
use Rattle.text.proofs.Numerals.{decimal-short}
use Rattle.text.proofs.Puts.{put-cursor, put_then, put-room}
use Rattle.head.specs.Paper.{Value, whole, plain}
use Rattle.shapes.specs.Shapes.{value_bytes, spaced, closed}

-- a value by itself
alone : (v : Value) → 32 ∷ value_bytes v ≡ spaced (v ∷ [])
unfolding spaced
alone v = ap (λ (l : List ℕ). 32 ∷ l) (sym (append-nil (value_bytes v)))

signed-short : (z : ℤ) → SFits w64 z → length (signed_decimal z) ≤ 21
unfolding decimals.signed_decimal
signed-short (pos n) f = omega (arith, decimal-short n (omega (arith, f.sfits)))
signed-short (negsuc n) f = omega (arith, decimal-short (suc n) (omega (arith, f.sfits)))

module _ (out : List ℕ) (at : ℕ) {p : ℕ} {out₁ : List ℕ} (e : put_ended p out₁ ≡ put_of out at (32 ∷ [])) where
  -- number
  module _ (n : ℕ) {r : ℕ} {out₂ : List ℕ} (f : put_ended r out₂ ≡ put_of out₁ p (decimal n)) where
    pub number-bytes : at + 21 ≤ length out → put_ended r out₂ ≡ put_of out at (spaced (plain n ∷ []))
    unfolding decimals.signed_decimal
    number-bytes h = put_then out at (32 ∷ []) (decimal n) e f (omega arith) ∙ ap (put_of out at) (alone (plain n))

    pub number-within : n < 2 ^ 64 → r ≤ at + 21
    number-within h =
        let a = put-cursor out at (32 ∷ []) e in
        let b = put-cursor out₁ p (decimal n) f in
        omega (arith, decimal-short n h)

  pub number-room : at + 21 ≤ length out → p + 20 ≤ length out₁
  number-room h = put-room out at (32 ∷ []) 20 e h

  -- whole
  module _ (z : ℤ) {z₁ : ℤ} {r : ℕ} {out₂ : List ℕ} (f : put_ended r out₂ ≡ put_of out₁ p (signed_decimal z₁)) (q : z₁ ≡ z) where
    pub whole-bytes : at + 22 ≤ length out → put_ended r out₂ ≡ put_of out at (spaced (whole z ∷ []))
    whole-bytes h =
        put_then out at (32 ∷ []) (signed_decimal z) e (f ∙ ap (λ (x : ℤ). put_of out₁ p (signed_decimal x)) q) (omega arith)
        ∙ ap (put_of out at) (alone (whole z))

    pub whole-within : SFits w64 z → r ≤ at + 22
    whole-within h =
        let a = put-cursor out at (32 ∷ []) e in
        let b = put-cursor out₁ p (signed_decimal z) (f ∙ ap (λ (x : ℤ). put_of out₁ p (signed_decimal x)) q) in
        omega (arith, signed-short z h)

  pub whole_room : at + 22 ≤ length out → p + 21 ≤ length out₁
  whole_room h = put-room out at (32 ∷ []) 21 e h

  -- word
  module _ (w : List ℕ) where
    pub word_bytes : {r : ℕ} {out₂ : List ℕ} → put_ended r out₂ ≡ put_of out₁ p w → at + (1 + length w) ≤ length out → put_ended r out₂ ≡ put_of out at (32 ∷ w)
    word_bytes f h = put_then out at (32 ∷ []) w e f (omega arith)

    pub word_room : at + (1 + length w) ≤ length out → p + length w ≤ length out₁
    word_room h = put-room out at (32 ∷ []) (length w) e h

-- open
module _ (out : List ℕ) (at n : ℕ) (w : List ℕ) {p : ℕ} {out₁ : List ℕ} (e : put_ended p out₁ ≡ put_of out at (decimal n)) (b : n < 2 ^ 64) where
  pub open-room : at + 32 ≤ length out → length w ≤ 8 → p + (1 + length w) ≤ length out₁
  open-room h k = put-room out at (decimal n) (1 + length w) e (omega (arith, decimal-short n b))

  pub open-bytes : {r : ℕ} {out₂ : List ℕ} → put_ended r out₂ ≡ put_of out₁ p (32 ∷ w) → at + 32 ≤ length out → put_ended r out₂ ≡ put_of out at (decimal n ++ (32 ∷ w))
  open-bytes f h = put_then out at (decimal n) (32 ∷ w) e f (omega (arith, decimal-short n b))

  pub open-within : {r : ℕ} {out₂ : List ℕ} → put_ended r out₂ ≡ put_of out₁ p (32 ∷ w) → length w ≤ 8 → r ≤ at + 32
  open-within f k =
      let a = put-cursor out at (decimal n) e in
      let c = put-cursor out₁ p (32 ∷ w) f in
      omega (arith, decimal-short n b)

pub start-within : (out : List ℕ) (at : ℕ) (w : List ℕ) {r : ℕ} {out₁ : List ℕ} → put_ended r out₁ ≡ put_of out at w → length w ≤ 8 → r ≤ at + 8
start-within out at w e h = omega (arith, put-cursor out at w e)

pub newline-bytes : (out : List ℕ) (at : ℕ) {r : ℕ} {out₁ : List ℕ} → put_ended r out₁ ≡ put_of out at (10 ∷ []) → put_ended r out₁ ≡ put_of out at (closed [])
unfolding closed spaced
newline-bytes out at e = e

pub newline-within : (out : List ℕ) (at : ℕ) {r : ℕ} {out₁ : List ℕ} → put_ended r out₁ ≡ put_of out at (10 ∷ []) → r ≤ at + 1
newline-within out at e = omega (arith, put-cursor out at (10 ∷ []) e)

pub ruleset parts = (number-bytes, number-within, number-room, whole-bytes, whole-within, whole_room, word_bytes, word_room, open-room, open-bytes, open-within, start-within, newline-bytes, newline-within, rules)
