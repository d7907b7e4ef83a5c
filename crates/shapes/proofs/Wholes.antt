-- What the code of line.rt does at each return, as laws over plain values. Assumes nothing.
use mathlib.Core.Path.{◌≡◌}
use mathlib.Core.List.{List, [], ◌∷◌, ◌++◌, map}
use Prim.Native.Nat.{ℕ, ◌+◌, ◌*◌, ◌≤◌}
use native.Mathlib.Omega.{arith}
use borrow.Author.Rules.{rules}
use lib.ListN.{length, take}
use Rattle.std.proofs.lemmas.List.Sums.{sum_by-cons}
use Rattle.text.specs.Decimal.{decimal}
use Rattle.text.specs.Put.{put_ended, put_of}
use Rattle.text.proofs.Puts.{put-cursor, put_then}
use Rattle.head.specs.Paper.{Value, plain}
use Rattle.shapes.specs.Shapes.{closed, line_of}
use Rattle.shapes.specs.Inner.{width_of, widths_of, room_of}
use Rattle.shapes.specs.declared.part.Value as parts
use Rattle.shapes.specs.declared.part.Value.TheVariants.{Plain, Whole, Dash}

module _ (out : List ℕ) (at n : ℕ) (w : List ℕ) {p : ℕ} {out₁ : List ℕ} (e : put_ended p out₁ ≡ put_of out at (decimal n ++ (32 ∷ w))) (b : p ≤ at + 32) where
  opened : (vs : List Value) {r : ℕ} {out₂ : List ℕ} → at + 32 ≤ length out → put_ended r out₂ ≡ put_of out₁ p (closed vs) → put_ended r out₂ ≡ put_of out at (line_of n w vs)
  unfolding line_of
  opened vs h f =
      let a = put-cursor out at (decimal n ++ (32 ∷ w)) e in
      put_then out at (decimal n ++ (32 ∷ w)) (closed vs) e f (omega arith)

  pub open-closed : (vs : List Value) {r : ℕ} {out₂ : List ℕ} → at + 256 ≤ length out → put_ended r out₂ ≡ put_of out₁ p (closed vs) → put_ended r out₂ ≡ put_of out at (line_of n w vs)
  open-closed vs h f = opened vs (omega arith) f

  pub open-report : (list : List ℕ) (m : ℕ) {r : ℕ} {out₂ : List ℕ}
      → at + (256 + 21 * m) ≤ length out → put_ended r out₂ ≡ put_of out₁ p (closed (map plain (take m list))) → put_ended r out₂ ≡ put_of out at (line_of n w (map plain (take m list)))
  open-report list m h f = opened (map plain (take m list)) (omega arith) f

-- eight values are within 22 bytes each
width-most : (v : parts.Value) → width_of v ≤ 22
width-most (Plain _) = omega arith
width-most (Whole _) = omega arith
width-most Dash = omega arith

widths-most : (list : List parts.Value) → widths_of list ≤ 22 * length list
widths-most [] = omega arith
widths-most (v ∷ vs) = omega (arith, sum_by-cons width_of v vs, width-most v, widths-most vs)

pub widths-few : (list : List parts.Value) → length list ≤ 8 → widths_of list ≤ 176
widths-few list h = omega (arith, widths-most list)

pub values-within : (list : List parts.Value) → length list ≤ 8 → (at : ℕ) {p r : ℕ} → p ≤ at + 32 → r ≤ p + room_of list → r ≤ at + 256
values-within list few at w h = omega (arith, widths-few list few)

pub ruleset shapes = (open-closed, open-report, values-within, rules)
