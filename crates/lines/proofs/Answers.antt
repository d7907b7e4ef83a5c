-- What the code of lib.rt writes in the lines that have no record's number, end and bad, as laws over plain values.
-- Assumes nothing.
use mathlib.Core.Path.{◌≡◌, ◌∙◌, ap}
use mathlib.Core.List.{List, [], ◌∷◌}
use Prim.Native.Nat.{ℕ, ◌+◌, ◌≤◌}
use native.Mathlib.Omega.{arith}
use borrow.Author.Rules.{rules}
use lib.ListN.{length}
use Rattle.text.specs.Bytes.{bytes}
use Rattle.text.specs.Put.{put_ended, put_of}
use Rattle.text.proofs.Puts.{put_then}
use Rattle.head.specs.Paper.{Value, plain}
use Rattle.shapes.specs.Shapes.{closed}
use Rattle.shapes.specs.Inner.{value_of}
use Rattle.shapes.specs.declared.part.Value as parts
use Rattle.shapes.specs.declared.part.Value.TheVariants.{Plain}
use Rattle.lines.specs.Lines.{end_bytes, bad_bytes}

module _ (out : List ℕ) (at : ℕ) {p : ℕ} {out₁ : List ℕ} where
  pub end-bytes : (i j k l : ℕ) {u v w x : Value} {r : ℕ} {out₂ : List ℕ} → put_ended p out₁ ≡ put_of out at (bytes "end") → at + 256 ≤ length out
      → put_ended r out₂ ≡ put_of out₁ p (closed (u ∷ v ∷ w ∷ x ∷ [])) → u ≡ plain i → v ≡ plain j → w ≡ plain k → x ≡ plain l
      → put_ended r out₂ ≡ put_of out at (end_bytes i j k l)
  unfolding end_bytes
  end-bytes i j k l {u} {v} {w} {x} e h f a b c d =
      put_then out at (bytes "end") (closed (plain i ∷ plain j ∷ plain k ∷ plain l ∷ [])) e
      (f ∙ ap (λ y. put_of out₁ p (closed (y ∷ v ∷ w ∷ x ∷ []))) a ∙ ap (λ y. put_of out₁ p (closed (plain i ∷ y ∷ w ∷ x ∷ []))) b
      ∙ ap (λ y. put_of out₁ p (closed (plain i ∷ plain j ∷ y ∷ x ∷ []))) c
      ∙ ap (λ y. put_of out₁ p (closed (plain i ∷ plain j ∷ plain k ∷ y ∷ []))) d)
      (omega arith)

  pub bad-bytes : (i : ℕ) {v : Value} {r : ℕ} {out₂ : List ℕ} → put_ended p out₁ ≡ put_of out at (bytes "bad") → at + 256 ≤ length out
      → put_ended r out₂ ≡ put_of out₁ p (closed (v ∷ [])) → v ≡ plain i → put_ended r out₂ ≡ put_of out at (bad_bytes i)
  unfolding bad_bytes
  bad-bytes i e h f a =
      put_then out at (bytes "bad") (closed (plain i ∷ [])) e (f ∙ ap (λ y. put_of out₁ p (closed (y ∷ []))) a) (omega arith)

  -- the same of the values that the code has
  pub end-values : (i j k l : ℕ) {u v w x : parts.Value} {r : ℕ} {out₂ : List ℕ} → put_ended p out₁ ≡ put_of out at (bytes "end") → at + 256 ≤ length out
      → put_ended r out₂ ≡ put_of out₁ p (closed (value_of u ∷ value_of v ∷ value_of w ∷ value_of x ∷ [])) → u ≡ Plain i → v ≡ Plain j → w ≡ Plain k → x ≡ Plain l
      → put_ended r out₂ ≡ put_of out at (end_bytes i j k l)
  end-values i j k l e h f a b c d = end-bytes i j k l e h f (ap value_of a) (ap value_of b) (ap value_of c) (ap value_of d)

  pub bad-values : (i : ℕ) {v : parts.Value} {r : ℕ} {out₂ : List ℕ} → put_ended p out₁ ≡ put_of out at (bytes "bad") → at + 256 ≤ length out
      → put_ended r out₂ ≡ put_of out₁ p (closed (value_of v ∷ [])) → v ≡ Plain i → put_ended r out₂ ≡ put_of out at (bad_bytes i)
  bad-values i e h f a = bad-bytes i e h f (ap value_of a)

pub ruleset answers = (end-bytes, bad-bytes, end-values, bad-values, rules)
