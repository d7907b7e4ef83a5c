-- What the code of tail.rt does at each return, as laws over plain values. Assumes nothing.
use mathlib.Core.Path.{◌≡◌, refl, sym, ◌∙◌, ap}
use mathlib.Core.List.{List, [], ◌∷◌, ◌++◌, map, map-append, append_assoc, append-nil}
use Prim.Native.Nat.{ℕ, ◌+◌, ◌<◌, ◌≤◌}
use native.Mathlib.Numerals.{add-one}
use native.Mathlib.Omega.{arith}
use borrow.Author.Rules.{rules}
use lib.ListN.{length, get_or, take}
use lib.Seq.{take-suc, take_all}
use Rattle.std.proofs.lemmas.List.Sums.{sum_by_more, sum_by_more_le}
use Rattle.text.specs.Put.{put_ended, put_of}
use Rattle.text.proofs.Puts.{put-cursor, put_then, puts, put-none}
use Rattle.head.specs.Paper.{Value}
use Rattle.shapes.specs.Shapes.{value_bytes, spaced, closed}
use Rattle.shapes.specs.Inner.{value_of, width_of, widths_of}
use Rattle.shapes.specs.declared.part.Value as parts
use Rattle.shapes.specs.declared.part.Value.TheVariants.{Dash}

spaced-join : (us vs : List Value) → spaced (us ++ vs) ≡ spaced us ++ spaced vs
unfolding spaced
spaced-join [] vs = refl
spaced-join (u ∷ us) vs = rw (spaced-join us vs) (sym (append_assoc (32 ∷ value_bytes u) (spaced us) (spaced vs)))

closed-join : (us vs : List Value) → spaced us ++ closed vs ≡ closed (us ++ vs)
unfolding closed
closed-join us vs = sym (append_assoc (spaced us) (spaced vs) (10 ∷ [])) ∙ ap (λ (l : List ℕ). l ++ (10 ∷ [])) (sym (spaced-join us vs))

-- values of any sort, each by itself, up to the i-th
module _ {A : Type 0} (f : A → Value) (out₀ : List ℕ) (at : ℕ) (list : List A) where
  pub items-start : put_ended at out₀ ≡ put_of out₀ at (spaced (map f (take 0 list)))
  unfolding spaced
  items-start = puts out₀ at [] (omega arith) (put-none out₀ at)

  map_more : (i : ℕ) (d : A) → i < length list → map f (take (i + 1) list) ≡ map f (take i list) ++ (f (get_or list i d) ∷ [])
  map_more i d h = rw (add-one i, take-suc list i d h) (map-append f (take i list) (get_or list i d ∷ []))

  pub items-again : (i : ℕ) (d : A) {cursor p : ℕ} {out out₁ : List ℕ}
      → put_ended cursor out ≡ put_of out₀ at (spaced (map f (take i list)))
      → put_ended p out₁ ≡ put_of out cursor (spaced (f (get_or list i d) ∷ [])) → i < length list → cursor ≤ length out₀
      → put_ended p out₁ ≡ put_of out₀ at (spaced (map f (take (i + 1) list)))
  items-again i d {cursor} {p} {out} {out₁} e g h w =
      let us = map f (take i list) in
      let a = put-cursor out₀ at (spaced us) e in
      rw (map_more i d h)
      (put_then out₀ at (spaced us) (spaced (f (get_or list i d) ∷ [])) e g (omega arith)
      ∙ ap (put_of out₀ at) (sym (spaced-join us (f (get_or list i d) ∷ []))))

  pub items-done : (i : ℕ) {cursor : ℕ} {out : List ℕ}
      → put_ended cursor out ≡ put_of out₀ at (spaced (map f (take i list))) → length list ≤ i
      → put_ended cursor out ≡ put_of out₀ at (spaced (map f list))
  items-done i e h = e ∙ ap (λ (l : List A). put_of out₀ at (spaced (map f l))) (take_all i list h)

-- a value's bytes are within the room of all, and those so far within theirs
module _ (list : List parts.Value) (at : ℕ) where
  pub widths-room : (i : ℕ) (d : parts.Value) (n : ℕ) {cursor : ℕ}
      → cursor ≤ at + widths_of (take i list) → at + widths_of list ≤ n → i < length list → cursor + width_of (get_or list i d) ≤ n
  widths-room i d n e h k = omega (arith, sum_by_more_le width_of list i d k)

  pub widths-again : (i : ℕ) (d : parts.Value) {cursor p : ℕ}
      → cursor ≤ at + widths_of (take i list) → p ≤ cursor + width_of (get_or list i d) → i < length list → p ≤ at + widths_of (take (i + 1) list)
  widths-again i d e g k = omega (arith, sum_by_more width_of list i d k)

  pub widths-done : (i : ℕ) {cursor : ℕ} → cursor ≤ at + widths_of (take i list) → length list ≤ i → cursor ≤ at + widths_of list
  widths-done i e h = rw (take_all i list h) at e

-- and the line's end
pub items-closed : (out₀ : List ℕ) (at m : ℕ) (us : List Value) {p r : ℕ} {out₁ out₂ : List ℕ}
    → put_ended p out₁ ≡ put_of out₀ at (spaced us) → p ≤ at + m → at + (m + 1) ≤ length out₀
    → put_ended r out₂ ≡ put_of out₁ p (closed []) → put_ended r out₂ ≡ put_of out₀ at (closed us)
items-closed out₀ at m us e w h f =
    let a = put-cursor out₀ at (spaced us) e in
    put_then out₀ at (spaced us) (closed []) e f (omega arith)
    ∙ ap (put_of out₀ at) (closed-join us [] ∙ ap closed (append-nil us))

-- no rate
module _ (out : List ℕ) (at : ℕ) {r : ℕ} {out₁ : List ℕ} (e : put_ended r out₁ ≡ put_of out at (32 ∷ 45 ∷ [])) where
  pub dashed : (v : parts.Value) → v ≡ Dash → put_ended r out₁ ≡ put_of out at (spaced (value_of v ∷ []))
  unfolding spaced
  dashed v h = rw h e

  pub dashed-within : (v : parts.Value) → v ≡ Dash → r ≤ at + width_of v
  dashed-within v h = rw h (omega (arith, put-cursor out at (32 ∷ 45 ∷ []) e))

pub ruleset tails = (items-start, items-again, items-done, items-closed, widths-room, widths-again, widths-done, dashed, dashed-within, rules)
