-- What the code does at each return, as laws over plain values. Assumes nothing.
use mathlib.Core.Path.{◌≡◌, refl, sym, ◌∙◌, ap}
use mathlib.Core.Bool.{true, false}
use mathlib.Core.List.{List, [], ◌∷◌, ◌++◌, append_assoc, append-nil}
use Prim.Native.Nat.{ℕ, suc, ◌+◌, ◌-◌, ◌/◌, ◌%◌, ◌<◌, ◌≤◌}
use native.Mathlib.Nat.{div-lt_self, mod-lt}
use native.Mathlib.Numerals.{add-one}
use native.Mathlib.Omega.{arith}
use borrow.Author.Rules.{rules}
use lib.Dec.{leb-zero}
use lib.IntN.{ℤ, pos, negsuc, nat_abs}
use lib.Signed.{le_z}
use lib.ListN.{length, take, drop, set, length-set, length-drop, drop_of_length-le}
use mir.Syntax.{w8, w64}
use mir.Val.{Fits}
use lib.Seq.{paste, take-length, take_all, set_split, drop-cons, get_or-set_same, drop-set-lt, append_snoc}
use Rattle.numbers.proofs.Flags.{impossible}
use Rattle.text.specs.Decimal.{decimal, signed_decimal}
use Rattle.text.specs.Put.{put, put_ended, put_of}
use Rattle.text.proofs.Numerals.{decimal-one, decimal-more, length_more, decimal-some, decimal-short}
use Rattle.text.proofs.Puts.{put_then, puts, put-room}

-- put_byte
pub byte_put : (out : List ℕ) (at b : ℕ) → at < length out → put_ended (at + 1) (set out at b) ≡ put_of out at (b ∷ [])
unfolding put
byte_put out at b h =
    puts out at (b ∷ []) refl
    (set_split out at b h ∙ rw (← add-one at) (sym (append_assoc (take at out) (b ∷ []) (drop (at + 1) out))))

-- put_bytes
pub bytes-put : (out : List ℕ) (at : ℕ) (text : List ℕ) {out₁ : List ℕ} → out₁ ≡ paste out at text (length text) → put_ended (at + length text) out₁ ≡ put_of out at text
unfolding put
bytes-put out at text e =
    puts out at text refl
    (e ∙ ap (λ (l : List ℕ). take at out ++ l ++ drop (at + length text) out) (take-length text))

-- spell: what stands at the end of the area, and the digits that are left
drop-set-here : (l : List ℕ) (j x : ℕ) → j < length l → drop j (set l j x) ≡ x ∷ drop (j + 1) l
drop-set-here l j x h =
    let k : j < length (set l j x) = rw (length-set l j x) h in
    let m : j < suc j = omega arith in
    rw (add-one j, drop-cons (set l j x) j 0 k, get_or-set_same l j x 0 h, drop-set-lt (suc j) l j x m)

module _ (area : List ℕ) (n : ℕ) where
  pub spell-start : length area ≡ 20 → decimal n ++ drop 20 area ≡ decimal n
  spell-start h = rw (drop_of_length-le area {i = 20} (omega arith)) (append-nil (decimal n))

  module _ (rest i : ℕ) (inv : decimal rest ++ drop i area ≡ decimal n) (room : length (decimal rest) ≤ i) (len : length area ≡ 20) (low : i ≤ 20) where
    back : (x : ℕ) → drop (i - 1) (set area (i - 1) x) ≡ x ∷ drop i area
    back x =
        let o = decimal-some rest in
        let e : i - 1 + 1 ≡ i = omega arith in
        drop-set-here area (i - 1) x (omega arith) ∙ ap (λ (k : ℕ). x ∷ drop k area) e

    pub spell-again : 9 < rest → decimal (rest / 10) ++ drop (i - 1) (set area (i - 1) (48 + rest % 10)) ≡ decimal n
    spell-again h =
        rw (back (48 + rest % 10))
        (sym (append_snoc (decimal (rest / 10)) (48 + rest % 10) (drop i area))
        ∙ ap (λ (l : List ℕ). l ++ drop i area) (sym (decimal-more rest h))
        ∙ inv)

    pub spell-done : rest ≤ 9 → drop (i - 1) (set area (i - 1) (48 + rest)) ≡ decimal n
    spell-done h = rw (back (48 + rest)) (ap (λ (l : List ℕ). l ++ drop i area) (sym (decimal-one rest (omega arith))) ∙ inv)

pub spell-some : (rest i : ℕ) → length (decimal rest) ≤ i → 1 ≤ i
spell-some rest i h = omega (arith, decimal-some rest)

pub spell-less : (rest i : ℕ) → 9 < rest → length (decimal rest) ≤ i → length (decimal (rest / 10)) ≤ i - 1
spell-less rest i h k = omega (arith, length_more rest h)

pub spell-index : (rest i : ℕ) → length (decimal rest) ≤ i → i ≤ 20 → i - 1 < 20
spell-index rest i h k = omega (arith, decimal-some rest)

pub digit-fits : (rest : ℕ) → Fits w8 (48 + rest % 10)
digit-fits rest = record { fits = omega (arith, mod-lt rest {m = 10} (omega arith)) }

pub digit-wide : (rest : ℕ) → Fits w64 (48 + rest % 10)
digit-wide rest = record { fits = omega (arith, mod-lt rest {m = 10} (omega arith)) }

pub quotient-less : (rest : ℕ) → 9 < rest → rest / 10 < rest
quotient-less rest h = div-lt_self (omega arith) (omega arith)

pub spell-long : (area₀ area : List ℕ) (j x : ℕ) → length area ≡ 20 → length area₀ ≡ 20 → length (set area j x) ≡ length area₀
spell-long area₀ area j x e f = length-set area j x ∙ e ∙ sym f

-- put_decimal: the digits are the area from where they start to its end
pub decimal-put : (out : List ℕ) (at : ℕ) (area : List ℕ) (i n : ℕ) {r : ℕ} {out₁ : List ℕ}
    → put_ended r out₁ ≡ put_of out at (take (20 - i) (drop i area)) → length area ≡ 20 → drop i area ≡ decimal n
    → put_ended r out₁ ≡ put_of out at (decimal n)
decimal-put out at area i n e len d =
    e ∙ ap (put_of out at) (take_all (20 - i) (drop i area) (rw (length-drop i area) (omega arith)) ∙ d)

-- put_signed; z₁ and z₂ are z as the machine reads it back
pub signed_above : (out : List ℕ) (at : ℕ) (z : ℤ) {z₁ z₂ : ℤ} {n r : ℕ} {out₁ : List ℕ}
    → n ≡ nat_abs z₁ → z₁ ≡ z → le_z (pos 0) z₂ ≡ true → z₂ ≡ z
    → put_ended r out₁ ≡ put_of out at (decimal n) → put_ended r out₁ ≡ put_of out at (signed_decimal z)
unfolding signed_decimal
signed_above out at (pos m) size p h q e = e ∙ ap (λ (k : ℕ). put_of out at (decimal k)) (size ∙ ap nat_abs p)
signed_above out at (negsuc m) size p h q e = impossible (sym (rw q at h))

pub signed_below : (out : List ℕ) (at : ℕ) (z : ℤ) {z₁ z₂ : ℤ} {n r s : ℕ} {out₁ out₂ : List ℕ}
    → n ≡ nat_abs z₁ → z₁ ≡ z → le_z (pos 0) z₂ ≡ false → z₂ ≡ z → at + 21 ≤ length out
    → put_ended r out₁ ≡ put_of out at (45 ∷ []) → put_ended s out₂ ≡ put_of out₁ r (decimal n) → put_ended s out₂ ≡ put_of out at (signed_decimal z)
unfolding signed_decimal
signed_below out at (pos m) size p h q room e f = impossible (sym (leb-zero m) ∙ rw q at h)
signed_below out at (negsuc m) {r = r} {out₁ = out₁} size p h q room e f =
    put_then out at (45 ∷ []) (decimal (suc m)) e (f ∙ ap (λ (k : ℕ). put_of out₁ r (decimal k)) (size ∙ ap nat_abs p)) (omega arith)

pub sign-room : (out : List ℕ) (at b : ℕ) {r : ℕ} {out₁ : List ℕ} → put_ended r out₁ ≡ put_of out at (b ∷ []) → at + 21 ≤ length out → r + 20 ≤ length out₁
sign-room out at b e h = put-room out at (b ∷ []) 20 e h

pub ruleset spelling = (spell-long, spell-start, spell-again, spell-done, decimal-short, spell-some, spell-less, spell-index, digit-fits, digit-wide, quotient-less, rules)

pub ruleset lines = (decimal-put, signed_above, signed_below, sign-room, rules)

pub ruleset copies = (byte_put, bytes-put, rules)
