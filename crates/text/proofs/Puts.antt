-- Puts one after the other. Assumes nothing.
use mathlib.Core.Path.{◌≡◌, sym, ◌∙◌, ap}
use mathlib.Core.List.{List, [], ◌++◌, append_assoc}
use Prim.Native.Nat.{ℕ, ◌+◌, ◌≤◌}
use native.Mathlib.Nat.{add_assoc}
use native.Mathlib.Omega.{arith}
use lib.ListN.{length, take, drop, length-append, length-drop}
use lib.Seq.{length-take-le, take_at, drop_at, drop-drop, paste-zero}
use Rattle.text.specs.Put.{Put, put, put_ended, put_of}

module _ (out : List ℕ) (at : ℕ) (bs : List ℕ) (room : at + length bs ≤ length out) where
  head-length : length (take at out ++ bs) ≡ at + length bs
  head-length = rw (length-append (take at out) bs, length-take-le at out (omega arith))

  pub length-put : length (put out at bs) ≡ length out
  unfolding put
  length-put = rw (length-append (take at out ++ bs) (drop (at + length bs) out), head-length, length-drop (at + length bs) out) (omega arith)

  pub take_put : take (at + length bs) (put out at bs) ≡ take at out ++ bs
  unfolding put
  take_put = take_at (take at out ++ bs) (drop (at + length bs) out) (at + length bs) head-length

  pub drop-put : (n : ℕ) → drop (at + length bs + n) (put out at bs) ≡ drop (at + length bs + n) out
  unfolding put
  drop-put n =
      sym (drop-drop n (at + length bs) (put out at bs))
      ∙ ap (drop n) (drop_at (take at out ++ bs) (drop (at + length bs) out) (at + length bs) head-length)
      ∙ drop-drop n (at + length bs) out

-- nothing put changes nothing
pub put-none : (out : List ℕ) (at : ℕ) → out ≡ put out at []
unfolding put
put-none out at = paste-zero out at []

-- two puts one after the other are one put of the joined bytes
pub put-put : (out : List ℕ) (at : ℕ) (bs cs : List ℕ) → at + length bs ≤ length out
    → put (put out at bs) (at + length bs) cs ≡ put out at (bs ++ cs)
unfolding put
put-put out at bs cs room =
    ap (λ (l : List ℕ). l ++ cs ++ drop (at + length bs + length cs) (put out at bs)) (take_put out at bs room)
    ∙ ap (λ (l : List ℕ). take at out ++ bs ++ cs ++ l) (drop-put out at bs room (length cs))
    ∙ ap (λ (l : List ℕ). l ++ drop (at + length bs + length cs) out) (append_assoc (take at out) bs cs)
    ∙ ap (λ (n : ℕ). take at out ++ (bs ++ cs) ++ drop n out) (add_assoc at (length bs) (length cs) ∙ ap (λ (n : ℕ). at + n) (sym (length-append bs cs)))

module _ (out : List ℕ) (at : ℕ) (bs : List ℕ) {r : ℕ} {out₁ : List ℕ} (e : put_ended r out₁ ≡ put_of out at bs) where
  pub put-cursor : r ≡ at + length bs
  unfolding put_of
  put-cursor = ap (λ (p : Put). p.cursor) e

  pub put-area : out₁ ≡ put out at bs
  unfolding put_of
  put-area = ap (λ (p : Put). p.area) e

pub puts : (out : List ℕ) (at : ℕ) (bs : List ℕ) {r : ℕ} {out₁ : List ℕ} → r ≡ at + length bs → out₁ ≡ put out at bs → put_ended r out₁ ≡ put_of out at bs
unfolding put_of
puts out at bs e f = rw (e, f)

-- the same of two calls, the second at the cursor that the first gives
pub put_then : (out : List ℕ) (at : ℕ) (bs cs : List ℕ) {r s : ℕ} {out₁ out₂ : List ℕ}
    → put_ended r out₁ ≡ put_of out at bs → put_ended s out₂ ≡ put_of out₁ r cs → at + length bs ≤ length out
    → put_ended s out₂ ≡ put_of out at (bs ++ cs)
put_then out at bs cs {r} {s} {out₁} {out₂} e f room =
    let p = put-cursor out at bs e in
    let q = put-cursor out₁ r cs f in
    puts out at (bs ++ cs)
    (rw (length-append bs cs) (omega arith))
    (put-area out₁ r cs f ∙ rw (p, put-area out at bs e) (put-put out at bs cs room))

-- the room that a put leaves
pub put-room : (out : List ℕ) (at : ℕ) (bs : List ℕ) (k : ℕ) {r : ℕ} {out₁ : List ℕ}
    → put_ended r out₁ ≡ put_of out at bs → at + (length bs + k) ≤ length out → r + k ≤ length out₁
put-room out at bs k {r} {out₁} e room =
    let p = put-cursor out at bs e in
    let q = length-put out at bs (omega arith) in
    let l : length out₁ ≡ length out = ap length (put-area out at bs e) ∙ q in
    omega arith
