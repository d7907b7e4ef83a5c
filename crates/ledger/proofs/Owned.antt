-- Whose bytes a place has: each way in which the ledger changes keeps "the bytes of a place belong to its number", whatever belonging means. Assumes nothing.
use mathlib.Core.Path.{◌≡◌, ap, sym, subst}
use mathlib.Core.Bool.{Bool, true, false, ◌&&◌, cond}
use mathlib.Core.List.{List, [], ◌∷◌, ◌++◌, map}
use Prim.Native.Nat.{ℕ, zero, suc, ◌+◌, ◌≤◌}
use native.Mathlib.Omega.{arith}
use borrow.Author.Tests.{eqb-true}
use lib.Dec.{eqb, ltb, leb}
use lib.ListN.{length, take, drop, replicate, get_or}
use Rattle.numbers.specs.Circular.{sum}
use Rattle.numbers.proofs.Flags.{by_bool}
use Rattle.views.specs.Lists.{run_of, changed_in}
use Rattle.ledger.specs.Ledger.{Place, lost, received, given_up, Fate, released, discarded, bytes_of, gave_up, given_in, marked, received_run}

module _ (S : ℕ → List ℕ → Type 0) (first : ℕ) where
  -- the places of a list, the first of which is place p
  abbrev pub OwnHeld : ℕ → List Place → Type 0
  OwnHeld p xs = (i : ℕ) (bytes : List ℕ) → get_or xs i lost ≡ received bytes → S (sum 31 first (p + i)) bytes

  abbrev pub OwnGone : ℕ → List Fate → Type 0
  OwnGone p fs = (i : ℕ) (bytes : List ℕ) → get_or fs i discarded ≡ released bytes → S (sum 31 first (p + i)) bytes

  at : (p q : ℕ) (bytes : List ℕ) → p ≡ q → S (sum 31 first p) bytes → S (sum 31 first q) bytes
  at p q bytes e s = subst (λ (x : ℕ). S (sum 31 first x) bytes) e s

  -- one kind of place is not another
  clash : {bytes : List ℕ} {P : Type 0} → lost ≡ received bytes → P
  clash e = absurd (let z : ◌≡◌ {A = ℕ} 0 1 = cc in omega arith)

  clash₁ : {bytes : List ℕ} {P : Type 0} → discarded ≡ released bytes → P
  clash₁ e = absurd (let z : ◌≡◌ {A = ℕ} 0 1 = cc in omega arith)

  clash₂ : {bytes : List ℕ} {P : Type 0} → given_up ≡ received bytes → P
  clash₂ e = absurd (let z : ◌≡◌ {A = ℕ} 0 1 = cc in omega arith)

  pub nothing : (i : ℕ) (bytes : List ℕ) {P : Type 0} → get_or [] i lost ≡ received bytes → P
  nothing i bytes e = clash e

  pub empty : (i : ℕ) (bytes : List ℕ) {P : Type 0} → get_or [] i discarded ≡ released bytes → P
  empty i bytes e = clash₁ e

  -- a list and its parts
  pub held-tail : (p : ℕ) (x : Place) (xs : List Place) → OwnHeld p (x ∷ xs) → OwnHeld (suc p) xs
  held-tail p x xs o i bytes e = at (p + suc i) (suc p + i) bytes (omega arith) (o (suc i) bytes e)

  pub held_cons : (p : ℕ) (x : Place) (xs : List Place) → ((bytes : List ℕ) → x ≡ received bytes → S (sum 31 first p) bytes) → OwnHeld (suc p) xs → OwnHeld p (x ∷ xs)
  held_cons p x xs a o zero bytes e = at p (p + 0) bytes (omega arith) (a bytes e)
  held_cons p x xs a o (suc i) bytes e = at (suc p + i) (p + suc i) bytes (omega arith) (o i bytes e)

  pub held-head : (p : ℕ) (x : Place) (xs : List Place) → OwnHeld p (x ∷ xs) → (bytes : List ℕ) → x ≡ received bytes → S (sum 31 first p) bytes
  held-head p x xs o bytes e = at (p + 0) p bytes (omega arith) (o 0 bytes e)

  pub held-append : (xs ys : List Place) (p : ℕ) → OwnHeld p xs → OwnHeld (p + length xs) ys → OwnHeld p (xs ++ ys)
  held-append [] ys p a b i bytes e = at (p + 0 + i) (p + i) bytes (omega arith) (b i bytes e)
  held-append (x ∷ xs) ys p a b i bytes e =
      held_cons p x (xs ++ ys) (held-head p x xs a)
      (held-append xs ys (suc p) (held-tail p x xs a) (λ j c d. at (p + suc (length xs) + j) (suc p + length xs + j) c (omega arith) (b j c d)))
      i bytes e

  pub gone-append : (fs gs : List Fate) (p : ℕ) → OwnGone p fs → OwnGone (p + length fs) gs → OwnGone p (fs ++ gs)
  gone-append [] gs p a b i bytes e = at (p + 0 + i) (p + i) bytes (omega arith) (b i bytes e)
  gone-append (f ∷ fs) gs p a b zero bytes e = a zero bytes e
  gone-append (f ∷ fs) gs p a b (suc i) bytes e =
      at (suc p + i) (p + suc i) bytes (omega arith)
      (gone-append fs gs (suc p) (λ j c d. at (p + suc j) (suc p + j) c (omega arith) (a (suc j) c d)) (λ j c d. at (p + suc (length fs) + j) (suc p + length fs + j) c (omega arith) (b j c d)) i bytes e)

  pub held-drop : (n : ℕ) (xs : List Place) (p : ℕ) → OwnHeld p xs → OwnHeld (p + n) (drop n xs)
  held-drop zero xs p o i bytes e = at (p + i) (p + 0 + i) bytes (omega arith) (o i bytes e)
  held-drop (suc n) [] p o i bytes e = nothing i bytes e
  held-drop (suc n) (x ∷ xs) p o i bytes e = at (suc p + n + i) (p + suc n + i) bytes (omega arith) (held-drop n xs (suc p) (held-tail p x xs o) i bytes e)

  -- one packet, and a run of gaps
  pub held-packet : (p : ℕ) (bytes : List ℕ) → S (sum 31 first p) bytes → OwnHeld p (received bytes ∷ [])
  held-packet p bytes s = held_cons p (received bytes) [] (λ b e. let z : bytes ≡ b = cc in subst (S (sum 31 first p)) z s) (λ i b e. nothing i b e)

  pub held-gaps : (n p : ℕ) → OwnHeld p (replicate n lost)
  held-gaps zero p i bytes e = nothing i bytes e
  held-gaps (suc n) p i bytes e = held_cons p lost (replicate n lost) (λ b d. clash d) (held-gaps n (suc p)) i bytes e

  -- the place with the packet's number
  pub held-marked : (number : ℕ) (bytes : List ℕ) → S number bytes → (xs : List Place) (p : ℕ) → OwnHeld p xs → OwnHeld p (marked first p number bytes xs)
  unfolding marked
  held-marked number bytes s [] p o i b e = nothing i b e
  held-marked number bytes s (x ∷ xs) p o i b e =
      held_cons p (cond (eqb (sum 31 first p) number) (received bytes) x) (marked first (suc p) number bytes xs)
      (by_bool {P = (c : List ℕ) → cond (eqb (sum 31 first p) number) (received bytes) x ≡ received c → S (sum 31 first p) c} (eqb (sum 31 first p) number)
      (λ t c. rw t (λ d. let z : bytes ≡ c = cc in subst (λ (y : ℕ). S y c) (sym (eqb-true (sum 31 first p) number t)) (subst (S number) z s)))
      (λ t c. rw t (λ d. held-head p x xs o c d)))
      (held-marked number bytes s xs (suc p) (held-tail p x xs o))
      i b e

  -- a drop request changes no packet
  given-head : (t : Bool) (x : Place) (bytes : List ℕ) → cond t (gave_up x) x ≡ received bytes → x ≡ received bytes
  given-head false x bytes e = e
  given-head true lost bytes e = clash₂ e
  given-head true (received b) bytes e = e
  given-head true given_up bytes e = clash₂ e

  pub held-given : (from to j : ℕ) (xs : List Place) (p : ℕ) → OwnHeld p xs → OwnHeld p (given_in from to j xs)
  unfolding changed_in
  held-given from to j [] p o i b e = nothing i b e
  held-given from to j (x ∷ xs) p o i b e =
      held_cons p (cond (leb from j && ltb j to) (gave_up x) x) (given_in from to (suc j) xs)
      (λ c d. held-head p x xs o c (given-head (leb from j && ltb j to) x c d))
      (held-given from to (suc j) xs (suc p) (held-tail p x xs o))
      i b e

  -- places that leave: discarded ones have no bytes, released ones their own
  pub gone-discarded : (p : ℕ) (xs : List Place) → OwnGone p (map (λ x. discarded) xs)
  gone-discarded p [] i bytes e = empty i bytes e
  gone-discarded p (x ∷ xs) zero bytes e = clash₁ e
  gone-discarded p (x ∷ xs) (suc i) bytes e = at (suc p + i) (p + suc i) bytes (omega arith) (gone-discarded (suc p) xs i bytes e)

  pub gone-released : (n p : ℕ) (xs : List Place) → n ≤ received_run xs → OwnHeld p xs → OwnGone p (map (λ x. released (bytes_of x)) (take n xs))
  unfolding run_of
  gone-released zero p xs h o i bytes e = empty i bytes e
  gone-released (suc n) p [] h o i bytes e = absurd (omega arith)
  gone-released (suc n) p (lost ∷ xs) h o i bytes e = absurd (omega arith)
  gone-released (suc n) p (given_up ∷ xs) h o i bytes e = absurd (omega arith)
  gone-released (suc n) p (received b ∷ xs) h o zero bytes e =
      let z : b ≡ bytes = cc in
      o zero bytes (ap received z)
  gone-released (suc n) p (received b ∷ xs) h o (suc i) bytes e =
      at (suc p + i) (p + suc i) bytes (omega arith) (gone-released n (suc p) xs (omega arith) (held-tail p (received b) xs o) i bytes e)
