-- Lists of places: how marks, fates and runs go with what the receiver holds. Assumes nothing.
use mathlib.Core.Path.{◌≡◌, refl, ap, sym, ◌∙◌}
use mathlib.Core.Bool.{Bool, true, false, ◌&&◌, cond}
use mathlib.Core.List.{List, [], ◌∷◌, ◌++◌, map, append_assoc}
use Prim.Native.Nat.{ℕ, zero, suc, ◌+◌, ◌^◌, ◌<◌, ◌≤◌}
use native.Mathlib.Omega.{arith}
use borrow.Author.Tests.{eq-eqb, ne_eqb}
use lib.Dec.{eqb, ltb, leb}
use lib.IntN.{ℤ}
use lib.ListN.{length, take, drop, set, replicate}
use Rattle.numbers.specs.Circular.{sum}
use Rattle.numbers.proofs.Flags.{by_bool}
use Rattle.numbers.proofs.Places.{place-one}
use Rattle.slots.specs.declared.entry.Entry.TheVariants.{Lost}
use Rattle.window_report.specs.Report.{is_due}
use Rattle.views.specs.Lists.{run_of, changed_in}
use Rattle.views.specs.View as views
use Rattle.views.specs.View.{Seen, gap_in}
use Rattle.ledger.specs.Ledger.{Place, received, Fate, released, discarded, bytes_of, gave_up, given_in, marked, received_run, released_bytes}
use Rattle.ledger.specs.Runs.{place_of}

module _ {A B : Type 0} (f : A → B) where
  pub map-append : (xs ys : List A) → map f (xs ++ ys) ≡ map f xs ++ map f ys
  map-append [] ys = refl
  map-append (x ∷ xs) ys = ap (λ (zs : List B). f x ∷ zs) (map-append xs ys)

  pub map-set : (xs : List A) (i : ℕ) (a : A) → map f (set xs i a) ≡ set (map f xs) i (f a)
  map-set [] i a = refl
  map-set (x ∷ xs) zero a = refl
  map-set (x ∷ xs) (suc i) a = ap (λ (zs : List B). f x ∷ zs) (map-set xs i a)

  pub map-replicate : (n : ℕ) (a : A) → map f (replicate n a) ≡ replicate n (f a)
  map-replicate zero a = refl
  map-replicate (suc n) a = ap (λ (zs : List B). f a ∷ zs) (map-replicate n a)

  pub map-take : (n : ℕ) (xs : List A) → map f (take n xs) ≡ take n (map f xs)
  map-take zero xs = refl
  map-take (suc n) [] = refl
  map-take (suc n) (x ∷ xs) = ap (λ (zs : List B). f x ∷ zs) (map-take n xs)

  pub map-drop : (n : ℕ) (xs : List A) → map f (drop n xs) ≡ drop n (map f xs)
  map-drop zero xs = refl
  map-drop (suc n) [] = refl
  map-drop (suc n) (x ∷ xs) = map-drop n xs

-- the run of received places is the run of received entries
pub run-gap : (es : List Seen) → received_run (map place_of es) ≡ gap_in es
unfolding run_of
run-gap [] = refl
run-gap (views.lost k f ∷ es) = refl
run-gap (views.received l m t b ∷ es) = let r = run-gap es in omega arith
run-gap (views.given_up ∷ es) = refl

-- no place of the list has the number, so none is marked; one has it, so that one is marked
module _ (first number : ℕ) (bytes : List ℕ) where
  pub marked-none : (xs : List Place) (p : ℕ) → ((i : ℕ) → i < length xs → sum 31 first (p + i) ≡ number → ⊥) → marked first p number bytes xs ≡ xs
  unfolding marked
  marked-none [] p h = refl
  marked-none (x ∷ xs) p h =
      let z : p + 0 ≡ p = omega arith in
      let here : eqb (sum 31 first p) number ≡ false = ne_eqb (sum 31 first p) number (λ e. h 0 (omega arith) (ap (sum 31 first) z ∙ e)) in
      let rest : marked first (suc p) number bytes xs ≡ xs =
      marked-none xs (suc p) (λ i l e. h (suc i) (omega arith) (let y : p + suc i ≡ suc p + i = omega arith in ap (sum 31 first) y ∙ e)) in
      rw (here, rest)

  pub marked-one : (xs : List Place) (p i : ℕ) → i < length xs → length xs ≤ 2 ^ 31 → sum 31 first (p + i) ≡ number → marked first p number bytes xs ≡ set xs i (received bytes)
  unfolding marked
  marked-one [] p i h m e = absurd (omega arith)
  marked-one (x ∷ xs) p zero h m e =
      let z : p + 0 ≡ p = omega arith in
      let here : eqb (sum 31 first p) number ≡ true = eq-eqb (sum 31 first p) number (ap (sum 31 first) (sym z) ∙ e) in
      let rest : marked first (suc p) number bytes xs ≡ xs =
      marked-none xs (suc p)
      (λ i l q.
      let y : suc p + i ≡ p = place-one 31 first p (suc p + i) p (omega arith) (omega arith) (omega arith) (omega arith) (q ∙ sym e ∙ ap (sum 31 first) z) in
      omega arith) in
      rw (here, rest)
  marked-one (x ∷ xs) p (suc i) h m e =
      let y : p + suc i ≡ suc p + i = omega arith in
      let here : eqb (sum 31 first p) number ≡ false =
      ne_eqb (sum 31 first p) number
      (λ q.
      let n : p ≡ p + suc i = place-one 31 first p p (p + suc i) (omega arith) (omega arith) (omega arith) (omega arith) (q ∙ sym e) in
      omega arith) in
      let rest = marked-one xs (suc p) i (omega arith) (omega arith) (ap (sum 31 first) (sym y) ∙ e) in
      rw (here, rest)

-- a drop request's places
given-place : (t : Bool) (e : Seen) → place_of (cond t (views.gave_up e) e) ≡ cond t (gave_up (place_of e)) (place_of e)
given-place false e = refl
given-place true (views.lost k f) = refl
given-place true (views.received l m t b) = refl
given-place true views.given_up = refl

pub given-places : (from to i : ℕ) (es : List Seen) → map place_of (views.given_in from to i es) ≡ given_in from to i (map place_of es)
unfolding changed_in
given-places from to i [] = refl
given-places from to i (e ∷ es) = rw (given-place (leb from i && ltb i to) e, given-places from to (suc i) es)

pub given-long : (from to i : ℕ) (xs : List Place) → length (given_in from to i xs) ≡ length xs
unfolding changed_in
given-long from to i [] = refl
given-long from to i (x ∷ xs) = ap suc (given-long from to (suc i) xs)

-- a loss report moves no place
reported-place : (time : ℤ) (mean : ℕ) (e : Seen) → place_of (views.reported_seen time mean e) ≡ place_of e
reported-place time mean (views.lost k f) = by_bool (is_due time mean (Lost k f)) (λ t. rw t) (λ t. rw t)
reported-place time mean (views.received l m t b) = refl
reported-place time mean views.given_up = refl

pub reported-places : (time : ℤ) (mean : ℕ) (es : List Seen) → map place_of (map (views.reported_seen time mean) es) ≡ map place_of es
reported-places time mean [] = refl
reported-places time mean (e ∷ es) = rw (reported-place time mean e, reported-places time mean es)

-- the bytes of released places, one list after another
pub released-append : (fs gs : List Fate) → released_bytes (fs ++ gs) ≡ released_bytes fs ++ released_bytes gs
unfolding released_bytes
released-append [] gs = refl
released-append (released b ∷ fs) gs = rw (released-append fs gs) (sym (append_assoc b (released_bytes fs) (released_bytes gs)))
released-append (discarded ∷ fs) gs = released-append fs gs

-- those of a message are the bytes of its entries
place-bytes : (e : Seen) → bytes_of (place_of e) ≡ views.bytes_in e
place-bytes (views.lost k f) = refl
place-bytes (views.received l m t b) = refl
place-bytes views.given_up = refl

pub released-joined : (es : List Seen) → released_bytes (map (λ x. released (bytes_of x)) (map place_of es)) ≡ views.joined es
unfolding released_bytes views.joined
released-joined [] = refl
released-joined (e ∷ es) = rw (place-bytes e, released-joined es)

pub discarded-none : (xs : List Place) → released_bytes (map (λ x. discarded) xs) ≡ []
unfolding released_bytes
discarded-none [] = refl
discarded-none (x ∷ xs) = discarded-none xs
