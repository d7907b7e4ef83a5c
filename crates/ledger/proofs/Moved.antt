-- What one call must keep of the ledger, and that each kind of change keeps it. Assumes nothing.
use mathlib.Core.Path.{◌≡◌, ap, sym, ◌∙◌, subst}
use mathlib.Core.List.{List, [], ◌++◌, map, append-nil}
use Prim.Native.Nat.{ℕ, ◌+◌, ◌≤◌}
use native.Mathlib.Omega.{arith}
use lib.ListN.{length, length-append, length-map, take, drop}
use lib.Seq.{length-take-le}
use Rattle.numbers.specs.Circular.{sum}
use Rattle.numbers.proofs.Circle.{sum-sum}
use Rattle.window.specs.Window.{number_in}
use Rattle.window.specs.declared.Window.{Window}
use Rattle.views.specs.View.{Seen, gap_in, LrsnRight, entries}
use Rattle.views.proofs.Lists.{entries-length}
use Rattle.ledger.specs.Ledger.{Place, Fate, Ledger, number_of, front_of, leave, received_run, released_bytes}
use Rattle.ledger.specs.Runs.{place_of}
use Rattle.ledger.proofs.Places.{map-drop, run-gap}
use Rattle.ledger.proofs.Owned.{OwnHeld, OwnGone, gone-append, held-drop}

-- ledger and entries agree, and bytes belong to their numbers
pub record Stands (S : ℕ → List ℕ → Type 0) (l : Ledger) (w : Window) (es : List Seen) : Type 0 where
  pub front : w.seqno0 ≡ number_of l (front_of l)
  pub held : map place_of es ≡ l.held
  pub right : LrsnRight w es
  pub own_gone : OwnGone S l.first 0 l.gone
  pub own_held : OwnHeld S l.first (front_of l) l.held

-- after a call: these bytes were handed out
pub record Moved (S : ℕ → List ℕ → Type 0) (l l₁ : Ledger) (w : Window) (es : List Seen) (out : List ℕ) : Type 0 where
  pub stands : Stands S l₁ w es
  pub handed : released_bytes l₁.gone ≡ released_bytes l.gone ++ out

pub still : {S : ℕ → List ℕ → Type 0} {l : Ledger} {w : Window} {es : List Seen} → Stands S l w es → Moved S l l w es []
still {l = l} a = record { stands = a; handed = sym (append-nil (released_bytes l.gone)) }

-- how many are held
pub held-count : {S : ℕ → List ℕ → Type 0} {l : Ledger} {w : Window} {es : List Seen} → Stands S l w es → length es ≡ length l.held
held-count {es = es} a = sym (length-map es place_of) ∙ ap length a.held

pub window-count : {S : ℕ → List ℕ → Type 0} {l : Ledger} {w : Window} (ws bs : List ℕ) → Stands S l w (entries w ws bs) → w.held ≡ length l.held
window-count {w = w} ws bs a = sym (entries-length w.capacity w.start ws bs 0 w.held) ∙ held-count a

-- the number of a held place, from the front's number
pub place-number : {S : ℕ → List ℕ → Type 0} {l : Ledger} {w : Window} {es : List Seen} → Stands S l w es → (i : ℕ) → number_in w i ≡ number_of l (front_of l + i)
place-number {l = l} a i = ap (λ (x : ℕ). sum 31 x i) a.front ∙ sum-sum 31 l.first (front_of l) i

-- lrsn, as the ledger says it and as the entries do
pub lrsn-said : {S : ℕ → List ℕ → Type 0} {l : Ledger} {w : Window} {es : List Seen} → Stands S l w es → w.lrsn ≡ number_of l (front_of l + received_run l.held)
lrsn-said {l = l} {es = es} a =
    a.right ∙ place-number a (gap_in es) ∙ ap (λ (x : ℕ). number_of l (front_of l + x)) (sym (run-gap es) ∙ ap received_run a.held)

-- places leave the front
module _ (S : ℕ → List ℕ → Type 0) (l : Ledger) (w : Window) (es : List Seen) (a : Stands S l w es) (n : ℕ) (f : Place → Fate) (h : n ≤ length l.held) where
  front-after : front_of (leave l n f) ≡ front_of l + n
  front-after =
      length-append l.gone (map f (take n l.held))
      ∙ ap (λ (x : ℕ). front_of l + x) (length-map (take n l.held) f ∙ length-take-le n l.held h)

  pub left-stands : (v : Window) (fs : List Seen)
      → v.seqno0 ≡ number_in w n → fs ≡ drop n es → LrsnRight v fs → OwnGone S l.first (front_of l) (map f (take n l.held)) → Stands S (leave l n f) v fs
  left-stands v fs e d r o =
      let z : 0 + front_of l ≡ front_of l = omega arith in
      record {
        front = e ∙ place-number a n ∙ ap (number_of l) (sym front-after);
        held = ap (map place_of) d ∙ map-drop place_of n es ∙ ap (drop n) a.held;
        right = r;
        own_gone = gone-append S l.first l.gone (map f (take n l.held)) 0 a.own_gone (subst (λ (x : ℕ). OwnGone S l.first x (map f (take n l.held))) (sym z) o);
        own_held = subst (λ (x : ℕ). OwnHeld S l.first x (drop n l.held)) (sym front-after) (held-drop S l.first n l.held (front_of l) a.own_held);
      }
