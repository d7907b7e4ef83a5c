-- The first entry not received, in the list and in the words. Assumes nothing.
use mathlib.Core.Path.{◌≡◌, refl, ap, ◌∙◌}
use mathlib.Core.Bool.{Bool, true, false}
use mathlib.Core.List.{List, [], ◌∷◌, ◌++◌}
use Prim.Native.Nat.{ℕ, zero, suc, ◌+◌, ◌-◌, ◌<◌, ◌≤◌}
use native.Mathlib.Numerals.{add-one}
use native.Mathlib.Omega.{arith}
use lib.ListN.{length, get_or, set, drop}
use Rattle.numbers.proofs.Flags.{impossible}
use Rattle.slots.specs.Words as words
use Rattle.slots.specs.Words.{entry_at}
use Rattle.slots.specs.Ring.{slot_of}
use Rattle.slots.specs.declared.entry.Entry.{Entry}
use Rattle.slots.specs.declared.entry.Entry.TheVariants.{Lost, Received, GivenUp}
use Rattle.window.specs.Window.{first_gap}
use Rattle.views.specs.Lists.{run_of}
use Rattle.views.specs.View.{Seen, lost, received, given_up, seen_of, seen_at, entries_from, is_received, gap_in}

seen-mark : (bs : List ℕ) (s : ℕ) (e : Entry) → is_received (seen_of bs s e) ≡ words.is_received e
seen-mark bs s (Lost k f) = refl
seen-mark bs s (Received n l m t) = refl
seen-mark bs s GivenUp = refl

-- the search over the words is the search over the list
pub gap-found : (capacity start : ℕ) (ws bs : List ℕ) (n i : ℕ) → first_gap capacity start ws i n ≡ i + gap_in (entries_from capacity start ws bs i n)
unfolding first_gap run_of entries_from
gap-found capacity start ws bs zero i = omega arith
gap-found capacity start ws bs (suc n) i = go (words.is_received (entry_at ws (slot_of capacity start i))) refl (gap-found capacity start ws bs n (suc i))
  where
    go : (b : Bool) → words.is_received (entry_at ws (slot_of capacity start i)) ≡ b
        → first_gap capacity start ws (suc i) n ≡ suc i + gap_in (entries_from capacity start ws bs (suc i) n)
        → first_gap capacity start ws i (suc n) ≡ i + gap_in (entries_from capacity start ws bs i (suc n))
    go true e r =
        let m : is_received (seen_at ws bs (slot_of capacity start i)) ≡ true = seen-mark bs (slot_of capacity start i) (entry_at ws (slot_of capacity start i)) ∙ e in
        rw (e, m, add-one i) (r ∙ omega arith)
    go false e r =
        let m : is_received (seen_at ws bs (slot_of capacity start i)) ≡ false = seen-mark bs (slot_of capacity start i) (entry_at ws (slot_of capacity start i)) ∙ e in
        rw (e, m) (omega arith)

-- it is at most the length
pub gap-most : (es : List Seen) → gap_in es ≤ length es
unfolding run_of
gap-most [] = omega arith
gap-most (lost k f ∷ es) = omega arith
gap-most (received l m t b ∷ es) = let r = gap-most es in omega arith
gap-most (given_up ∷ es) = omega arith

-- more entries behind it change it only if all before them are received
pub gap-append : (es fs : List Seen) → gap_in es < length es → gap_in (es ++ fs) ≡ gap_in es
unfolding run_of
gap-append [] fs h = absurd (omega arith)
gap-append (lost k f ∷ es) fs h = refl
gap-append (received l m t b ∷ es) fs h = ap suc (gap-append es fs (omega arith))
gap-append (given_up ∷ es) fs h = refl

pub gap-whole : (es fs : List Seen) → gap_in es ≡ length es → gap_in (es ++ fs) ≡ length es + gap_in fs
unfolding run_of
gap-whole [] fs h = omega arith
gap-whole (lost k f ∷ es) fs h = absurd (omega arith)
gap-whole (received l m t b ∷ es) fs h = let r = gap-whole es fs (omega arith) in omega arith
gap-whole (given_up ∷ es) fs h = absurd (omega arith)

-- an entry past the gap may change and it stays; an entry not received is not before it
pub gap-set-past : (es : List Seen) (i : ℕ) (e : Seen) → gap_in es < i → gap_in (set es i e) ≡ gap_in es
unfolding run_of
gap-set-past [] i e h = refl
gap-set-past (x ∷ es) zero e h = absurd (omega arith)
gap-set-past (lost k f ∷ es) (suc i) e h = refl
gap-set-past (received l m t b ∷ es) (suc i) e h = ap suc (gap-set-past es i e (omega arith))
gap-set-past (given_up ∷ es) (suc i) e h = refl

pub gap-not-before : (es : List Seen) (i : ℕ) (d : Seen) → i < length es → is_received (get_or es i d) ≡ false → gap_in es ≤ i
unfolding run_of
gap-not-before [] i d h e = omega arith
gap-not-before (lost k f ∷ es) i d h e = omega arith
gap-not-before (received l m t b ∷ es) zero d h e = impossible e
gap-not-before (received l m t b ∷ es) (suc i) d h e = let r = gap-not-before es i d (omega arith) e in omega arith
gap-not-before (given_up ∷ es) i d h e = omega arith

-- entries before the gap may leave the front
pub gap-drop : (n : ℕ) (es : List Seen) → n ≤ gap_in es → gap_in (drop n es) ≡ gap_in es - n
unfolding run_of
gap-drop zero es h = omega arith
gap-drop (suc n) [] h = absurd (omega arith)
gap-drop (suc n) (lost k f ∷ es) h = absurd (omega arith)
gap-drop (suc n) (received l m t b ∷ es) h = let r = gap-drop n es (omega arith) in omega arith
gap-drop (suc n) (given_up ∷ es) h = absurd (omega arith)

-- the gap is found from any entry up to it
pub gap_from : (n : ℕ) (es : List Seen) → n ≤ gap_in es → n + gap_in (drop n es) ≡ gap_in es
gap_from n es h = let r = gap-drop n es h in omega arith

-- changing the entry at the gap moves it no nearer
pub gap-set-at : (i : ℕ) (es : List Seen) (e : Seen) → i ≤ gap_in es → i ≤ gap_in (set es i e)
unfolding run_of
gap-set-at zero es e h = omega arith
gap-set-at (suc i) [] e h = absurd (omega arith)
gap-set-at (suc i) (lost k f ∷ es) e h = absurd (omega arith)
gap-set-at (suc i) (received l m t b ∷ es) e h = let r = gap-set-at i es e (omega arith) in omega arith
gap-set-at (suc i) (given_up ∷ es) e h = absurd (omega arith)
