-- Laws of the list of entries itself. Assumes nothing.
use mathlib.Core.Path.{◌≡◌, refl, ap, sym, ◌∙◌}
use mathlib.Core.List.{List, [], ◌∷◌, ◌++◌}
use Prim.Native.Nat.{ℕ, zero, suc, ◌+◌, ◌-◌, ◌*◌, ◌<◌, ◌≤◌}
use native.Mathlib.Nat.{add-zero}
use native.Mathlib.Omega.{arith}
use lib.ListN.{length, get_or, set, drop}
use Rattle.slots.specs.Words.{entry_at, write_at}
use Rattle.slots.specs.Ready.{Fit}
use Rattle.slots.specs.Ring.{slot_of, with_payload}
use Rattle.slots.specs.declared.entry.Entry.{Entry}
use Rattle.slots.specs.declared.entry.Entry.TheVariants.{Lost, Received, GivenUp}
use Rattle.slots.proofs.Laws.{entry-fit, read-other, payload-other, slot-from}
use Rattle.window.specs.Window.{cut}
use Rattle.window.specs.declared.Window.{Window}
use Rattle.views.specs.View.{Seen, seen_of, seen_at, entries_from, entries}

-- one slot after a write: its own, and another's
pub seen_other : (ws bs : List ℕ) (s : ℕ) (e : Entry) (p : List ℕ) (t : ℕ) → length p ≤ 1456 → 1456 * s + 1456 ≤ length bs → (t ≡ s → ⊥)
    → seen_at (write_at ws s e) (with_payload bs s p) t ≡ seen_at ws bs t
seen_other ws bs s e p t hp hs ne = rw (read-other ws s t ne e) (go (entry_at ws t) (entry-fit ws t))
  where
    go : (x : Entry) → Fit x → seen_of (with_payload bs s p) t x ≡ seen_of bs t x
    go (Lost k f) h = refl
    go (Received n l m u) h = rw (payload-other bs s p hp hs t n ne (omega arith))
    go GivenUp h = refl

-- the same where the payload area stays
pub seen-words : (ws bs : List ℕ) (s : ℕ) (e : Entry) (t : ℕ) → (t ≡ s → ⊥) → seen_at (write_at ws s e) bs t ≡ seen_at ws bs t
seen-words ws bs s e t ne = rw (read-other ws s t ne e)

module _ (capacity start : ℕ) where
  -- the list has as many entries as it says, and entry j at place j
  pub entries-length : (ws bs : List ℕ) (i n : ℕ) → length (entries_from capacity start ws bs i n) ≡ n
  unfolding entries_from
  entries-length ws bs i zero = refl
  entries-length ws bs i (suc n) = ap suc (entries-length ws bs (suc i) n)

  pub entries_at : (ws bs : List ℕ) (i n j : ℕ) (d : Seen) → j < n → get_or (entries_from capacity start ws bs i n) j d ≡ seen_at ws bs (slot_of capacity start (i + j))
  unfolding entries_from
  entries_at ws bs i zero j d h = absurd (omega arith)
  entries_at ws bs i (suc n) zero d h = rw add-zero
  entries_at ws bs i (suc n) (suc j) d h =
      let e : suc i + j ≡ i + suc j = omega arith in
      entries_at ws bs (suc i) n j d (omega arith) ∙ ap (λ (x : ℕ). seen_at ws bs (slot_of capacity start x)) e

  -- two areas whose entries agree have the same list
  pub entries-same : (ws bs ws₁ bs₁ : List ℕ) (n i : ℕ)
      → ((j : ℕ) → i ≤ j → j < i + n → seen_at ws bs (slot_of capacity start j) ≡ seen_at ws₁ bs₁ (slot_of capacity start j))
      → entries_from capacity start ws bs i n ≡ entries_from capacity start ws₁ bs₁ i n
  unfolding entries_from
  entries-same ws bs ws₁ bs₁ zero i f = refl
  entries-same ws bs ws₁ bs₁ (suc n) i f =
      rw (f i (omega arith) (omega arith), entries-same ws bs ws₁ bs₁ n (suc i) (λ j a b. f j (omega arith) (omega arith)))

  -- the entries of two stretches, one after the other
  pub entries-join : (ws bs : List ℕ) (n m i : ℕ) → entries_from capacity start ws bs i (n + m) ≡ entries_from capacity start ws bs i n ++ entries_from capacity start ws bs (i + n) m
  unfolding entries_from
  entries-join ws bs zero m i =
      let a : 0 + m ≡ m = omega arith in
      let b : i + 0 ≡ i = omega arith in
      rw (a, b)
  entries-join ws bs (suc n) m i =
      let a : suc n + m ≡ suc (n + m) = omega arith in
      let b : suc i + n ≡ i + suc n = omega arith in
      rw a (rw (entries-join ws bs n m (suc i), b))

  pub entries-one : (ws bs : List ℕ) (i : ℕ) → entries_from capacity start ws bs i 1 ≡ seen_at ws bs (slot_of capacity start i) ∷ []
  unfolding entries_from
  entries-one ws bs i = refl

  -- entries leave the front
  pub entries-drop : (ws bs : List ℕ) (n m i : ℕ) → drop n (entries_from capacity start ws bs i (n + m)) ≡ entries_from capacity start ws bs (i + n) m
  unfolding entries_from
  entries-drop ws bs zero m i =
      let a : 0 + m ≡ m = omega arith in
      let b : i + 0 ≡ i = omega arith in
      rw (a, b)
  entries-drop ws bs (suc n) m i =
      let a : suc n + m ≡ suc (n + m) = omega arith in
      let b : suc i + n ≡ i + suc n = omega arith in
      rw a (rw (entries-drop ws bs n m (suc i), b))

  -- counted from a later start
  pub entries-from : (ws bs : List ℕ) (k n i : ℕ) → entries_from capacity (slot_of capacity start k) ws bs i n ≡ entries_from capacity start ws bs (k + i) n
  unfolding entries_from
  entries-from ws bs k zero i = refl
  entries-from ws bs k (suc n) i =
      let a : k + suc i ≡ suc (k + i) = omega arith in
      rw (slot-from capacity start k i, entries-from ws bs k n (suc i), a)

-- what leaves the front of a window leaves the front of the list
pub entries-cut : (w : Window) (ws bs : List ℕ) (n : ℕ) → n ≤ w.held → entries (cut w n) ws bs ≡ drop n (entries w ws bs)
entries-cut w ws bs n h =
    let a : n + (w.held - n) ≡ w.held = omega arith in
    let b : n + 0 ≡ 0 + n = omega arith in
    entries-from w.capacity w.start ws bs n (w.held - n) 0
    ∙ ap (λ (x : ℕ). entries_from w.capacity w.start ws bs x (w.held - n)) b
    ∙ sym (entries-drop w.capacity w.start ws bs n (w.held - n) 0)
    ∙ ap (λ (x : ℕ). drop n (entries_from w.capacity w.start ws bs 0 x)) a

module _ (capacity start : ℕ) (ws bs ws₁ bs₁ : List ℕ) where
  -- one entry more, and those before it as they were
  pub one_more : (k : ℕ) → ((j : ℕ) → j < k → seen_at ws₁ bs₁ (slot_of capacity start j) ≡ seen_at ws bs (slot_of capacity start j))
      → entries_from capacity start ws₁ bs₁ 0 (k + 1) ≡ entries_from capacity start ws bs 0 k ++ (seen_at ws₁ bs₁ (slot_of capacity start k) ∷ [])
  one_more k f =
      let z : 0 + k ≡ k = omega arith in
      entries-join capacity start ws₁ bs₁ k 1 0
      ∙ rw (z, entries-one capacity start ws₁ bs₁ k, entries-same capacity start ws₁ bs₁ ws bs k 0 (λ j a b. f j (omega arith)))

  -- one entry changed, and all others as they were
  pub one-changed : (n i k : ℕ) → k < n → ((j : ℕ) → (j ≡ i + k → ⊥) → i ≤ j → j < i + n → seen_at ws₁ bs₁ (slot_of capacity start j) ≡ seen_at ws bs (slot_of capacity start j))
      → entries_from capacity start ws₁ bs₁ i n ≡ set (entries_from capacity start ws bs i n) k (seen_at ws₁ bs₁ (slot_of capacity start (i + k)))
  unfolding entries_from
  one-changed zero i k h f = absurd (omega arith)
  one-changed (suc n) i zero h f =
      let z : i + 0 ≡ i = omega arith in
      rw (z, entries-same capacity start ws₁ bs₁ ws bs n (suc i) (λ j a b. f j (omega arith) (omega arith) (omega arith)))
  one-changed (suc n) i (suc k) h f =
      let z : suc i + k ≡ i + suc k = omega arith in
      rw (f i (omega arith) (omega arith) (omega arith), one-changed n (suc i) k (omega arith) (λ j a b c. f j (omega arith) (omega arith) (omega arith)), z)
