-- Words and entries, slots and payload places, for the crates above. Assumes nothing.
use mathlib.Core.Path.{◌≡◌, refl, ap, sym, ◌∙◌, subst}
use mathlib.Core.Bool.{true}
use mathlib.Core.List.{List, ◌++◌, append_assoc}
use Prim.Native.Nat.{ℕ, ◌+◌, ◌-◌, ◌*◌, ◌/◌, ◌%◌, ◌^◌, ◌<◌, ◌≤◌, min}
use native.Mathlib.Nat.{mod-lt, mod-eq_of_lt, mod-eq-sub-mod, mod-add-mod}
use native.Mathlib.Omega.{arith}
use borrow.Author.Tests.{lt-ltb, le-ltb, eqb-true}
use lib.Arith.{digits_div, digits_mod}
use lib.Dec.{eqb}
use lib.ListN.{length, get_or, set, take, drop, length-set, length-drop, take-append-drop}
use lib.Seq.{get_or-set_same, get_or-set_other, length-paste, length-take-le, take-length, take_at, drop_at, drop-drop, drop-paste, take-append-le, drop-append-le, drop-set-lt}
use Rattle.numbers.proofs.Flags.{impossible, by-test, by-order}
use Rattle.slots.specs.Words.{mark_of, entry_of, words_of, is_lost, entry_at, write_at, write_report, length_in}
use Rattle.slots.specs.Ready.{Fit}
use Rattle.slots.specs.Ring.{slot_of, payload_at, with_payload}
use Rattle.slots.specs.Inner.{next_slot}
use Rattle.slots.specs.declared.entry.Entry.{Entry}
use Rattle.slots.specs.declared.entry.Entry.TheVariants.{Lost, Received, GivenUp}

-- the words keep their number
pub length-write : (ws : List ℕ) (s : ℕ) (e : Entry) → length (write_at ws s e) ≡ length ws
unfolding write_at
length-write ws s e = simp length-set

pub length-report : (ws : List ℕ) (s k f : ℕ) → length (write_report ws s k f) ≡ length ws
unfolding write_report
length-report ws s k f = simp length-set

-- a field of m values above c smaller ones
field : (w c m lo v hi : ℕ) → w ≡ (hi * m + v) * c + lo → lo < c → v < m → w / c % m ≡ v
field w c m lo v hi e hl hv = rw e (rw (digits_div (hi * m + v) hl) (digits_mod hi hv))

-- an entry's words hold the entry
entry-words : (e : Entry) → Fit e → entry_of (get_or (words_of e) 0 0) (get_or (words_of e) 1 0) (get_or (words_of e) 2 0) ≡ e
unfolding entry_of
entry-words (Lost k f) h =
    let a : k % 2 ^ 16 ≡ k = omega arith in
    let b : f % 2 ^ 60 ≡ f = omega arith in
    rw (a, b)
entry-words (Received n l m t) h =
    let w : ℕ = 1 + 4 * n + 8192 * l + 32768 * m in
    let a : w % 4 ≡ 1 = omega arith in
    let b : w / 4 % 2048 ≡ n = field w 4 2048 1 n (l + 4 * m) (omega arith) (omega arith) (omega arith) in
    let b' : min n 1456 ≡ n = omega arith in
    let c : w / 8192 % 4 ≡ l = field w 8192 4 (1 + 4 * n) l m (omega arith) (omega arith) (omega arith) in
    let d : w / 32768 % 2 ^ 26 ≡ m = field w 32768 (2 ^ 26) (1 + 4 * n + 8192 * l) m 0 (omega arith) (omega arith) (omega arith) in
    let e : t % 2 ^ 32 ≡ t = omega arith in
    simp (a, b, b', c, d, e)
entry-words GivenUp h = refl

-- an entry that is read can be written
pub entry-fit : (ws : List ℕ) (s : ℕ) → Fit (entry_at ws s)
unfolding entry_at entry_of
entry-fit ws s =
    by-test Fit (eqb (mark_of (get_or ws (3 * s) 0)) 0) _ _
    (λ t. omega arith)
    (λ t. by-test Fit (eqb (mark_of (get_or ws (3 * s) 0)) 1) _ _ (λ u. omega arith) (λ u. tt))

pub received-fit : (ws : List ℕ) (s : ℕ) {n l m t : ℕ} {e : Entry} → e ≡ entry_at ws s → e ≡ Received n l m t → n ≤ 1456
received-fit ws s p q = omega (arith, subst Fit (sym p ∙ q) (entry-fit ws s))

-- a payload is at most 1,456 bytes
length_most : (e : Entry) → Fit e → length_in e ≤ 1456
length_most (Lost k f) h = omega arith
length_most (Received n l m t) h = omega arith
length_most GivenUp h = omega arith

pub length-read : (ws : List ℕ) (s : ℕ) → length_in (entry_at ws s) ≤ 1456
length-read ws s = length_most (entry_at ws s) (entry-fit ws s)

lost-mark : (a b c : ℕ) → is_lost (entry_of a b c) ≡ true → a % 4 ≡ 0
unfolding entry_of
lost-mark a b c =
    by-test (λ (e : Entry). is_lost e ≡ true → a % 4 ≡ 0) (eqb (mark_of a) 0) _ _
    (λ t e. eqb-true (a % 4) 0 t)
    (λ t. by-test (λ (e : Entry). is_lost e ≡ true → a % 4 ≡ 0) (eqb (mark_of a) 1) _ _ (λ u e. impossible (sym e)) (λ u e. impossible (sym e)))

module _ (ws : List ℕ) (s : ℕ) where
  -- write, then read the same slot
  pub read_same : (e : Entry) → 3 * s + 3 ≤ length ws → Fit e → entry_at (write_at ws s e) s ≡ e
  unfolding entry_at write_at
  read_same e h f =
      let n01 : (3 * s ≡ 3 * s + 1 → ⊥) = omega arith in
      let n02 : (3 * s ≡ 3 * s + 2 → ⊥) = omega arith in
      let n12 : (3 * s + 1 ≡ 3 * s + 2 → ⊥) = omega arith in
      let i0 : 3 * s < length ws = omega arith in
      let i1 : 3 * s + 1 < length (set ws (3 * s) (get_or (words_of e) 0 0)) = simp length-set (omega arith) in
      let i2 : 3 * s + 2 < length (set (set ws (3 * s) (get_or (words_of e) 0 0)) (3 * s + 1) (get_or (words_of e) 1 0)) = simp length-set (omega arith) in
      simp (get_or-set_same, get_or-set_other) (entry-words e f)

  -- a report of a lost entry: the same entry, with the new k and feedback time
  pub read-report : (k f : ℕ) → 3 * s + 3 ≤ length ws → is_lost (entry_at ws s) ≡ true → k < 2 ^ 16 → f < 2 ^ 60 → entry_at (write_report ws s k f) s ≡ Lost k f
  unfolding entry_at entry_of write_report
  read-report k f h e hk hf =
      let n01 : (3 * s ≡ 3 * s + 1 → ⊥) = omega arith in
      let n02 : (3 * s ≡ 3 * s + 2 → ⊥) = omega arith in
      let n12 : (3 * s + 1 ≡ 3 * s + 2 → ⊥) = omega arith in
      let i1 : 3 * s + 1 < length ws = omega arith in
      let i2 : 3 * s + 2 < length (set ws (3 * s + 1) k) = simp length-set (omega arith) in
      let m : get_or ws (3 * s) 0 % 4 ≡ 0 = lost-mark (get_or ws (3 * s) 0) _ _ e in
      let a : k % 2 ^ 16 ≡ k = omega arith in
      let b : f % 2 ^ 60 ≡ f = omega arith in
      simp (get_or-set_same, get_or-set_other, m, a, b)

  -- the words of no other slot change
  write-stays : (e : Entry) (i : ℕ) → (i ≡ 3 * s → ⊥) → (i ≡ 3 * s + 1 → ⊥) → (i ≡ 3 * s + 2 → ⊥) → get_or (write_at ws s e) i 0 ≡ get_or ws i 0
  unfolding write_at
  write-stays e i a b c = simp get_or-set_other

  report-stays : (k f i : ℕ) → (i ≡ 3 * s + 1 → ⊥) → (i ≡ 3 * s + 2 → ⊥) → get_or (write_report ws s k f) i 0 ≡ get_or ws i 0
  unfolding write_report
  report-stays k f i a b = simp get_or-set_other

  -- write, then read another slot
  module _ (t : ℕ) (h : t ≡ s → ⊥) where
    pub read-other : (e : Entry) → entry_at (write_at ws s e) t ≡ entry_at ws t
    unfolding entry_at
    read-other e =
        let a = write-stays e (3 * t) (omega (arith, h)) (omega arith) (omega arith) in
        let b = write-stays e (3 * t + 1) (omega arith) (omega (arith, h)) (omega arith) in
        let c = write-stays e (3 * t + 2) (omega arith) (omega arith) (omega (arith, h)) in
        simp (a, b, c)

    pub report-other : (k f : ℕ) → entry_at (write_report ws s k f) t ≡ entry_at ws t
    unfolding entry_at
    report-other k f =
        let a = report-stays k f (3 * t) (omega arith) (omega arith) in
        let b = report-stays k f (3 * t + 1) (omega (arith, h)) (omega arith) in
        let c = report-stays k f (3 * t + 2) (omega arith) (omega (arith, h)) in
        simp (a, b, c)

-- a slot is one of the capacity
pub slot_lt : (capacity start i : ℕ) → 0 < capacity → slot_of capacity start i < capacity
unfolding slot_of
slot_lt capacity start i h = mod-lt (start + i) h

pub slot-zero : (capacity start : ℕ) → start < capacity → slot_of capacity start 0 ≡ start
unfolding slot_of
slot-zero capacity start h = let e : start + 0 ≡ start = omega arith in rw e (mod-eq_of_lt h)

-- counting on from a later start
pub slot-from : (capacity start n i : ℕ) → slot_of capacity (slot_of capacity start n) i ≡ slot_of capacity start (n + i)
unfolding slot_of
slot-from capacity start n i =
    let e : start + n + i ≡ start + (n + i) = omega arith in
    mod-add-mod (start + n) capacity i ∙ ap (λ (x : ℕ). x % capacity) e

module _ (capacity start : ℕ) (hs : start < capacity) where
  -- a slot is start + i, or that less the capacity
  slot_is : {P : Type 0} (i : ℕ) → i ≤ capacity → (slot_of capacity start i ≡ start + i → start + i < capacity → P) → (slot_of capacity start i + capacity ≡ start + i → P) → P
  unfolding slot_of
  slot_is i hi f g =
      by-order (start + i) capacity
      (λ h. f (mod-eq_of_lt h) h)
      (λ h.
      let l : start + i - capacity < capacity = omega arith in
      g (rw (mod-eq-sub-mod h, mod-eq_of_lt l) (omega arith)))

  -- a walk goes from slot to slot
  pub slot_next : (i : ℕ) → i < capacity → slot_of capacity start (i + 1) ≡ next_slot capacity (slot_of capacity start i)
  slot_next i hi =
      let one = slot_lt capacity start (i + 1) (omega arith) in
      let two = slot_lt capacity start i (omega arith) in
      slot_is i (omega arith)
      (λ a al.
      slot_is (i + 1) (omega arith)
      (λ b bl. let h : slot_of capacity start i + 1 < capacity = omega arith in rw (lt-ltb _ _ h) (omega arith))
      (λ b. let h : capacity ≤ slot_of capacity start i + 1 = omega arith in rw (le-ltb _ _ h) (omega arith)))
      (λ a.
      slot_is (i + 1) (omega arith)
      (λ b bl. absurd (omega arith))
      (λ b. let h : slot_of capacity start i + 1 < capacity = omega arith in rw (lt-ltb _ _ h) (omega arith)))

  -- two entries of one window never share a slot
  pub slot_apart : (i j : ℕ) → i < capacity → j < capacity → (i ≡ j → ⊥) → slot_of capacity start i ≡ slot_of capacity start j → ⊥
  slot_apart i j hi hj ne e =
      let k = slot_lt capacity start i (omega arith) in
      slot_is i (omega arith)
      (λ a al. slot_is j (omega arith) (λ b bl. ne (omega arith)) (λ b. omega arith))
      (λ a. slot_is j (omega arith) (λ b bl. omega arith) (λ b. ne (omega arith)))

-- the slot of an entry lies within the areas
module _ (capacity start i : ℕ) {s n : ℕ} (e : s ≡ slot_of capacity start i) (h : start < capacity) where
  pub slot-words : 3 * capacity ≤ n → 3 * s + 3 ≤ n
  slot-words k = omega (arith, slot_lt capacity start i (omega arith))

  pub slot-bytes : 1456 * capacity ≤ n → 1456 * s + 1456 ≤ n
  slot-bytes k = omega (arith, slot_lt capacity start i (omega arith))

  -- the same of a list that has the length of another
  pub slot-words-kept : {m : ℕ} → n ≡ m → 3 * capacity ≤ m → 3 * s + 3 ≤ n
  slot-words-kept f k = omega (arith, slot_lt capacity start i (omega arith))

-- a part of the front of two joined lists
in-front : (xs ys : List ℕ) (a n : ℕ) → a + n ≤ length xs → take n (drop a (xs ++ ys)) ≡ take n (drop a xs)
in-front xs ys a n h =
    ap (take n) (drop-append-le a xs ys (omega arith)) ∙ take-append-le n (drop a xs) ys (rw length-drop (omega arith))

-- a payload in slot s: the area keeps its length, the slot shows the payload, and every other slot what it had
module _ (bs : List ℕ) (s : ℕ) (p : List ℕ) (hp : length p ≤ 1456) (hs : 1456 * s + 1456 ≤ length bs) where
  pub length-payload : length (with_payload bs s p) ≡ length bs
  length-payload = length-paste bs (1456 * s) p (length p) (omega arith) (omega arith)

  head-long : length (take (1456 * s) bs) ≡ 1456 * s
  head-long = length-take-le (1456 * s) bs (omega arith)

  pub payload_same : payload_at (with_payload bs s p) s (length p) ≡ p
  payload_same =
      let a : take (length p) p ≡ p = take-length p in
      rw (a, append_assoc, drop_at (take (1456 * s) bs) (p ++ drop (1456 * s + length p) bs) (1456 * s) head-long, take_at p (drop (1456 * s + length p) bs) (length p) refl)

  past : (a : ℕ) → 1456 * s + length p ≤ a → drop a (with_payload bs s p) ≡ drop a bs
  past a h =
      let e : 1456 * s + length p + (a - (1456 * s + length p)) ≡ a = omega arith in
      ap (λ (x : ℕ). drop x (with_payload bs s p)) (sym e)
      ∙ sym (drop-drop (a - (1456 * s + length p)) (1456 * s + length p) (with_payload bs s p))
      ∙ ap (drop (a - (1456 * s + length p))) (drop-paste bs (1456 * s) p (length p) (omega arith) (omega arith))
      ∙ drop-drop (a - (1456 * s + length p)) (1456 * s + length p) bs
      ∙ ap (λ (x : ℕ). drop x bs) e

  pub payload-other : (t n : ℕ) → (t ≡ s → ⊥) → n ≤ 1456 → payload_at (with_payload bs s p) t n ≡ payload_at bs t n
  payload-other t n ne hn =
      by-order t s
      (λ h.
      let f : 1456 * t + n ≤ length (take (1456 * s) bs) = rw head-long (omega arith) in
      rw append_assoc (in-front (take (1456 * s) bs) _ (1456 * t) n f)
      ∙ sym (in-front (take (1456 * s) bs) (drop (1456 * s) bs) (1456 * t) n f)
      ∙ ap (λ (l : List ℕ). take n (drop (1456 * t) l)) (take-append-drop (1456 * s) bs))
      (λ h. ap (take n) (past (1456 * t) (omega (arith, ne))))

  -- bytes past the used part of the area stay
  pub payload-outside : (capacity : ℕ) → s < capacity → drop (1456 * capacity) (with_payload bs s p) ≡ drop (1456 * capacity) bs
  payload-outside capacity h =
      past (1456 * capacity) (omega arith)

-- words past the used part of the area stay
module _ (ws : List ℕ) (s capacity : ℕ) (h : s < capacity) where
  pub words-outside : (e : Entry) → drop (3 * capacity) (write_at ws s e) ≡ drop (3 * capacity) ws
  unfolding write_at
  words-outside e =
      let a : 3 * s < 3 * capacity = omega arith in
      let b : 3 * s + 1 < 3 * capacity = omega arith in
      let c : 3 * s + 2 < 3 * capacity = omega arith in
      simp drop-set-lt

  pub report-outside : (k f : ℕ) → drop (3 * capacity) (write_report ws s k f) ≡ drop (3 * capacity) ws
  unfolding write_report
  report-outside k f =
      let b : 3 * s + 1 < 3 * capacity = omega arith in
      let c : 3 * s + 2 < 3 * capacity = omega arith in
      simp drop-set-lt
