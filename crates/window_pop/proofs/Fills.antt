-- Laws for the payloads of a message in the output: pop.rt, `put_payload` and `fill`. A message that was counted has as many bytes as its payloads. Assumes nothing.
use mathlib.Core.Path.{◌≡◌, refl, ap, sym, ◌∙◌, subst}
use mathlib.Core.List.{List, []}
use Prim.Native.Nat.{ℕ, zero, suc, ◌+◌, ◌-◌, ◌*◌, ◌<◌, ◌≤◌}
use native.Mathlib.Numerals.{add-one}
use native.Mathlib.Omega.{arith}
use borrow.Author.Rules.{rules}
use lib.ListN.{length, take, drop, length-drop}
use lib.Seq.{paste, length-take-le, length-paste}
use Rattle.std.specs.Prelude.{Option, Some, None, ⊤}
use Rattle.numbers.proofs.Flags.{by-test}
use Rattle.slots.specs.Words.{entry_at, length_in, message_in, is_first, is_last, in_message}
use Rattle.slots.specs.Ring.{slot_of, payload_at}
use Rattle.slots.specs.declared.entry.Entry.{Entry}
use Rattle.window.specs.Window.{entry_in}
use Rattle.window.specs.declared.Window.{Window}
use Rattle.window_pop.specs.declared.pop.Message.{Message}
use Rattle.window_pop.specs.Pop.{run_from, message_of, filled}
use Rattle.window.proofs.Walks.{walk-slot, walk-on, walk_start}
use Rattle.window_pop.proofs.Runs.{run-bytes, run_fits}
use Rattle.slots.proofs.Laws.{length-read, slot-words, slot-bytes}

-- put_payload: the part of the area is the slot's payload
payload-long : (bs : List ℕ) (s n : ℕ) → n ≤ 1456 → 1456 * s + 1456 ≤ length bs → length (payload_at bs s n) ≡ n
payload-long bs s n h k = length-take-le n (drop (1456 * s) bs) (rw length-drop (omega arith))

pub put-part : (out bs : List ℕ) (at s n : ℕ) {x : List ℕ}
    → x ≡ paste out at (take (1456 * s + n - 1456 * s) (drop (1456 * s) bs)) (length (take (1456 * s + n - 1456 * s) (drop (1456 * s) bs)))
    → n ≤ 1456 → 1456 * s + 1456 ≤ length bs
    → x ≡ paste out at (payload_at bs s n) n
put-part out bs at s n a h k =
    let e : 1456 * s + n - 1456 * s ≡ n = omega arith in
    let l = payload-long bs s n h k in
    a ∙ rw e (rw l)

module _ (capacity start : ℕ) (ws bs out : List ℕ) where
  pub fill_start : out ≡ (filled capacity start ws bs out 0).out
  unfolding filled
  fill_start = refl

  pub at-start : 0 ≡ (filled capacity start ws bs out 0).at
  unfolding filled
  at-start = refl

  -- entry i follows the ones before it
  at_more : (i : ℕ) → (filled capacity start ws bs out (i + 1)).at ≡ (filled capacity start ws bs out i).at + length_in (entry_at ws (slot_of capacity start i))
  unfolding filled
  at_more i = rw (add-one i)

  pub at_after : (i : ℕ) {at s n : ℕ} {e : Entry}
      → at ≡ (filled capacity start ws bs out i).at → s ≡ slot_of capacity start i → e ≡ entry_at ws s → n ≡ length_in e
      → at + n ≡ (filled capacity start ws bs out (i + 1)).at
  at_after i a b c d = rw (at_more i, ← a, ← b, ← c, ← d)

  pub fill-after : (i : ℕ) {at s n : ℕ} {e : Entry} {out₁ out₂ : List ℕ}
      → out₁ ≡ (filled capacity start ws bs out i).out → at ≡ (filled capacity start ws bs out i).at → s ≡ slot_of capacity start i → e ≡ entry_at ws s → n ≡ length_in e
      → out₂ ≡ paste out₁ at (payload_at bs s n) n
      → out₂ ≡ (filled capacity start ws bs out (i + 1)).out
  unfolding filled
  fill-after i f a b c d g = rw (add-one i, ← f, ← a, ← b, ← c, ← d) g

  pub fill_done : (i count : ℕ) {out₁ : List ℕ}
      → out₁ ≡ (filled capacity start ws bs out i).out → i ≤ count → count ≤ i
      → out₁ ≡ (filled capacity start ws bs out count).out
  fill_done i count f h k = let e : i ≡ count = omega arith in f ∙ ap (λ (j : ℕ). (filled capacity start ws bs out j).out) e

  -- no payload takes back what is filled
  pub at-grows : (k i : ℕ) → (filled capacity start ws bs out i).at ≤ (filled capacity start ws bs out (i + k)).at
  at-grows zero i = let e : i + 0 ≡ i = omega arith in rw e (omega arith)
  at-grows (suc k) i =
      let e : i + suc k ≡ i + k + 1 = omega arith in
      rw (e, at_more (i + k)) (omega (arith, at-grows k i))

  at-within : {i count : ℕ} → i ≤ count → (filled capacity start ws bs out i).at ≤ (filled capacity start ws bs out count).at
  at-within {i} {count} h = let e : i + (count - i) ≡ count = omega arith in rw e at (at-grows (count - i) i)

  -- the output keeps its length
  pub fill-length : (i : ℕ) → (filled capacity start ws bs out i).at ≤ length out → start < capacity → 1456 * capacity ≤ length bs
      → length (filled capacity start ws bs out i).out ≡ length out
  unfolding filled
  fill-length zero h hs hb = refl
  fill-length (suc i) h hs hb =
      let s = slot_of capacity start i in
      let n = length_in (entry_at ws s) in
      let r = fill-length i (omega arith) hs hb in
      let l = payload-long bs s n (length-read ws s) (slot-bytes capacity start i refl hs hb) in
      length-paste (filled capacity start ws bs out i).out (filled capacity start ws bs out i).at (payload_at bs s n) n (omega arith) (omega arith) ∙ r

  -- so each payload has room if the last has
  pub fill-room : (i count : ℕ) {at s n : ℕ} {e : Entry} {out₁ : List ℕ}
      → out₁ ≡ (filled capacity start ws bs out i).out → at ≡ (filled capacity start ws bs out i).at
      → n ≡ length_in e → e ≡ entry_at ws s → s ≡ slot_of capacity start i
      → (filled capacity start ws bs out count).at ≤ length out → i < count → start < capacity → 1456 * capacity ≤ length bs
      → at + n ≤ length out₁
  fill-room i count f a d c b k h hs hb =
      let l : i ≤ count = omega arith in
      let m : i + 1 ≤ count = omega arith in
      let p = at-within l in
      omega (arith, at_after i a b c d, at-within m, ap length f, fill-length i (omega arith) hs hb)

  pub fill-same : (i count : ℕ) {out₁ : List ℕ}
      → out₁ ≡ (filled capacity start ws bs out i).out → (filled capacity start ws bs out count).at ≤ length out → i ≤ count → start < capacity → 1456 * capacity ≤ length bs
      → length out₁ ≡ length out
  fill-same i count f k h hs hb = let p = at-within h in ap length f ∙ fill-length i (omega arith) hs hb

-- a run that was counted: one entry at least, no more than there are, and the bytes of its payloads
pub record Whole (capacity start : ℕ) (ws bs out : List ℕ) (top : ℕ) (m : Message) : Type 0 where
  pub some : 0 < m.packets
  pub held : m.packets ≤ top
  pub long : (filled capacity start ws bs out m.packets).at ≡ m.bytes

module _ (capacity start : ℕ) (ws bs out : List ℕ) where
  abbrev IfWhole : ℕ → Option Message → Type 0
  IfWhole top (Some m) = Whole capacity start ws bs out top m
  IfWhole top None = ⊤

  run-whole : (message top n i total : ℕ) → i + n ≤ top → total ≡ (filled capacity start ws bs out i).at → IfWhole top (run_from capacity start ws message i total n)
  unfolding run_from
  run-whole message top zero i total h a = tt
  run-whole message top (suc n) i total h a =
      let e = entry_at ws (slot_of capacity start i) in
      by-test (IfWhole top) (in_message message e) _ _
      (λ t.
      by-test (IfWhole top) (is_last e) _ _
      (λ u. record { some = omega arith; held = omega arith; long = sym (at_after capacity start ws bs out i a refl refl refl) })
      (λ u. run-whole message top n (i + 1) (total + length_in e) (omega arith) (at_after capacity start ws bs out i a refl refl refl)))
      (λ t. tt)

-- a whole message in front
module _ (w : Window) (ws bs out : List ℕ) {m : Message} (c : Some m ≡ message_of w ws) where
  pub front-whole : Whole w.capacity w.start ws bs out w.held m
  unfolding message_of
  front-whole =
      let e = entry_in w ws 0 in
      subst (IfWhole w.capacity w.start ws bs out w.held) (sym c)
      (by-test (IfWhole w.capacity w.start ws bs out w.held) (is_first e) _ _
      (λ t. run-whole w.capacity w.start ws bs out (message_in e) w.held w.held 0 0 (omega arith) (at-start w.capacity w.start ws bs out))
      (λ t. tt))

  pub front-room : m.bytes ≤ length out → (filled w.capacity w.start ws bs out m.packets).at ≤ length out
  front-room k = omega (arith, front-whole.long)

pub front-held : (w : Window) (ws : List ℕ) {m : Message} → Some m ≡ message_of w ws → m.packets ≤ w.held
front-held w ws c = (front-whole w ws [] [] c).held

pub read-most : (ws : List ℕ) (s : ℕ) {n : ℕ} {e : Entry} → n ≡ length_in e → e ≡ entry_at ws s → n ≤ 1456
read-most ws s d c = omega (arith, d ∙ ap length_in c, length-read ws s)

pub ruleset fills = (
  put-part,
  fill_start,
  at-start,
  at_after,
  fill-after,
  fill_done,
  fill-room,
  fill-same,
  read-most,
  slot-words,
  slot-bytes,
  walk-slot,
  walk-on,
  walk_start,
  run-bytes,
  run_fits,
  rules,
)
