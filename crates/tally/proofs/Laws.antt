-- What the code of lib.rt does at each return, as laws over plain values. Assumes nothing.
use mathlib.Core.Path.{◌≡◌, ◌∙◌, ap}
use mathlib.Core.List.{List, [], ◌∷◌, ◌++◌, append_assoc}
use Prim.Native.Nat.{ℕ, ◌+◌, ◌^◌, ◌<◌, ◌≤◌}
use native.Mathlib.Omega.{arith}
use borrow.Author.Rules.{rules}
use lib.ListN.{length}
use Rattle.text.specs.Bytes.{bytes}
use Rattle.text.specs.Decimal.{decimal}
use Rattle.text.specs.Put.{put_ended, put_of}
use Rattle.text.proofs.Numerals.{decimal-short}
use Rattle.text.proofs.Puts.{put-cursor, put_then, puts, put-none, put-room}
use Rattle.shapes.specs.Ready.{Wrote}
use Rattle.counts.specs.declared.Counters.{Counters}
use Rattle.tally.specs.Tally.{named, packet_bytes, loss_bytes, other_bytes, all_bytes, counters_bytes}

-- one put after the other
two-puts : (out : List ℕ) (at : ℕ) (a b : List ℕ) {p q : ℕ} {o₁ o₂ : List ℕ}
    → put_ended p o₁ ≡ put_of out at a → put_ended q o₂ ≡ put_of o₁ p b → p ≤ length out → put_ended q o₂ ≡ put_of out at (a ++ b)
two-puts out at a b e f h = put_then out at a b e f (let k = put-cursor out at a e in omega arith)

-- put_named
module _ (out : List ℕ) (at : ℕ) (name : List ℕ) (n : ℕ) {p q s r : ℕ} {o₁ o₂ o₃ o₄ : List ℕ} where
  pub named-bytes : put_ended p o₁ ≡ put_of out at (32 ∷ []) → put_ended q o₂ ≡ put_of o₁ p name → put_ended s o₃ ≡ put_of o₂ q (61 ∷ []) → put_ended r o₄ ≡ put_of o₃ s (decimal n)
      → at + 42 ≤ length out → length name ≤ 20 → put_ended r o₄ ≡ put_of out at (named name n)
  unfolding named
  named-bytes e f g h room short =
      let a = put-cursor out at (32 ∷ []) e in
      let b = put-cursor o₁ p name f in
      let c = put-cursor o₂ q (61 ∷ []) g in
      let first = two-puts out at (32 ∷ []) name e f (omega arith) in
      let second = two-puts out at (32 ∷ name) (61 ∷ []) first g (omega arith) in
      two-puts out at ((32 ∷ name) ++ (61 ∷ [])) (decimal n) second h (omega arith)
      ∙ ap (put_of out at) (append_assoc (32 ∷ name) (61 ∷ []) (decimal n))

  pub named-within : put_ended p o₁ ≡ put_of out at (32 ∷ []) → put_ended q o₂ ≡ put_of o₁ p name → put_ended s o₃ ≡ put_of o₂ q (61 ∷ []) → put_ended r o₄ ≡ put_of o₃ s (decimal n)
      → n < 2 ^ 64 → length name ≤ 20 → r ≤ at + 42
  named-within e f g h small short =
      let a = put-cursor out at (32 ∷ []) e in
      let b = put-cursor o₁ p name f in
      let c = put-cursor o₂ q (61 ∷ []) g in
      let d = put-cursor o₃ s (decimal n) h in
      omega (arith, decimal-short n small)

module _ (out : List ℕ) (at : ℕ) (name : List ℕ) {p : ℕ} {o₁ : List ℕ} (e : put_ended p o₁ ≡ put_of out at (32 ∷ [])) (room : at + 42 ≤ length out) (short : length name ≤ 20) where
  pub name-room : p + length name ≤ length o₁
  name-room = put-room out at (32 ∷ []) (length name) e (omega arith)

  behind-space : p + 41 ≤ length o₁
  behind-space = put-room out at (32 ∷ []) 41 e (omega arith)

  behind-name : {q : ℕ} {o₂ : List ℕ} → put_ended q o₂ ≡ put_of o₁ p name → q + 21 ≤ length o₂
  behind-name f = put-room o₁ p name 21 f (let k = behind-space in omega arith)

  pub equals-room : {q : ℕ} {o₂ : List ℕ} → put_ended q o₂ ≡ put_of o₁ p name → q < length o₂
  equals-room f = let k = behind-name f in omega arith

  pub count_room : {q s : ℕ} {o₂ o₃ : List ℕ} → put_ended q o₂ ≡ put_of o₁ p name → put_ended s o₃ ≡ put_of o₂ q (61 ∷ []) → s + 20 ≤ length o₃
  count_room {q} {s} {o₂} f g = put-room o₂ q (61 ∷ []) 20 g (let k = behind-name f in omega arith)

pub after-byte : (out : List ℕ) (at b : ℕ) {p : ℕ} {o₁ : List ℕ} → put_ended p o₁ ≡ put_of out at (b ∷ []) → p ≤ at + 1
after-byte out at b e = omega (arith, put-cursor out at (b ∷ []) e)

-- put_packets, put_losses, put_others
wrote_then : (out : List ℕ) (at : ℕ) (a b : List ℕ) (m n : ℕ) {p q : ℕ} {o₁ o₂ : List ℕ}
    → Wrote out at a m p o₁ → Wrote o₁ p b n q o₂ → at + m ≤ length out → Wrote out at (a ++ b) (m + n) q o₂
wrote_then out at a b m n e f h =
    let k = e.within in
    let l = f.within in
    record { bytes = two-puts out at a b e.bytes f.bytes (omega arith); within = omega arith }

module _ (out : List ℕ) (at : ℕ) (c : Counters) where
  pub packets-wrote : {p q s r : ℕ} {o₁ o₂ o₃ o₄ : List ℕ} → at + 168 ≤ length out → Wrote out at (named (bytes "rx_data") c.rx_data) 42 p o₁ → Wrote o₁ p (named (bytes "rx_bytes") c.rx_bytes) 42 q o₂
      → Wrote o₂ q (named (bytes "rx_unique_data") c.rx_unique_data) 42 s o₃ → Wrote o₃ s (named (bytes "rx_unique_bytes") c.rx_unique_bytes) 42 r o₄ → Wrote out at (packet_bytes c) 168 r o₄
  unfolding packet_bytes
  packets-wrote room e f g h = wrote_then out at _ _ 126 42 (wrote_then out at _ _ 84 42 (wrote_then out at _ _ 42 42 e f (omega arith)) g (omega arith)) h (omega arith)

  pub losses-wrote : {p q r : ℕ} {o₁ o₂ o₃ : List ℕ} → at + 126 ≤ length out → Wrote out at (named (bytes "rx_retransmit_data") c.rx_retransmit_data) 42 p o₁
      → Wrote o₁ p (named (bytes "rx_dropped_data") c.rx_dropped_data) 42 q o₂ → Wrote o₂ q (named (bytes "rx_dropped_bytes") c.rx_dropped_bytes) 42 r o₃ → Wrote out at (loss_bytes c) 126 r o₃
  unfolding loss_bytes
  losses-wrote room e f g = wrote_then out at _ _ 84 42 (wrote_then out at _ _ 42 42 e f (omega arith)) g (omega arith)

  pub others-wrote : {p q r : ℕ} {o₁ o₂ o₃ : List ℕ} → at + 126 ≤ length out → Wrote out at (named (bytes "rx_ack2") c.rx_ack2) 42 p o₁
      → Wrote o₁ p (named (bytes "rx_ack2_errors") c.rx_ack2_errors) 42 q o₂ → Wrote o₂ q (named (bytes "rx_clock_adjustments") c.rx_clock_adjustments) 42 r o₃ → Wrote out at (other_bytes c) 126 r o₃
  unfolding other_bytes
  others-wrote room e f g = wrote_then out at _ _ 84 42 (wrote_then out at _ _ 42 42 e f (omega arith)) g (omega arith)

-- put_counters, line
wrote_of : (out : List ℕ) (at : ℕ) (bs : List ℕ) (m : ℕ) {p : ℕ} {o₁ : List ℕ} → put_ended p o₁ ≡ put_of out at bs → length bs ≤ m → Wrote out at bs m p o₁
wrote_of out at bs m e h = record { bytes = e; within = let k = put-cursor out at bs e in omega arith }

module _ (out : List ℕ) (at : ℕ) (c : Counters) where
  pub all-wrote : {p q r : ℕ} {o₁ o₂ o₃ : List ℕ} → at + 420 ≤ length out
      → Wrote out at (packet_bytes c) 168 p o₁ → Wrote o₁ p (loss_bytes c) 126 q o₂ → Wrote o₂ q (other_bytes c) 126 r o₃ → Wrote out at (all_bytes c) 420 r o₃
  unfolding all_bytes
  all-wrote room e f g = wrote_then out at _ _ 294 126 (wrote_then out at _ _ 168 126 e f (omega arith)) g (omega arith)

  pub counters-wrote : {p q r : ℕ} {o₁ o₂ o₃ : List ℕ} → at + 429 ≤ length out → Wrote out at (bytes "counters") 8 p o₁
      → Wrote o₁ p (all_bytes c) 420 q o₂ → put_ended r o₃ ≡ put_of o₂ q (10 ∷ []) → Wrote out at (counters_bytes c) 429 r o₃
  unfolding counters_bytes
  counters-wrote room e f g =
      wrote_then out at _ _ 428 1 (wrote_then out at _ _ 8 420 e f (omega arith)) (wrote_of _ _ (10 ∷ []) 1 g (omega arith)) (omega arith)

-- no line where the counters are not asked for
pub wrote-none : (out : List ℕ) (at : ℕ) → at + 429 ≤ length out → Wrote out at [] 429 at out
wrote-none out at room = wrote_of out at [] 429 (puts out at [] (omega arith) (put-none out at)) (omega arith)

pub ruleset tallies = (wrote-none, rules)

pub ruleset names = (name-room, equals-room, count_room, named-bytes, named-within, after-byte, rules)

pub ruleset rows = (packets-wrote, losses-wrote, others-wrote, all-wrote, counters-wrote, rules)
