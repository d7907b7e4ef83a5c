-- Any two outcomes that a call's promise allows coincide: 01, "Each proof's duty". An outcome is all that the call leaves (`left`): the number that it returns, the
-- head's words, the answer's cells and each area that it may write. Assumes nothing.
use mathlib.Core.Path.{◌≡◌, sym, ◌∙◌, ap}
use mathlib.Core.Bool.{Bool}
use mathlib.Core.List.{List}
use Prim.Native.Nat.{ℕ}
use lib.IntN.{ℤ}
use Rattle.window.specs.declared.push.Packet.{Packet}
use Rattle.packing.specs.Packed.{unpack_of}
use Rattle.exports.specs.Calls.{Left, left, new_of, data_export_of, message_export_of, loss_export_of, full_ack_export_of, ack2_export_of, drop_export_of, clock_export_of, clear_export_of, room_export_of, show_export_of, data_counted_of, ack2_counted_of, drop_counted_of, clock_counted_of}

-- the parts of two outcomes that are one
pub parts : {n n' : ℕ} {k k' : List ℕ} {c c' : List ℤ} {a a' : List (List ℕ)}
    → left n k c a ≡ left n' k' c' a' → (n ≡ n') × (k ≡ k') × (c ≡ c') × (a ≡ a')
parts e = (ap (λ o. o.returned) e, ap (λ o. o.words) e, ap (λ o. o.cells) e, ap (λ o. o.areas) e)

-- the words that a call leaves say the head that its outcome has, so the next call begins with it
pub next : {n : ℕ} {k : List ℕ} {c : List ℤ} {a : List (List ℕ)} {l : Left} → left n k c a ≡ l → unpack_of k ≡ l.says
next e = ap (λ o. o.says) e

module _ (ws : List ℕ) {l m : Left} where
  pub new-determined : (start : ℤ) (latency : ℕ) (dropping : Bool) (first capacity : ℕ) → l ≡ new_of ws start latency dropping first capacity → m ≡ new_of ws start latency dropping first capacity → l ≡ m
  new-determined start latency dropping first capacity p₁ p₂ = p₁ ∙ sym p₂

  pub data-determined : (slots payloads : List ℕ) (now : ℤ) (p : Packet) (payload : List ℕ) → l ≡ data_export_of ws slots payloads now p payload → m ≡ data_export_of ws slots payloads now p payload → l ≡ m
  data-determined slots payloads now p payload p₁ p₂ = p₁ ∙ sym p₂

  pub message-determined : (slots payloads output : List ℕ) (now : ℤ) → l ≡ message_export_of ws slots payloads output now → m ≡ message_export_of ws slots payloads output now → l ≡ m
  message-determined slots payloads output now p₁ p₂ = p₁ ∙ sym p₂

  pub loss-determined : (slots list : List ℕ) (now : ℤ) → l ≡ loss_export_of ws slots list now → m ≡ loss_export_of ws slots list now → l ≡ m
  loss-determined slots list now p₁ p₂ = p₁ ∙ sym p₂

  pub full-ack-determined : (history : List ℕ) (now : ℤ) → l ≡ full_ack_export_of ws history now → m ≡ full_ack_export_of ws history now → l ≡ m
  full-ack-determined history now p₁ p₂ = p₁ ∙ sym p₂

  pub ack2-determined : (history : List ℕ) (now : ℤ) (number : ℕ) → l ≡ ack2_export_of ws history now number → m ≡ ack2_export_of ws history now number → l ≡ m
  ack2-determined history now number p₁ p₂ = p₁ ∙ sym p₂

  pub drop-determined : (slots : List ℕ) (first last : ℕ) → l ≡ drop_export_of ws slots first last → m ≡ drop_export_of ws slots first last → l ≡ m
  drop-determined slots first last p₁ p₂ = p₁ ∙ sym p₂

  pub clock-determined : (now : ℤ) (stamp : ℕ) → l ≡ clock_export_of ws now stamp → m ≡ clock_export_of ws now stamp → l ≡ m
  clock-determined now stamp p₁ p₂ = p₁ ∙ sym p₂

  pub clear-determined : l ≡ clear_export_of ws → m ≡ clear_export_of ws → l ≡ m
  clear-determined p₁ p₂ = p₁ ∙ sym p₂

  pub room-determined : l ≡ room_export_of ws → m ≡ room_export_of ws → l ≡ m
  room-determined p₁ p₂ = p₁ ∙ sym p₂

  pub show-determined : (slots payloads : List ℕ) (number : ℕ) → l ≡ show_export_of ws slots payloads number → m ≡ show_export_of ws slots payloads number → l ≡ m
  show-determined slots payloads number p₁ p₂ = p₁ ∙ sym p₂

  pub data-counted-determined : (cs slots payloads : List ℕ) (now : ℤ) (p : Packet) (payload : List ℕ) → l ≡ data_counted_of ws cs slots payloads now p payload → m ≡ data_counted_of ws cs slots payloads now p payload → l ≡ m
  data-counted-determined cs slots payloads now p payload p₁ p₂ = p₁ ∙ sym p₂

  pub ack2-counted-determined : (cs history : List ℕ) (now : ℤ) (number : ℕ) → l ≡ ack2_counted_of ws cs history now number → m ≡ ack2_counted_of ws cs history now number → l ≡ m
  ack2-counted-determined cs history now number p₁ p₂ = p₁ ∙ sym p₂

  pub drop-counted-determined : (cs slots : List ℕ) (first last : ℕ) → l ≡ drop_counted_of ws cs slots first last → m ≡ drop_counted_of ws cs slots first last → l ≡ m
  drop-counted-determined cs slots first last p₁ p₂ = p₁ ∙ sym p₂

  pub clock-counted-determined : (cs : List ℕ) (now : ℤ) (stamp : ℕ) → l ≡ clock_counted_of ws cs now stamp → m ≡ clock_counted_of ws cs now stamp → l ≡ m
  clock-counted-determined cs now stamp p₁ p₂ = p₁ ∙ sym p₂
