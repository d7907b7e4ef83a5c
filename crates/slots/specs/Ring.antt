-- The ring of slots and the places of payloads: 01, "Head and lent areas".
use Rattle.std.specs.Prelude.{List, ℕ, ◌*◌, length, take, drop}
use Rattle.std.proofs.Math.Seq.{paste}
use Rattle.numbers.specs.Ring.{place_in}

-- entry i lies in slot (start + i) mod capacity
unfoldable pub slot_of : ℕ → ℕ → ℕ → ℕ
slot_of capacity start i = place_in capacity start i

-- the payload area has 1,456 bytes a slot
abbrev pub payload_start : ℕ → ℕ
payload_start s = 1456 * s

abbrev pub payload_at : List ℕ → ℕ → ℕ → List ℕ
payload_at bs s n = take n (drop (payload_start s) bs)

abbrev pub with_payload : List ℕ → ℕ → List ℕ → List ℕ
with_payload bs s p = paste bs (payload_start s) p (length p)
