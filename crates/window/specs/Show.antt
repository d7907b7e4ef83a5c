-- Show: 01, "Window", "The payload of any held received entry can be shown where it lies in the lent area, asked for by number".
use Rattle.std.specs.Prelude.{◌≡◌, ◌&&◌, cond, List, ℕ, ◌+◌, ltb, take, drop, Option, Some, None}
use Rattle.std.specs.Borrow.{Bor}
use Rattle.numbers.specs.Circular.{distance}
use Rattle.slots.specs.Words.{is_received, length_in}
use Rattle.slots.specs.Ring.{payload_start}
use Rattle.window.specs.Window.{slot_in, entry_in}
use Rattle.window.specs.declared.Window.{Window}
use Rattle.window.specs.declared.show.Part.{Part}

-- r is the n bytes of s that start at a: the same block, a bytes on, and those contents
pub record PartOf (s : Bor (List ℕ)) (a n : ℕ) (r : Bor (List ℕ)) : Type 0 where
  pub block : r.ref_ptr.0 ≡ s.ref_ptr.0
  pub place : r.ref_ptr.1 ≡ s.ref_ptr.1 + a
  pub bytes : r.now ≡ take n (drop a s.now)

-- and an empty part where there is none
abbrev pub ShownAt : Option Part → Bor (List ℕ) → Bor (List ℕ) → Type 0
ShownAt (Some p) s r = PartOf s p.at p.len r
ShownAt None s r = PartOf s 0 0 r

-- the entry of a number lies its distance from seqno0 past the front; it is held if that is under the held count
unfoldable pub shown_of : Window → List ℕ → ℕ → Option Part
shown_of w ws number =
    let i = distance 31 number w.seqno0 in
    cond (ltb i w.held && is_received (entry_in w ws i))
    (Some (record { at = payload_start (slot_in w i); len = length_in (entry_in w ws i) }))
    None
