-- The window's numbers and entries: 01, "Head and lent areas" and "Window".
use Rattle.std.specs.Prelude.{Bool, ◌&&◌, cond, List, ℕ, zero, suc, ◌+◌, ◌-◌, ◌^◌, ltb, leb}
use Rattle.numbers.specs.Circular.{sum}
use Rattle.slots.specs.Words.{is_received, entry_at}
use Rattle.slots.specs.Ring.{slot_of}
use Rattle.slots.specs.declared.entry.Entry.{Entry}
use Rattle.window.specs.declared.Window.{Window}

-- capacity 1 to 8,192, start slot (under capacity), held count (0..capacity), seqno0, lrsn
abbrev pub window_ok : Window → Bool
window_ok w =
    leb 1 w.capacity
    && leb w.capacity 8192
    && ltb w.start w.capacity
    && leb w.held w.capacity
    && ltb w.seqno0 (2 ^ 31)
    && ltb w.lrsn (2 ^ 31)

-- entry i lies in slot (start + i) mod capacity
abbrev pub slot_in : Window → ℕ → ℕ
slot_in w i = slot_of w.capacity w.start i

abbrev pub entry_in : Window → List ℕ → ℕ → Entry
entry_in w ws i = entry_at ws (slot_in w i)

-- its number, and next expected = seqno0 + held
abbrev pub number_in : Window → ℕ → ℕ
number_in w i = sum 31 w.seqno0 i

abbrev pub next_of : Window → ℕ
next_of w = number_in w w.held

-- of the n entries from entry i on, the first not received, else i + n
unfoldable pub first_gap : ℕ → ℕ → List ℕ → ℕ → ℕ → ℕ
first_gap capacity start ws i zero = i
first_gap capacity start ws i (suc n) = cond (is_received (entry_at ws (slot_of capacity start i))) (first_gap capacity start ws (i + 1) n) i

-- the first not received from there, else next expected
abbrev pub lrsn_from : Window → List ℕ → ℕ → ℕ
lrsn_from w ws i = number_in w (first_gap w.capacity w.start ws i (w.held - i))

-- n entries leaving the front move start on
abbrev pub cut : Window → ℕ → Window
cut w n =
    record { capacity = w.capacity; start = slot_in w n; held = w.held - n; seqno0 = number_in w n; lrsn = w.lrsn }

abbrev pub with_lrsn : Window → ℕ → Window
with_lrsn w l = record { capacity = w.capacity; start = w.start; held = w.held; seqno0 = w.seqno0; lrsn = l }

-- room is capacity - held
abbrev pub room_of : Window → ℕ
room_of w = w.capacity - w.held
