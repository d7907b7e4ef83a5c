-- That no test of a push or a pop refuses, as the code asks it: all tests at once. `push_rules` and `pop_rules` (crates/head) say which refuses.
use Rattle.std.specs.Prelude.{Bool, not, ◌&&◌, ℕ, ◌*◌, ◌%◌, ◌^◌, ltb, leb, ℤ}
use Rattle.std.specs.Int.Signed.{lt_z}
use Rattle.numbers.specs.Instants.{is_reading}
use Rattle.window.specs.declared.push.Packet.{Packet}

-- head, areas and reading; a capacity in range is its own remainder
abbrev pub areas_clear : Bool → ℕ → ℕ → ℕ → ℤ → ℤ → Bool
areas_clear ok capacity slots bytes now latest =
    ok
    && leb capacity 8192
    && leb (capacity % 16384 * 3) slots
    && leb (capacity % 16384 * 1456) bytes
    && is_reading now
    && not (lt_z now latest)

-- numbers and payload
abbrev pub packet_clear : Packet → ℕ → Bool
packet_clear p size = ltb p.number (2 ^ 31) && ltb p.message (2 ^ 26) && ltb p.location 4 && leb size 1456
