-- The range tests as Bools: 01, "Refused", 2 and 5, as far as the window's calls need them.
use Rattle.std.specs.Prelude.{Bool, ◌&&◌, ℕ, ◌/◌, ◌^◌, ltb, leb}
use Rattle.window.specs.declared.push.Packet.{Packet}

-- 2 AreaShort: three words and 1,456 bytes a slot
abbrev pub words_ok : ℕ → ℕ → Bool
words_ok capacity len = leb capacity (len / 3)

abbrev pub bytes_ok : ℕ → ℕ → Bool
bytes_ok capacity len = leb capacity (len / 1456)

abbrev pub areas_ok : ℕ → ℕ → ℕ → Bool
areas_ok capacity words bytes = words_ok capacity words && bytes_ok capacity bytes

-- 5 BadNumber
abbrev pub packet_ok : Packet → Bool
packet_ok p = ltb p.number (2 ^ 31) && ltb p.message (2 ^ 26) && ltb p.location 4
