-- The header: 01, "Trace, mark DLT": "DLT, version 1 (16 bits), start 8 bytes, latency 4, late-drop 1, first number 4, capacity 2".
use Rattle.std.specs.Prelude.{Bool, ◌&&◌, cond, List, ℕ, eqb, leb, ltb, length, Result, Ok, Err}
use Rattle.dlt.specs.Bytes.{byte_at, field, time_at}
use Rattle.dlt.specs.declared.Unread.{Unread}
use Rattle.dlt.specs.declared.Unread.TheVariants.{Short, Bad}
use Rattle.dlt.specs.declared.header.Header.{Header}

-- the letters D, L and T, version 1, and a late-drop of at most 1
unfoldable pub is_header : List ℕ → Bool
is_header xs = eqb (byte_at xs 0) 68 && eqb (byte_at xs 1) 76 && eqb (byte_at xs 2) 84 && eqb (field xs 3 2) 1 && leb (byte_at xs 17) 1

-- start, latency, late-drop, first number and capacity
abbrev pub settings_in : List ℕ → Header
settings_in xs =
    record { start = time_at xs 5; latency = field xs 13 4; dropping = eqb (byte_at xs 17) 1; first = field xs 18 4; capacity = field xs 22 2 }

unfoldable pub header_of : List ℕ → Result Header Unread
header_of xs = cond (ltb (length xs) 24) (Err Short) (cond (is_header xs) (Ok (settings_in xs)) (Err Bad))
