-- What the head's range test and the tests of areas and packet have shown: the premises of the window's functions. No rule of 01 of its own.
use Rattle.std.specs.Prelude.{List, ℕ, ◌*◌, ◌^◌, ◌<◌, ◌≤◌, length}
use Rattle.window.specs.declared.Window.{Window}
use Rattle.window.specs.declared.push.Packet.{Packet}

-- window_ok, part by part
pub record InWindow (w : Window) : Type 0 where
  pub some : 0 < w.capacity
  pub most : w.capacity ≤ 8192
  pub starts : w.start < w.capacity
  pub holds : w.held ≤ w.capacity
  pub seqno0 : w.seqno0 < 2 ^ 31
  pub lrsn : w.lrsn < 2 ^ 31

-- and three words a slot
pub record Good (w : Window) (ws : List ℕ) : Type 0 where
  pub ranges : InWindow w
  pub words : 3 * w.capacity ≤ length ws

-- the part of it that a walk of the ring needs
pub record Ring (capacity start held : ℕ) (ws : List ℕ) : Type 0 where
  pub most : capacity ≤ 8192
  pub starts : start < capacity
  pub holds : held ≤ capacity
  pub words : 3 * capacity ≤ length ws

-- 1,456 bytes a slot
abbrev pub Bytes : Window → List ℕ → Type 0
Bytes w bs = 1456 * w.capacity ≤ length bs

-- what refusals 5 and 6 have shown of a packet
pub record PacketRight (p : Packet) (payload : List ℕ) : Type 0 where
  pub number : p.number < 2 ^ 31
  pub message : p.message < 2 ^ 26
  pub location : p.location < 4
  pub bytes : length payload ≤ 1456
