-- A window is in range exactly if its parts are: from the test to the facts and back. Assumes nothing.
use mathlib.Core.Path.{◌≡◌}
use mathlib.Core.Bool.{true, ◌&&◌}
use Prim.Native.Nat.{◌^◌}
use borrow.Author.Tests.{leb-true, ltb-true, le-leb, lt-ltb}
use lib.Dec.{ltb, leb}
use Rattle.numbers.proofs.Flags.{and_left, and_right}
use Rattle.window.specs.Window.{window_ok}
use Rattle.window.specs.Ready.{InWindow}
use Rattle.window.specs.declared.Window.{Window}

pub in_window : (w : Window) → window_ok w ≡ true → InWindow w
in_window w e =
    let a = leb 1 w.capacity in
    let b = leb w.capacity 8192 in
    let c = ltb w.start w.capacity in
    let d = leb w.held w.capacity in
    let f = ltb w.seqno0 (2 ^ 31) in
    let e5 = and_left (a && b && c && d && f) _ e in
    let e4 = and_left (a && b && c && d) _ e5 in
    let e3 = and_left (a && b && c) _ e4 in
    let e2 = and_left (a && b) _ e3 in
    record {
      some = leb-true 1 w.capacity (and_left a _ e2);
      most = leb-true w.capacity 8192 (and_right a _ e2);
      starts = ltb-true w.start w.capacity (and_right (a && b) _ e3);
      holds = leb-true w.held w.capacity (and_right (a && b && c) _ e4);
      seqno0 = ltb-true w.seqno0 (2 ^ 31) (and_right (a && b && c && d) _ e5);
      lrsn = ltb-true w.lrsn (2 ^ 31) (and_right (a && b && c && d && f) _ e);
    }

pub from-window : (w : Window) → InWindow w → window_ok w ≡ true
from-window w i =
    rw (
      le-leb 1 w.capacity i.some,
      le-leb w.capacity 8192 i.most,
      lt-ltb w.start w.capacity i.starts,
      le-leb w.held w.capacity i.holds,
      lt-ltb w.seqno0 (2 ^ 31) i.seqno0,
      lt-ltb w.lrsn (2 ^ 31) i.lrsn,
    )
