-- A head is in range if its parts are: 01, "Head and lent areas", the way back from the test's facts to the test. Assumes nothing.
use mathlib.Core.Path.{◌≡◌}
use mathlib.Core.Bool.{true}
use borrow.Author.Tests.{le-leb}
use Rattle.head.specs.Head.{head_ok}
use Rattle.head.specs.declared.state.Head.{Head}
use Rattle.head.specs.Ready.{InRange}

pub from_parts : (h : Head) → InRange h → head_ok h ≡ true
unfolding head_ok
from_parts h r =
    rw (r.window, le-leb h.latency 65535000 r.latency, r.clock, r.rtt, r.arrivals, r.links, r.history, r.latest)
