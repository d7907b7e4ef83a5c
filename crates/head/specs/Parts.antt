-- The head with another part, all else as it was: 01, "Head and lent areas".
use Rattle.std.specs.Prelude.{ℤ}
use Rattle.acks.specs.declared.history.History.{History}
use Rattle.intervals.specs.declared.rates.Arrivals.{Arrivals}
use Rattle.intervals.specs.declared.rates.Links.{Links}
use Rattle.acks.specs.declared.rtt.Rtt.{Rtt}
use Rattle.clock.specs.declared.time.SynchronizedRemoteClock.{SynchronizedRemoteClock}
use Rattle.window.specs.declared.Window.{Window}
use Rattle.head.specs.declared.state.Head.{Head}

abbrev pub with_window : Head → Window → Head
with_window h w =
    record {
      window = w;
      latency = h.latency;
      dropping = h.dropping;
      clock = h.clock;
      rtt = h.rtt;
      arrivals = h.arrivals;
      links = h.links;
      history = h.history;
      latest = h.latest;
    }

abbrev pub with_clock : Head → SynchronizedRemoteClock → Head
with_clock h k =
    record {
      window = h.window;
      latency = h.latency;
      dropping = h.dropping;
      clock = k;
      rtt = h.rtt;
      arrivals = h.arrivals;
      links = h.links;
      history = h.history;
      latest = h.latest;
    }

abbrev pub with_rtt : Head → Rtt → Head
with_rtt h t =
    record {
      window = h.window;
      latency = h.latency;
      dropping = h.dropping;
      clock = h.clock;
      rtt = t;
      arrivals = h.arrivals;
      links = h.links;
      history = h.history;
      latest = h.latest;
    }

-- the windows of intervals, of arrivals and of probes
abbrev pub with_rates : Head → Arrivals → Links → Head
with_rates h a l =
    record {
      window = h.window;
      latency = h.latency;
      dropping = h.dropping;
      clock = h.clock;
      rtt = h.rtt;
      arrivals = a;
      links = l;
      history = h.history;
      latest = h.latest;
    }

abbrev pub with_history : Head → History → Head
with_history h y =
    record {
      window = h.window;
      latency = h.latency;
      dropping = h.dropping;
      clock = h.clock;
      rtt = h.rtt;
      arrivals = h.arrivals;
      links = h.links;
      history = y;
      latest = h.latest;
    }

-- the latest reading of an unrefused call
abbrev pub with_latest : Head → ℤ → Head
with_latest h now =
    record {
      window = h.window;
      latency = h.latency;
      dropping = h.dropping;
      clock = h.clock;
      rtt = h.rtt;
      arrivals = h.arrivals;
      links = h.links;
      history = h.history;
      latest = now;
    }
