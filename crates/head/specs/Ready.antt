-- What a call that nothing refused may count on, a test each of 01, "Refused, in order of test": the premises of the functions below the public calls.
use Rattle.std.specs.Prelude.{◌≡◌, true, false, List, ℕ, ◌≤◌, ℤ}
use Rattle.std.specs.Int.Signed.{lt_z}
use Rattle.numbers.specs.Instants.{is_reading}
use Rattle.clock.specs.Ranges.{clock_ok}
use Rattle.acks.specs.Rtt.{rtt_ok}
use Rattle.intervals.specs.Rates.{arrivals_ok, links_ok}
use Rattle.acks.specs.History.{history_ok}
use Rattle.window.specs.Ready.{Good, Bytes, PacketRight}
use Rattle.window.specs.declared.push.Packet.{Packet}
use Rattle.window.specs.Window.{window_ok}
use Rattle.head.specs.declared.state.Head.{Head}

-- the parts of a head in range
pub record InRange (h : Head) : Type 0 where
  pub window : window_ok h.window ≡ true
  pub latency : h.latency ≤ 65535000
  pub clock : clock_ok h.clock ≡ true
  pub rtt : rtt_ok h.rtt ≡ true
  pub arrivals : arrivals_ok h.arrivals ≡ true
  pub links : links_ok h.links ≡ true
  pub history : history_ok h.history ≡ true
  pub latest : is_reading h.latest ≡ true

-- what every call with a reading has
pub record Timed (h : Head) (now : ℤ) : Type 0 where
  pub head : InRange h
  pub reading : is_reading now ≡ true
  pub later : lt_z now h.latest ≡ false

-- a push that nothing refused
pub record PushReady (h : Head) (ws bs : List ℕ) (now : ℤ) (p : Packet) (payload : List ℕ) : Type 0 where
  pub head : InRange h
  pub reading : is_reading now ≡ true
  pub good : Good h.window ws
  pub payloads : Bytes h.window bs
  pub right : PacketRight p payload
