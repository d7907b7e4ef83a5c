-- What a head holds by its machine types, as far as its words depend on it: a u32 is under 2^32, an i64 has 64 bits, an array sixteen elements, an f64 is one.
use Rattle.std.specs.Prelude.{◌≡◌, true, List, ℕ, ◌^◌, ◌<◌, T, Float, ℤ, length, Option, Some, None}
use Rattle.std.specs.Float.{binary64}
use Rattle.std.specs.Float.Ieee.{fits}
use Rattle.std.specs.Int.Signed.{mag}
use Rattle.clock.specs.declared.time.SynchronizedRemoteClock.{SynchronizedRemoteClock}
use Rattle.acks.specs.declared.history.History.{History}
use Rattle.intervals.specs.declared.rates.Arrivals.{Arrivals}
use Rattle.intervals.specs.declared.rates.Links.{Links}
use Rattle.acks.specs.declared.rtt.Rtt.{Rtt}
use Rattle.window.specs.declared.Window.{Window}
use Rattle.head.specs.declared.state.Head.{Head}
use Rattle.packing.specs.Packed.{numbers_formed}

abbrev pub Number : ℕ → Type 0
Number n = n < 2 ^ 32

abbrev pub Whole : ℤ → Type 0
Whole z = mag z < 2 ^ 63

abbrev pub Time : Option ℤ → Type 0
Time None = Unit {0}
Time (Some t) = Whole t

abbrev pub Numbers : List ℕ → Type 0
Numbers ns = (length ns ≡ 16) × (numbers_formed ns 0 16 ≡ true)

abbrev pub Double : Float → Type 0
Double x = T (fits binary64 x)

pub record WindowHolds (w : Window) : Type 0 where
  pub seqno0 : Number w.seqno0
  pub lrsn : Number w.lrsn

pub record BaseHolds (k : SynchronizedRemoteClock) : Type 0 where
  pub time : Whole k.base.time
  pub stamp : Number k.base.stamp
  pub last : Time k.last

pub record StatsHolds (k : SynchronizedRemoteClock) : Type 0 where
  pub mean : Double k.stats.mean
  pub squares : Double k.stats.squares
  pub count : Number k.stats.count

pub record RttHolds (t : Rtt) : Type 0 where
  pub mean : Number t.mean
  pub variance : Number t.variance

pub record ArrivalsHolds (a : Arrivals) : Type 0 where
  pub gaps : Numbers a.gaps
  pub sizes : Numbers a.sizes
  pub last : Time a.last

pub record LinksHolds (l : Links) : Type 0 where
  pub gaps : Numbers l.gaps
  pub probe : Time l.probe

pub record HistoryHolds (y : History) : Type 0 where
  pub first : Number y.first
  pub largest : Number y.largest
  pub lastack : Number y.lastack

pub record Holds (h : Head) : Type 0 where
  pub latest : Whole h.latest
  pub latency : Number h.latency
  pub window : WindowHolds h.window
  pub base : BaseHolds h.clock
  pub stats : StatsHolds h.clock
  pub rtt : RttHolds h.rtt
  pub arrivals : ArrivalsHolds h.arrivals
  pub links : LinksHolds h.links
  pub history : HistoryHolds h.history
