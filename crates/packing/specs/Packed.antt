-- A head as 79 words, and the head that words say. The words go in the order of 01, "Head and lent areas", but that the latest reading comes first and the
-- settings latency and late dropping stand after the window's numbers. Words that are not formed say a head of capacity 0, which is out of range, so that every
-- call refuses it with 1.
use Rattle.std.specs.Prelude.{Bool, true, ◌&&◌, cond, List, [], ◌∷◌, ◌++◌, map, ℕ, zero, suc, ◌+◌, get_or}
use Rattle.clock.specs.declared.base.TimeBase.{TimeBase}
use Rattle.clock.specs.declared.stats.OnlineStats.{OnlineStats}
use Rattle.clock.specs.declared.time.SynchronizedRemoteClock.{SynchronizedRemoteClock}
use Rattle.acks.specs.declared.history.History.{History}
use Rattle.intervals.specs.declared.rates.Arrivals.{Arrivals}
use Rattle.intervals.specs.declared.rates.Links.{Links}
use Rattle.acks.specs.declared.rtt.Rtt.{Rtt}
use Rattle.window.specs.declared.Window.{Window}
use Rattle.head.specs.Head as heads
use Rattle.head.specs.declared.state.Head.{Head}
use Rattle.packing.specs.Words.{word_of, whole_of, bits_of, float_of, flag_word, flag_of, number_of, set_word, time_word, moment_of, number_formed, flag_formed, float_formed, moment_formed}

-- element i, and sixteen elements
abbrev pub at : List ℕ → ℕ → ℕ
at ws i = get_or ws i 0

abbrev pub sixteen : List ℕ
sixteen = 0 ∷ 1 ∷ 2 ∷ 3 ∷ 4 ∷ 5 ∷ 6 ∷ 7 ∷ 8 ∷ 9 ∷ 10 ∷ 11 ∷ 12 ∷ 13 ∷ 14 ∷ 15 ∷ []

unfoldable pub numbers_words : List ℕ → List ℕ
numbers_words ns = map (at ns) sixteen

-- the words of each part
abbrev pub window_words : Window → List ℕ
window_words w = w.capacity ∷ w.start ∷ w.held ∷ w.seqno0 ∷ w.lrsn ∷ []

abbrev pub clock_words : SynchronizedRemoteClock → List ℕ
clock_words k =
    word_of k.base.time
    ∷ k.base.stamp
    ∷ set_word k.last
    ∷ time_word k.last
    ∷ flag_word k.seen
    ∷ bits_of k.stats.mean
    ∷ bits_of k.stats.squares
    ∷ k.stats.count
    ∷ []

abbrev pub rtt_words : Rtt → List ℕ
rtt_words t = t.mean ∷ t.variance ∷ []

abbrev pub arrivals_words : Arrivals → List ℕ
arrivals_words a = numbers_words a.gaps ++ numbers_words a.sizes ++ a.at ∷ a.count ∷ set_word a.last ∷ time_word a.last ∷ []

abbrev pub links_words : Links → List ℕ
links_words l = numbers_words l.gaps ++ l.at ∷ l.count ∷ set_word l.probe ∷ time_word l.probe ∷ []

abbrev pub history_words : History → List ℕ
history_words y = y.start ∷ y.count ∷ y.first ∷ y.largest ∷ y.lastack ∷ []

unfoldable pub pack_of : Head → List ℕ
pack_of h =
    (word_of h.latest ∷ window_words h.window ++ h.latency ∷ flag_word h.dropping ∷ clock_words h.clock ++ rtt_words h.rtt)
    ++ arrivals_words h.arrivals
    ++ links_words h.links
    ++ history_words h.history

-- sixteen numbers, from word i on
unfoldable pub sixteen_of : List ℕ → ℕ → List ℕ
sixteen_of ws i = map (λ k. number_of (at ws (i + k))) sixteen

-- each part that the words say
abbrev pub window_of : List ℕ → Window
window_of ws = record { capacity = at ws 1; start = at ws 2; held = at ws 3; seqno0 = number_of (at ws 4); lrsn = number_of (at ws 5) }

abbrev pub base_of : List ℕ → TimeBase
base_of ws = record { time = whole_of (at ws 8); stamp = number_of (at ws 9) }

abbrev pub stats_of : List ℕ → OnlineStats
stats_of ws = record { mean = float_of (at ws 13); squares = float_of (at ws 14); count = number_of (at ws 15) }

abbrev pub clock_of : List ℕ → SynchronizedRemoteClock
clock_of ws = record { base = base_of ws; last = moment_of (at ws 10) (at ws 11); seen = flag_of (at ws 12); stats = stats_of ws }

abbrev pub rtt_of : List ℕ → Rtt
rtt_of ws = record { mean = number_of (at ws 16); variance = number_of (at ws 17) }

abbrev pub arrivals_of : List ℕ → Arrivals
arrivals_of ws = record { gaps = sixteen_of ws 18; sizes = sixteen_of ws 34; at = at ws 50; count = at ws 51; last = moment_of (at ws 52) (at ws 53) }

abbrev pub links_of : List ℕ → Links
links_of ws = record { gaps = sixteen_of ws 54; at = at ws 70; count = at ws 71; probe = moment_of (at ws 72) (at ws 73) }

abbrev pub history_of : List ℕ → History
history_of ws = record { start = at ws 74; count = at ws 75; first = number_of (at ws 76); largest = number_of (at ws 77); lastack = number_of (at ws 78) }

unfoldable pub head_of : List ℕ → Head
head_of ws =
    record {
      latest = whole_of (at ws 0);
      window = window_of ws;
      latency = number_of (at ws 6);
      dropping = flag_of (at ws 7);
      clock = clock_of ws;
      rtt = rtt_of ws;
      arrivals = arrivals_of ws;
      links = links_of ws;
      history = history_of ws;
    }

-- n words from word i on are numbers
unfoldable pub numbers_formed : List ℕ → ℕ → ℕ → Bool
numbers_formed ws i zero = true
numbers_formed ws i (suc n) = numbers_formed ws i n && number_formed (at ws (i + n))

-- the words of the window, the settings and the clock; of the rates; of the round trip, the rates' times and the history
abbrev pub first_formed : List ℕ → Bool
first_formed ws =
    number_formed (at ws 4)
    && number_formed (at ws 5)
    && number_formed (at ws 6)
    && flag_formed (at ws 7)
    && number_formed (at ws 9)
    && moment_formed (at ws 10) (at ws 11)
    && flag_formed (at ws 12)
    && float_formed (at ws 13)
    && float_formed (at ws 14)
    && number_formed (at ws 15)

abbrev pub rates_formed : List ℕ → Bool
rates_formed ws = numbers_formed ws 18 16 && numbers_formed ws 34 16 && numbers_formed ws 54 16

abbrev pub last_formed : List ℕ → Bool
last_formed ws =
    number_formed (at ws 16)
    && number_formed (at ws 17)
    && moment_formed (at ws 52) (at ws 53)
    && moment_formed (at ws 72) (at ws 73)
    && number_formed (at ws 76)
    && number_formed (at ws 77)
    && number_formed (at ws 78)

unfoldable pub formed : List ℕ → Bool
formed ws = first_formed ws && last_formed ws && rates_formed ws

abbrev pub nowhere : Head
nowhere = heads.nowhere

unfoldable pub unpack_of : List ℕ → Head
unpack_of ws = cond (formed ws) (head_of ws) nowhere
