-- How the code writes a head's words: each part at its places, in words that hold anything before. `Packed` says what comes of it.
use Rattle.std.specs.Prelude.{Bool, List, ℕ, zero, suc, ◌+◌, ℤ, get_or, set, replicate}
use Rattle.clock.specs.declared.time.SynchronizedRemoteClock.{SynchronizedRemoteClock}
use Rattle.acks.specs.declared.history.History.{History}
use Rattle.intervals.specs.declared.rates.Arrivals.{Arrivals}
use Rattle.intervals.specs.declared.rates.Links.{Links}
use Rattle.acks.specs.declared.rtt.Rtt.{Rtt}
use Rattle.window.specs.declared.Window.{Window}
use Rattle.head.specs.declared.state.Head.{Head}
use Rattle.packing.specs.Words.{word_of, bits_of, flag_word, number_of, set_word, time_word}

-- the first n of some numbers, from word i on
unfoldable pub put_numbers : List ℕ → ℕ → List ℕ → ℕ → List ℕ
put_numbers ws i ns zero = ws
put_numbers ws i ns (suc n) = set (put_numbers ws i ns n) (i + n) (get_or ns n 0)

-- the first n of sixteen numbers that are read from word i on
unfoldable pub read_numbers : List ℕ → ℕ → ℕ → List ℕ
read_numbers ws i zero = replicate 16 0
read_numbers ws i (suc n) = set (read_numbers ws i n) n (number_of (get_or ws (i + n) 0))

unfoldable pub put_settings : List ℕ → ℤ → ℕ → Bool → List ℕ
put_settings ws latest latency dropping = set (set (set ws 0 (word_of latest)) 6 latency) 7 (flag_word dropping)

unfoldable pub put_window : List ℕ → Window → List ℕ
put_window ws w = set (set (set (set (set ws 1 w.capacity) 2 w.start) 3 w.held) 4 w.seqno0) 5 w.lrsn

-- the clock's time and stamp, and its figures
unfoldable pub put_base : List ℕ → SynchronizedRemoteClock → List ℕ
put_base ws k = set (set (set (set ws 8 (word_of k.base.time)) 9 k.base.stamp) 10 (set_word k.last)) 11 (time_word k.last)

unfoldable pub put_stats : List ℕ → SynchronizedRemoteClock → List ℕ
put_stats ws k = set (set (set (set ws 12 (flag_word k.seen)) 13 (bits_of k.stats.mean)) 14 (bits_of k.stats.squares)) 15 k.stats.count

unfoldable pub put_rtt : List ℕ → Rtt → List ℕ
put_rtt ws t = set (set ws 16 t.mean) 17 t.variance

unfoldable pub put_arrivals : List ℕ → Arrivals → List ℕ
put_arrivals ws a =
    set (set (set (set (put_numbers (put_numbers ws 18 a.gaps 16) 34 a.sizes 16) 50 a.at) 51 a.count) 52 (set_word a.last)) 53 (time_word a.last)

unfoldable pub put_links : List ℕ → Links → List ℕ
put_links ws l = set (set (set (set (put_numbers ws 54 l.gaps 16) 70 l.at) 71 l.count) 72 (set_word l.probe)) 73 (time_word l.probe)

unfoldable pub put_history : List ℕ → History → List ℕ
put_history ws y = set (set (set (set (set ws 74 y.start) 75 y.count) 76 y.first) 77 y.largest) 78 y.lastack

abbrev pub put_head : List ℕ → Head → List ℕ
put_head ws h =
    put_history
    (put_links
    (put_arrivals
    (put_rtt (put_stats (put_base (put_window (put_settings ws h.latest h.latency h.dropping) h.window) h.clock) h.clock) h.rtt)
    h.arrivals)
    h.links)
    h.history
