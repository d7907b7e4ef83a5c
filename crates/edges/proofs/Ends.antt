-- Both sides of each range of the head and of making, and how words with more bits than they need are read: 01, "Head
-- and lent areas". Computed from the definitions. Assumes nothing.
use mathlib.Core.Path.{◌≡◌, refl}
use mathlib.Core.Bool.{Bool, true, false}
use mathlib.Core.List.{List, [], ◌∷◌, ◌++◌, map}
use Prim.Native.Nat.{ℕ, ◌+◌, ◌-◌, ◌*◌, ◌^◌}
use lib.Ieee as ieee
use lib.IntN.{ℤ, pos, negsuc}
use lib.ListN.{replicate, set}
use Rattle.std.specs.Prelude.{Option, Some, None, Result, Ok, Err}
use Rattle.clock.specs.Base as base
use Rattle.clock.specs.Ranges as ranges
use Rattle.clock.specs.Samples as samples
use Rattle.clock.specs.Sync as sync
use Rattle.acks.specs.History as history
use Rattle.acks.specs.Rtt as rtt
use Rattle.intervals.specs.Rates as rates
use Rattle.slots.specs.Words.{entry_of, write_at}
use Rattle.slots.specs.Ring.{with_payload}
use Rattle.slots.specs.declared.entry.Entry.TheVariants.{Lost, Received}
use Rattle.head.specs.Head.{head_ok, fresh_head, made_of}
use Rattle.head.specs.Parts.{with_window, with_clock, with_rtt, with_rates, with_history, with_latest}
use Rattle.head.specs.Rules.{number_of}
use Rattle.head.specs.declared.refusal.Refusal.{Refusal}
use Rattle.head.specs.declared.state.Head.{Head}

-- a head, and whether its numbers are in their ranges
record End : Type 0 where
  head : Head
  ok : Bool

abbrev inside : Head → End
inside h = record { head = h; ok = true }

abbrev outside : Head → End
outside h = record { head = h; ok = false }

abbrev fresh : Head
fresh = fresh_head (pos 0) 0 true 0 8

-- capacity, start, held, seqno0, lrsn: all at their upper ends, and at their lower ones with one held; capacity 0 and
-- 8,193; start at capacity, held past it; numbers of 2^31
abbrev windowed : ℕ → ℕ → ℕ → ℕ → ℕ → Head
windowed capacity start held front lrsn = with_window fresh (record { capacity = capacity; start = start; held = held; seqno0 = front; lrsn = lrsn })

abbrev windows : List End
windows =
    inside (windowed 8192 8191 8192 2147483647 2147483647)
    ∷ inside (windowed 1 0 1 0 0)
    ∷ outside (windowed 0 0 0 0 0)
    ∷ outside (windowed 8193 0 0 0 0)
    ∷ outside (windowed 8 8 0 0 0)
    ∷ outside (windowed 8 0 9 0 0)
    ∷ outside (windowed 8 0 0 2147483648 0)
    ∷ outside (windowed 8 0 0 0 2147483648)
    ∷ []

-- the latency
abbrev delayed : ℕ → Head
delayed latency = fresh_head (pos 0) latency true 0 8

abbrev delays : List End
delays =
    inside (delayed 0)
    ∷ inside (delayed 65535000)
    ∷ outside (delayed 65535001)
    ∷ []

-- reference time, last released time, drift samples
abbrev clocked : ℤ → Option ℤ → ℕ → Head
clocked time last count =
    with_clock fresh (record { base = record { time = time; stamp = 0 }; last = last; seen = true; stats = record { mean = (samples.no_samples).mean; squares = (samples.no_samples).squares; count = count } })

abbrev clocks : List End
clocks =
    inside (clocked (pos (2 ^ 61)) (Some (pos (2 ^ 61 + 2 ^ 31))) 999)
    ∷ inside (clocked (negsuc (2 ^ 61 - 1)) (Some (negsuc (2 ^ 61 + 2 ^ 31 - 1))) 0)
    ∷ outside (clocked (pos (2 ^ 61 + 1)) None 0)
    ∷ outside (clocked (negsuc (2 ^ 61)) None 0)
    ∷ outside (clocked (pos 0) (Some (pos (2 ^ 61 + 2 ^ 31 + 1))) 0)
    ∷ outside (clocked (pos 0) (Some (negsuc (2 ^ 61 + 2 ^ 31))) 0)
    ∷ outside (clocked (pos 0) None 1000)
    ∷ []

-- both figures of the round trip
abbrev tripped : ℕ → ℕ → Head
tripped mean variance = with_rtt fresh (record { mean = mean; variance = variance })

abbrev trips : List End
trips =
    inside (tripped 2147483647 2147483647)
    ∷ outside (tripped 2147483648 0)
    ∷ outside (tripped 0 2147483648)
    ∷ []

-- the window of arrivals: an interval and a size in it, the next place, the count, the last arrival; a place that is
-- not in the window may hold anything
abbrev arrived : ℕ → ℕ → ℕ → ℕ → Option ℤ → Head
arrived gap size at count last =
    with_rates fresh (record { gaps = set (replicate 16 0) 0 gap; sizes = set (replicate 16 0) 0 size; at = at; count = count; last = last }) rates.fresh_links

abbrev arrivals : List End
arrivals =
    inside (arrived 2147483647 1456 15 16 (Some (pos (2 ^ 60 - 1))))
    ∷ inside (arrived 2147483648 1457 1 0 None)
    ∷ outside (arrived 2147483648 0 1 1 None)
    ∷ outside (arrived 0 1457 1 1 None)
    ∷ outside (arrived 0 0 16 0 None)
    ∷ outside (arrived 0 0 0 17 None)
    ∷ outside (arrived 0 0 0 0 (Some (pos (2 ^ 60))))
    ∷ outside (arrived 0 0 0 0 (Some (negsuc 0)))
    ∷ []

-- the window of pairs likewise
abbrev paired : ℕ → ℕ → ℕ → Option ℤ → Head
paired gap at count probe = with_rates fresh rates.fresh_arrivals (record { gaps = set (replicate 16 0) 0 gap; at = at; count = count; probe = probe })

abbrev pairs : List End
pairs =
    inside (paired 2147483647 15 16 (Some (pos (2 ^ 60 - 1))))
    ∷ inside (paired 2147483648 1 0 None)
    ∷ outside (paired 2147483648 1 1 None)
    ∷ outside (paired 0 16 0 None)
    ∷ outside (paired 0 0 17 None)
    ∷ outside (paired 0 0 0 (Some (pos (2 ^ 60))))
    ∷ outside (paired 0 0 0 (Some (negsuc 0)))
    ∷ []

-- history start, count, first ACK number and with it the newest, largest_ack2_dsn, last_ack_dsn
abbrev recorded : ℕ → ℕ → ℕ → ℕ → ℕ → Head
recorded start count first largest lastack = with_history fresh (record { start = start; count = count; first = first; largest = largest; lastack = lastack })

abbrev histories : List End
histories =
    inside (recorded 1023 1024 4294966272 2147483647 2147483647)
    ∷ inside (recorded 0 1 4294967295 0 0)
    ∷ outside (recorded 1024 0 1 0 0)
    ∷ outside (recorded 0 1025 1 0 0)
    ∷ outside (recorded 0 0 0 0 0)
    ∷ outside (recorded 0 1024 4294966273 0 0)
    ∷ outside (recorded 0 0 4294967296 0 0)
    ∷ outside (recorded 0 0 1 2147483648 0)
    ∷ outside (recorded 0 0 1 0 2147483648)
    ∷ []

-- the latest reading
abbrev read_at : ℤ → Head
read_at now = with_latest fresh now

abbrev readings : List End
readings =
    inside (read_at (pos (2 ^ 60 - 1)))
    ∷ outside (read_at (pos (2 ^ 60)))
    ∷ outside (read_at (negsuc 0))
    ∷ []

abbrev ends : List End
ends = windows ++ delays ++ clocks ++ trips ++ arrivals ++ pairs ++ histories ++ readings

ends-hold : map (λ (e : End). head_ok e.head) ends ≡ map (λ (e : End). e.ok) ends
unfolding head_ok fresh_head sync.fresh_clock base.fresh_base ieee.fits samples.no_samples rates.fresh_arrivals rates.fresh_links history.fresh_history rtt.fresh_rtt ranges.clock_ok rtt.rtt_ok rates.arrivals_ok rates.links_ok rates.window_of rates.all_under history.history_ok
ends-hold = refl

-- making: start, latency, first number and capacity, and the refusal
record Making : Type 0 where
  start : ℤ
  latency : ℕ
  first : ℕ
  capacity : ℕ
  refusal : ℕ

abbrev making : ℤ → ℕ → ℕ → ℕ → ℕ → Making
making start latency first capacity n = record { start = start; latency = latency; first = first; capacity = capacity; refusal = n }

-- all at their lower ends, all at their upper ends, and each past an end
abbrev makings : List Making
makings =
    making (pos 0) 0 0 1 0
    ∷ making (pos (2 ^ 60 - 1)) 65535000 2147483647 8192 0
    ∷ making (negsuc 0) 0 0 1 15
    ∷ making (pos (2 ^ 60)) 0 0 1 15
    ∷ making (pos 0) 65535001 0 1 15
    ∷ making (pos 0) 0 2147483648 1 15
    ∷ making (pos 0) 0 0 0 15
    ∷ making (pos 0) 0 0 8193 15
    ∷ []

-- the number of a refusal, and 0 if there is none
abbrev refusal_in : Result Head Refusal → ℕ
refusal_in (Ok h) = 0
refusal_in (Err e) = number_of e

makings-judged :
    map (λ (m : Making). refusal_in (made_of m.start m.latency true m.first m.capacity)) makings ≡ map (λ (m : Making). m.refusal) makings
unfolding made_of
makings-judged = refl

-- a slot's words: a length above 1,456 is read as 1,456; of k the low 16 bits, of a feedback time those under 2^60; all
-- other bits are ignored
lengths_read : (entry_of (1 + 4 * 1456) 0 0 ∷ entry_of (1 + 4 * 1457) 0 0 ∷ entry_of (1 + 4 * 2047) 0 0 ∷ []) ≡ (Received 1456 0 0 0 ∷ Received 1456 0 0 0 ∷ Received 1456 0 0 0 ∷ [])
unfolding entry_of
lengths_read = refl

losses-read : (entry_of 0 65535 (2 ^ 60 - 1) ∷ entry_of 0 65536 (2 ^ 60) ∷ entry_of (2 ^ 41) (2 ^ 64 - 1) (2 ^ 64 - 1) ∷ []) ≡ (Lost 65535 (2 ^ 60 - 1) ∷ Lost 0 0 ∷ Lost 65535 (2 ^ 60 - 1) ∷ [])
unfolding entry_of
losses-read = refl

others-ignored : entry_of (1 + 4 * 10 + 8192 * 3 + 32768 * 7 + 2 ^ 41) (2 ^ 32 + 5) 9 ≡ Received 10 3 7 5
unfolding entry_of
others-ignored = refl

-- and written 0, as word 2 is of a received entry
others-written : (write_at (replicate 3 (2 ^ 64 - 1)) 0 (Lost 2 5) ++ write_at (replicate 3 (2 ^ 64 - 1)) 0 (Received 10 3 7 5)) ≡ (0 ∷ 2 ∷ 5 ∷ 253993 ∷ 5 ∷ 0 ∷ [])
unfolding write_at
others-written = refl

-- a payload leaves the bytes past its length
bytes_past : with_payload (replicate 1460 9) 0 (1 ∷ 2 ∷ []) ≡ (1 ∷ 2 ∷ replicate 1458 9)
bytes_past = refl

-- a departure after `now` is read as `now`; of its word those bits count that are under 2^60, of a data number those
-- under 2^31
departures-read :
    (history.departure_at (0 ∷ 1000 ∷ []) 0 (pos 1000) ∷ history.departure_at (0 ∷ 1001 ∷ []) 0 (pos 1000) ∷ history.departure_at (0 ∷ (2 ^ 60 + 5) ∷ []) 0 (pos 1000) ∷ pos (history.number_at ((2 ^ 31 + 3) ∷ 0 ∷ []) 0) ∷ [])
    ≡ (pos 1000 ∷ pos 1000 ∷ pos 5 ∷ pos 3 ∷ [])
unfolding history.departure_at
departures-read = refl
