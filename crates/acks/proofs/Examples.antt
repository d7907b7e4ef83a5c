-- Worked examples of 01, "ACKs, RTT, rates", computed from the definitions. Assumes nothing.
use mathlib.Core.Path.{◌≡◌, refl}
use mathlib.Core.List.{List}
use Prim.Native.Nat.{ℕ}
use lib.IntN.{pos}
use Rattle.std.specs.Prelude.{Some, None, Ok, Err}
use lib.ListN.{replicate}
use Rattle.numbers.specs.Circular as circular
use Rattle.numbers.specs.Instants as instants
use Rattle.acks.specs.History.{departure_at, write_ack, fresh_history, is_recent, none_due, is_worn, is_expired, first_kept, leaving, next_ack, first_after, AckOutcome, append_of, full_ack_of, ack2_of, light_ack_of, cleared_of}
use Rattle.acks.specs.Rtt.{fresh_rtt, updated}
use Rattle.acks.specs.declared.history.History.{History}

-- P2: RTT 18,000 from fresh
pub p2 : updated fresh_rtt 18000 ≡ record { mean = 11000; variance = 2500 }
unfolding updated fresh_rtt
p2 = refl

abbrev history : ℕ → ℕ → ℕ → ℕ → ℕ → History
history start count first largest lastack = record { start = start; count = count; first = first; largest = largest; lastack = lastack }

-- a first full ACK, of lrsn 5 at 1,000, with mean 10,000 and latency 0
abbrev one : AckOutcome
one = full_ack_of (fresh_history 0) (replicate 6 0) (pos 1000) 10000 0 5

one-ack : one.acked ≡ Ok (Some (record { history = history 0 1 1 0 5; number = 1 }))
unfolding departure_at is_expired is_recent full_ack_of none_due is_worn append_of leaving first_kept next_ack first_after fresh_history
one-ack = refl

-- of the same lrsn none before 2 mean RTT have passed, and one then
too-soon : (full_ack_of (history 0 1 1 0 5) one.area (pos 20999) 10000 0 5).acked ≡ Ok None
unfolding departure_at is_expired is_recent full_ack_of none_due is_worn append_of write_ack leaving first_kept next_ack first_after fresh_history circular.before circular.equal circular.after circular.distance instants.since_time instants.interval_of instants.clamp
too-soon = refl

soon-enough : (full_ack_of (history 0 1 1 0 5) one.area (pos 21000) 10000 0 5).acked ≡ Ok (Some (record { history = history 0 2 1 0 5; number = 2 }))
unfolding departure_at is_expired is_recent full_ack_of none_due is_worn append_of write_ack leaving first_kept next_ack first_after fresh_history circular.before circular.equal circular.after circular.distance instants.since_time instants.interval_of instants.clamp
soon-enough = refl

-- its ACK2 at 19,000 sets largest_ack2_dsn to 5, and r is 18,000; an ACK that is not held changes nothing
answered : ack2_of (history 0 1 1 0 5) one.area (pos 19000) 1 ≡ Some (record { history = history 0 1 1 5 5; r = 18000 })
unfolding departure_at is_expired is_recent ack2_of full_ack_of none_due is_worn append_of write_ack leaving first_kept next_ack first_after fresh_history instants.since_time instants.interval_of instants.clamp
answered = refl

not-answered : (a : List ℕ) → ack2_of (history 0 1 1 0 5) a (pos 19000) 2 ≡ None
unfolding departure_at ack2_of
not-answered a = refl

-- the last number is worn while it is held; after a clear the next full ACK is 1 (A31, A50)
worn : (full_ack_of (history 3 1 4294967295 0 5) (replicate 10 0) (pos 1000) 0 0 6).acked ≡ Err (record {})
unfolding departure_at is_recent full_ack_of none_due is_worn circular.before circular.equal circular.after circular.distance
worn = refl

anew : (full_ack_of (cleared_of (history 3 1 4294967295 0 5) 6) (replicate 10 0) (pos 1000) 0 0 7).acked ≡ Ok (Some (record { history = history 3 1 1 6 7; number = 1 }))
unfolding departure_at is_expired is_recent full_ack_of none_due is_worn append_of leaving first_kept next_ack first_after cleared_of
anew = refl

-- two entries at 0: the front leaves after latency + 2 mean RTT, not at it, and the newest stays however old it is (A51)
waits : leaving (replicate 8 0) 0 2 (pos 30) 30 ≡ 0
unfolding departure_at is_expired leaving first_kept
waits = refl

leaves : leaving (replicate 8 0) 0 2 (pos 31) 30 ≡ 1
unfolding departure_at is_expired leaving first_kept
leaves = refl

-- a light ACK at 64, not at 63, over the wrap
no-light : light_ack_of (history 0 0 1 0 2147483640) 55 ≡ None
unfolding light_ack_of circular.before circular.equal circular.after circular.distance circular.sum
no-light = refl

light : light_ack_of (history 0 0 1 0 2147483640) 56 ≡ Some (history 0 0 1 0 56)
unfolding light_ack_of circular.before circular.equal circular.after circular.distance circular.sum
light = refl
