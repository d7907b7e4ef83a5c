-- The history of full ACKs: 01, "Head and lent areas" and "ACKs, RTT, rates".
use Rattle.std.specs.Prelude.{Bool, true, false, ◌&&◌, ◌||◌, cond, List, ℕ, zero, suc, ◌+◌, ◌-◌, ◌*◌, ◌%◌, ◌^◌, eqb, ltb, leb, ℤ, pos, nat_abs, ◌+ℤ◌, get_or, set, Option, Some, None, Result, Ok, Err}
use Rattle.std.specs.Int.Signed.{lt_z}
use Rattle.numbers.specs.Circular.{before, sum}
use Rattle.numbers.specs.Ring.{place_in}
use Rattle.numbers.specs.Instants.{read_by, since_time}
use Rattle.acks.specs.declared.history.History.{History}
use Rattle.acks.specs.declared.history.Acked.{Acked}
use Rattle.acks.specs.declared.history.FasnWorn.{FasnWorn}
use Rattle.acks.specs.declared.history.Answered.{Answered}

-- the history area has 2,048 words, two an entry, i at (start + i) mod 1,024
abbrev pub ack_slot : ℕ → ℕ → ℕ
ack_slot start i = place_in 1024 start i

-- data number mod 2^31
abbrev pub number_at : List ℕ → ℕ → ℕ
number_at a p = get_or a (2 * p) 0 % 2 ^ 31

-- departure mod 2^60; one after `now` is read as `now`
unfoldable pub departure_at : List ℕ → ℕ → ℤ → ℤ
departure_at a p now = read_by now (pos (get_or a (2 * p + 1) 0 % 2 ^ 60))

-- an entry is written whole, its departure as a word, which has no sign; words that no rule names stay
unfoldable pub write_ack : List ℕ → ℕ → ℕ → ℤ → List ℕ
write_ack a p number departure = set (set a (2 * p) number) (2 * p + 1) (nat_abs departure)

-- fresh: start and count 0, ACK number 1, sequence numbers the first
unfoldable pub fresh_history : ℕ → History
fresh_history number = record { start = 0; count = 0; first = 1; largest = number; lastack = number }

-- lrsn is before the newest entry's number, or equal with interval < 2 mean RTT
unfoldable pub is_recent : List ℕ → ℕ → ℤ → ℕ → ℕ → Bool
is_recent a p now mean lrsn =
    before 31 lrsn (number_at a p) || (eqb lrsn (number_at a p) && ltb (since_time now (departure_at a p now)) (2 * mean))

-- none if largest_ack2_dsn = lrsn, or if the newest entry is recent
unfoldable pub none_due : History → List ℕ → ℤ → ℕ → ℕ → Bool
none_due h a now mean lrsn =
    cond (eqb h.largest lrsn) true
    (cond (eqb h.count 0) false (is_recent a (ack_slot h.start (h.count - 1)) now mean lrsn))

-- the newest ACK number; with none held, one before the first
abbrev pub newest_of : History → ℕ
newest_of h = h.first + h.count - 1

-- refusal 13: the newest ACK number is 4,294,967,295
unfoldable pub is_worn : History → Bool
is_worn h = ltb 0 h.count && eqb (newest_of h) 4294967295

-- now > departure + latency + 2 mean RTT; `wait` is the sum of the last two
unfoldable pub is_expired : List ℕ → ℕ → ℤ → ℕ → Bool
is_expired a p now wait = lt_z (departure_at a p now +ℤ pos wait) now

-- of the n entries from entry i on, the first that is not expired, else i + n
unfoldable pub first_kept : List ℕ → ℕ → ℤ → ℕ → ℕ → ℕ → ℕ
first_kept a start now wait i zero = i
first_kept a start now wait i (suc n) = cond (is_expired a (ack_slot start i) now wait) (first_kept a start now wait (i + 1) n) i

-- a history still full loses its oldest
abbrev pub with_oldest : ℕ → ℕ → ℕ
with_oldest count gone = cond (eqb (count - gone) 1024) (gone + 1) gone

-- how many leave the front: while more than one entry, those that are expired, and the oldest if it is still full
unfoldable pub leaving : List ℕ → ℕ → ℕ → ℤ → ℕ → ℕ
leaving a start count now wait = with_oldest count (first_kept a start now wait 0 (count - 1))

-- number the ACK newest + 1, or 1 if the history is empty
unfoldable pub next_ack : History → ℕ
next_ack h = cond (eqb h.count 0) 1 (newest_of h + 1)

-- the first ACK number, after n have left the front
unfoldable pub first_after : History → ℕ → ℕ
first_after h n = cond (eqb h.count 0) 1 (h.first + n)

-- all that a full ACK leaves: its number with the history, or none, or that the history is worn; and the history area
pub record AckOutcome : Type 0 where
  pub acked : Result (Option Acked) FasnWorn
  pub area : List ℕ

abbrev pub ack_ended : Result (Option Acked) FasnWorn → List ℕ → AckOutcome
ack_ended r a = record { acked = r; area = a }

-- an entry leaving the front moves start on; the new one comes after the newest; a full ACK sets last_ack_dsn
abbrev pub grown : History → ℕ → ℕ → History
grown h n lrsn =
    record {
      start = ack_slot h.start n;
      count = h.count - n + 1;
      first = first_after h n;
      largest = h.largest;
      lastack = lrsn;
    }

unfoldable pub append_of : History → List ℕ → ℤ → ℕ → ℕ → AckOutcome
append_of h a now wait lrsn =
    let n = leaving a h.start h.count now wait in
    ack_ended (Ok (Some (record { history = grown h n lrsn; number = next_ack h })))
    (write_ack a (ack_slot (ack_slot h.start n) (h.count - n)) lrsn now)

unfoldable pub full_ack_of : History → List ℕ → ℤ → ℕ → ℕ → ℕ → AckOutcome
full_ack_of h a now mean latency lrsn =
    cond (none_due h a now mean lrsn) (ack_ended (Ok None) a)
    (cond (is_worn h) (ack_ended (Err (record {})) a)
    (append_of h a now (latency + 2 * mean) lrsn))

-- the history with other sequence numbers
abbrev pub with_largest : History → ℕ → History
with_largest h l = record { start = h.start; count = h.count; first = h.first; largest = l; lastack = h.lastack }

abbrev pub with_last : History → ℕ → History
with_last h l = record { start = h.start; count = h.count; first = h.first; largest = h.largest; lastack = l }

-- an ACK number from the first to the newest
abbrev pub is_held : History → ℕ → Bool
is_held h number = leb h.first number && ltb number (h.first + h.count)

-- ACK2 of a held ACK sets largest_ack2_dsn to its number, even downwards (r: interval since departure)
unfoldable pub ack2_of : History → List ℕ → ℤ → ℕ → Option Answered
ack2_of h a now number =
    let p = ack_slot h.start (number - h.first) in
    cond (is_held h number) (Some (record { history = with_largest h (number_at a p); r = since_time now (departure_at a p now) })) None

-- light ACK: lrsn at last_ack_dsn + 64 or after; it sets last_ack_dsn
unfoldable pub light_ack_of : History → ℕ → Option History
light_ack_of h lrsn = cond (before 31 lrsn (sum 31 h.lastack 64)) None (Some (with_last h lrsn))

-- clear only sets history count to 0 and largest_ack2_dsn to lrsn
unfoldable pub cleared_of : History → ℕ → History
cleared_of h lrsn = record { start = h.start; count = 0; first = h.first; largest = lrsn; lastack = h.lastack }

-- history start (0..1,023), count (0..1,024), first ACK number (1 or more; it and the newest at most 4,294,967,295), largest_ack2_dsn, last_ack_dsn
unfoldable pub history_ok : History → Bool
history_ok h =
    ltb h.start 1024
    && leb h.count 1024
    && leb 1 h.first
    && leb h.first 4294967295
    && leb (newest_of h) 4294967295
    && ltb h.largest (2 ^ 31)
    && ltb h.lastack (2 ^ 31)
