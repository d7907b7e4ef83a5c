-- An entry of the window and the three words that hold it: 01, "Head and lent areas".
use Rattle.std.specs.Prelude.{Bool, true, false, cond, List, [], ◌∷◌, ℕ, ◌+◌, ◌*◌, ◌/◌, ◌%◌, ◌^◌, min, eqb, leb, get_or, set}
use Rattle.slots.specs.declared.entry.Entry.{Entry}
use Rattle.slots.specs.declared.entry.Entry.TheVariants.{Lost, Received, GivenUp}

-- word 0: bits 0-1 mark; bits 2-12 length, above 1,456 read as 1,456; bits 13-14 location; bits 15-40 message number
abbrev pub mark_of : ℕ → ℕ
mark_of a = a % 4

abbrev pub length_read : ℕ → ℕ
length_read n = min n 1456

abbrev pub length_of : ℕ → ℕ
length_of a = length_read (a / 4 % 2048)

abbrev pub location_of : ℕ → ℕ
location_of a = a / 8192 % 4

abbrev pub message_of : ℕ → ℕ
message_of a = a / 32768 % 2 ^ 26

-- the mark 0 is lost, 1 received, 2 or 3 given up; word 1 is the timestamp, or k for a lost entry (low 16 bits); word 2 the feedback time, mod 2^60
unfoldable pub entry_of : ℕ → ℕ → ℕ → Entry
entry_of a b c =
    cond (eqb (mark_of a) 0)
    (Lost (b % 2 ^ 16) (c % 2 ^ 60))
    (cond (eqb (mark_of a) 1)
    (Received (length_of a) (location_of a) (message_of a) (b % 2 ^ 32))
    GivenUp)

-- written: given up as 2, word 2 as 0 if received, unused bits as 0
abbrev pub words_of : Entry → List ℕ
words_of (Lost k f) = 0 ∷ k ∷ f ∷ []
words_of (Received n l m t) = (1 + 4 * n + 8192 * l + 32768 * m) ∷ t ∷ 0 ∷ []
words_of GivenUp = 2 ∷ 0 ∷ 0 ∷ []

abbrev pub is_lost : Entry → Bool
is_lost (Lost k f) = true
is_lost (Received n l m t) = false
is_lost GivenUp = false

abbrev pub is_received : Entry → Bool
is_received (Lost k f) = false
is_received (Received n l m t) = true
is_received GivenUp = false

-- three words a slot
unfoldable pub entry_at : List ℕ → ℕ → Entry
entry_at ws s = entry_of (get_or ws (3 * s) 0) (get_or ws (3 * s + 1) 0) (get_or ws (3 * s + 2) 0)

unfoldable pub write_at : List ℕ → ℕ → Entry → List ℕ
write_at ws s e = set (set (set ws (3 * s) (get_or (words_of e) 0 0)) (3 * s + 1) (get_or (words_of e) 1 0)) (3 * s + 2) (get_or (words_of e) 2 0)

-- a report names words 1 and 2 only
unfoldable pub write_report : List ℕ → ℕ → ℕ → ℕ → List ℕ
write_report ws s k f = set (set ws (3 * s + 1) k) (3 * s + 2) f

-- what an entry holds, if it is received; location 0 to 3: 2 = FIRST, 1 = LAST
abbrev pub length_in : Entry → ℕ
length_in (Lost k f) = 0
length_in (Received n l m t) = n
length_in GivenUp = 0

abbrev pub stamp_in : Entry → ℕ
stamp_in (Lost k f) = 0
stamp_in (Received n l m t) = t
stamp_in GivenUp = 0

abbrev pub message_in : Entry → ℕ
message_in (Lost k f) = 0
message_in (Received n l m t) = m
message_in GivenUp = 0

abbrev pub is_first : Entry → Bool
is_first (Lost k f) = false
is_first (Received n l m t) = leb 2 l
is_first GivenUp = false

abbrev pub is_last : Entry → Bool
is_last (Lost k f) = false
is_last (Received n l m t) = eqb (l % 2) 1
is_last GivenUp = false

abbrev pub in_message : ℕ → Entry → Bool
in_message message (Lost k f) = false
in_message message (Received n l m t) = eqb m message
in_message message GivenUp = false
