-- The refusals as data: 01, "Refused, in order of test". A call has a list of tests, each with its refusal; the first that holds answers.
use Rattle.std.specs.Prelude.{Bool, not, cond, List, [], ◌∷◌, ℕ, ◌*◌, ◌^◌, ltb, leb, ℤ, Result, Ok, Err}
use Rattle.std.specs.Int.Signed.{lt_z}
use Rattle.numbers.specs.Instants.{is_reading}
use Rattle.window.specs.declared.push.Packet.{Packet}
use Rattle.window.specs.declared.push.PushRefusal.{PushRefusal}
use Rattle.window.specs.declared.push.PushRefusal.TheVariants as pushes
use Rattle.head.specs.declared.refusal.Refusal.{Refusal}
use Rattle.head.specs.declared.refusal.Refusal.TheVariants.{HeadBad, AreaShort, ClockRange, ClockBack, BadNumber, PayloadLong, BufferFull, PacketTooEarly, PacketTooLate, DiscardedDuplicate, OutShort, ListShort, FasnWorn, DriftRange, BadSetting}

-- each has a number
abbrev pub number_of : Refusal → ℕ
number_of HeadBad = 1
number_of AreaShort = 2
number_of ClockRange = 3
number_of ClockBack = 4
number_of BadNumber = 5
number_of PayloadLong = 6
number_of BufferFull = 7
number_of (PacketTooEarly room need) = 8
number_of PacketTooLate = 9
number_of DiscardedDuplicate = 10
number_of OutShort = 11
number_of ListShort = 12
number_of FasnWorn = 13
number_of DriftRange = 14
number_of BadSetting = 15

-- the refusals of a push, 7 to 10; 8 returns both of its numbers
abbrev pub push_refused : PushRefusal → Refusal
push_refused pushes.BufferFull = BufferFull
push_refused (pushes.PacketTooEarly room need) = PacketTooEarly room need
push_refused pushes.PacketTooLate = PacketTooLate
push_refused pushes.DiscardedDuplicate = DiscardedDuplicate

pub record Rule : Type 0 where
  pub bad : Bool
  pub refusal : Refusal

abbrev pub rule : Bool → Refusal → Rule
rule bad e = record { bad = bad; refusal = e }

-- the first test that holds refuses; Ok if none does
abbrev pub first_refusal : List Rule → Result Unit Refusal
first_refusal [] = Ok tt
first_refusal (r ∷ rs) = cond r.bad (Err r.refusal) (first_refusal rs)

-- one test
abbrev pub tested : Rule → Result Unit Refusal
tested r = first_refusal (r ∷ [])

-- a call by its tests: what it does if nothing refuses, else the refusal
abbrev pub judged : {A : Type 0} → Result Unit Refusal → A → (Refusal → A) → A
judged (Ok _) taken refused = taken
judged (Err e) taken refused = refused e

-- 1 HeadBad: a head number is outside its range
abbrev pub head_rule : Bool → Rule
head_rule ok = rule (not ok) HeadBad

-- 2 AreaShort: an area is shorter than the capacity or 2,048 words require
abbrev pub short_rule : ℕ → ℕ → Rule
short_rule len need = rule (ltb len need) AreaShort

-- 3 ClockRange: now is outside its range
abbrev pub reading_rule : ℤ → Rule
reading_rule now = rule (not (is_reading now)) ClockRange

-- 4 ClockBack: now is before the latest reading of an unrefused call
abbrev pub back_rule : ℤ → ℤ → Rule
back_rule now latest = rule (lt_z now latest) ClockBack

-- 5 BadNumber: a sequence or message number or location is outside its range
abbrev pub number_rule : ℕ → Rule
number_rule n = rule (leb (2 ^ 31) n) BadNumber

abbrev pub message_rule : ℕ → Rule
message_rule m = rule (leb (2 ^ 26) m) BadNumber

abbrev pub location_rule : ℕ → Rule
location_rule l = rule (leb 4 l) BadNumber

-- 6 PayloadLong: over 1,456 bytes
abbrev pub length_rule : ℕ → Rule
length_rule n = rule (ltb 1456 n) PayloadLong

-- a call tests only what it takes: head, areas, reading, numbers, in this order
abbrev pub push_rules : Bool → ℕ → ℕ → ℕ → ℤ → ℤ → Packet → ℕ → List Rule
push_rules ok capacity words bytes now latest p len =
    head_rule ok
    ∷ short_rule words (3 * capacity)
    ∷ short_rule bytes (1456 * capacity)
    ∷ reading_rule now
    ∷ back_rule now latest
    ∷ number_rule p.number
    ∷ message_rule p.message
    ∷ location_rule p.location
    ∷ length_rule len
    ∷ []

-- pop takes both areas; a loss report the slots; ACK and ACK2 the history; each a reading
abbrev pub pop_rules : Bool → ℕ → ℕ → ℕ → ℤ → ℤ → List Rule
pop_rules ok capacity words bytes now latest =
    head_rule ok ∷ short_rule words (3 * capacity) ∷ short_rule bytes (1456 * capacity) ∷ reading_rule now ∷ back_rule now latest ∷ []

abbrev pub timed_rules : Bool → ℕ → ℕ → ℤ → ℤ → List Rule
timed_rules ok len need now latest = head_rule ok ∷ short_rule len need ∷ reading_rule now ∷ back_rule now latest ∷ []

abbrev pub drop_rules : Bool → ℕ → ℕ → ℕ → ℕ → List Rule
drop_rules ok capacity words first last =
    head_rule ok ∷ short_rule words (3 * capacity) ∷ number_rule first ∷ number_rule last ∷ []

abbrev pub show_rules : Bool → ℕ → ℕ → ℕ → ℕ → List Rule
show_rules ok capacity words bytes number =
    head_rule ok ∷ short_rule words (3 * capacity) ∷ short_rule bytes (1456 * capacity) ∷ number_rule number ∷ []

abbrev pub clock_rules : Bool → ℤ → ℤ → List Rule
clock_rules ok now latest = head_rule ok ∷ reading_rule now ∷ back_rule now latest ∷ []

abbrev pub head_rules : Bool → List Rule
head_rules ok = head_rule ok ∷ []

-- 15 BadSetting, the only test in making: a setting, start or first number is out of range
abbrev pub make_rules : ℤ → ℕ → ℕ → ℕ → List Rule
make_rules start latency first capacity =
    rule (not (is_reading start)) BadSetting
    ∷ rule (ltb 65535000 latency) BadSetting
    ∷ rule (leb (2 ^ 31) first) BadSetting
    ∷ rule (ltb capacity 1) BadSetting
    ∷ rule (ltb 8192 capacity) BadSetting
    ∷ []
