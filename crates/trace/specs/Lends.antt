-- What a program lends for a trace, whose capacity is at most 32: 01, "Head and lent areas", asks for three words and
-- 1,456 bytes a slot and for 2,048 words of history. A message has at most 32 packets, and a report at most 32 words.
-- The theorem `replay-areas` says that this is enough.
use Rattle.std.specs.Prelude.{◌≡◌, ℕ, length, replicate}
use Rattle.trace.specs.Trace.{Areas}

abbrev pub most_capacity : ℕ
most_capacity = 32

-- 3 × 32 words, 1,456 × 32 bytes, 2 × 1,024 words; a whole message; and twice the words of the longest report
abbrev pub slots_lent : ℕ
slots_lent = 96

abbrev pub payloads_lent : ℕ
payloads_lent = 46592

abbrev pub history_lent : ℕ
history_lent = 2048

abbrev pub output_lent : ℕ
output_lent = 46592

abbrev pub list_lent : ℕ
list_lent = 64

-- areas of these lengths, whatever they hold
pub record AreasLent (a : Areas) : Type 0 where
  pub slots : length a.slots ≡ slots_lent
  pub payloads : length a.payloads ≡ payloads_lent
  pub history : length a.history ≡ history_lent
  pub output : length a.output ≡ output_lent
  pub list : length a.list ≡ list_lent

-- as the program makes them
abbrev pub areas_made : Areas
areas_made =
    record {
      slots = replicate slots_lent 0;
      payloads = replicate payloads_lent 0;
      history = replicate history_lent 0;
      output = replicate output_lent 0;
      list = replicate list_lent 0;
    }
