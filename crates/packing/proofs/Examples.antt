-- Worked examples: the words of single values, and all those of a fresh head. Assumes nothing.
use mathlib.Core.Path.{◌≡◌, refl}
use mathlib.Core.Bool.{true, false}
use mathlib.Core.List.{[], ◌∷◌, ◌++◌}
use lib.Ieee.{nan, nan_bits, of_bits, to_bits}
use lib.IntN.{pos, negsuc}
use lib.ListN.{replicate}
use Rattle.numbers.specs.Circular.{wrap}
use Rattle.clock.specs.Base.{fresh_base}
use Rattle.clock.specs.Samples.{no_samples}
use Rattle.clock.specs.Sync.{fresh_clock}
use Rattle.acks.specs.History.{fresh_history}
use Rattle.intervals.specs.Rates.{fresh_arrivals, fresh_links}
use Rattle.acks.specs.Rtt.{fresh_rtt}
use Rattle.head.specs.Head.{fresh_head}
use Rattle.packing.specs.Words.{word_of, bits_of, float_formed, moment_formed}
use Rattle.packing.specs.Packed.{numbers_words, pack_of}

minus_one : word_of (negsuc 0) ≡ 18446744073709551615
unfolding wrap
minus_one = refl

-- 0x7ff8000000000000, which is the one formed word of a NaN
one-nan : bits_of nan ≡ 9221120237041090560
unfolding to_bits
one-nan = refl

one-nan-formed : float_formed 9221120237041090560 ≡ true
unfolding nan_bits
one-nan-formed = refl

other-nan : float_formed 9221120237041090561 ≡ false
unfolding nan_bits
other-nan = refl

-- unset, but with a time
unset-timed : moment_formed 0 5 ≡ false
unset-timed = refl

-- start 5, latency 120,000, dropping, first number 7, capacity 32
fresh-words : pack_of (fresh_head (pos 5) 120000 true 7 32)
    ≡ (5 ∷ 32 ∷ 0 ∷ 0 ∷ 7 ∷ 7 ∷ 120000 ∷ 1 ∷ 5 ∷ replicate 7 0 ++ 10000 ∷ 1000 ∷ replicate 56 0 ++ 0 ∷ 0 ∷ 1 ∷ 7 ∷ 7 ∷ [])
unfolding pack_of numbers_words wrap to_bits of_bits fresh_head fresh_clock fresh_base no_samples fresh_rtt fresh_arrivals fresh_links fresh_history
fresh-words = refl
