-- Laws for the loop of `put`. Assumes nothing.
use Rattle.std.proofs.Common.{◌≡◌, ◌∙◌, ap, List, ℕ, ◌+◌, ◌<◌, ◌≤◌, length, get_or, set, length-set, arith, rules}
use native.Mathlib.Numerals.{add-one}
use lib.Seq.{paste, paste-zero, paste-suc}

pub copy_start : (to : List ℕ) (at : ℕ) (from : List ℕ) → to ≡ paste to at from 0
copy_start to at from = paste-zero to at from

pub copy-again : (to₀ : List ℕ) (at : ℕ) (from : List ℕ) (i : ℕ) {to : List ℕ}
    → to ≡ paste to₀ at from i → i < length from → at + length from ≤ length to₀
    → set to (at + i) (get_or from i 0) ≡ paste to₀ at from (i + 1)
copy-again to₀ at from i a h k = rw (a, add-one i) (paste-suc to₀ at from i 0 (omega arith) h)

pub copy-long : (to₀ to : List ℕ) (j x : ℕ) → length to ≡ length to₀ → length (set to j x) ≡ length to₀
copy-long to₀ to j x e = length-set to j x ∙ e

pub copy_done : (to₀ : List ℕ) (at : ℕ) (from : List ℕ) (i : ℕ) {to : List ℕ}
    → to ≡ paste to₀ at from i → i ≤ length from → length from ≤ i
    → to ≡ paste to₀ at from (length from)
copy_done to₀ at from i a h k = let e : i ≡ length from = omega arith in a ∙ ap (paste to₀ at from) e

pub ruleset copies = (copy_start, copy-again, copy-long, copy_done, rules)
