-- What the code of lib.rt does with one number, as laws over plain values. Assumes nothing.
use mathlib.Core.Path.{◌≡◌, refl, sym, ◌∙◌, ap}
use mathlib.Core.Bool.{Bool, true, false}
use Prim.Native.Nat.{ℕ, ◌-◌, ◌^◌, ◌<◌, ◌≤◌}
use native.Mathlib.Nat.{mod-eq_of_lt}
use native.Mathlib.Omega.{arith}
use borrow.Author.Tests.{le-ltb}
use lib.IntN.{ℤ, pos, negsuc}
use lib.Ieee.{nan, inf, fin, binary64, is_nan, to_bits, Float}
use lib.Signed.{mag}
use mir.Syntax.{w64}
use mir.Val.{Fits, SFits, to_z, of_z, bool_byte}
use mir.Facts.{to_z-of_z, to_z_pos}
use Rattle.numbers.specs.Circular.{signed, wrap}
use Rattle.numbers.proofs.Flags.{by-order, impossible}
use Rattle.numbers.proofs.Signs.{signed_low, signed-only}
use Rattle.head.specs.Paper.{flag}
use Rattle.cells.specs.Cells.{cell, value_cell}

-- a number that fits an i64 is its own cell
pub cell_same : (z : ℤ) → SFits w64 z → z ≡ cell z
unfolding cell
cell_same z f = signed-only 64 z (omega arith) f.sfits

-- what a u64 is congruent to
pub cell-wraps : (n : ℕ) → n < 2 ^ 64 → cell (pos n) ≡ signed 64 n
unfolding cell wrap
cell-wraps n h = ap (signed 64) (mod-eq_of_lt h)

-- below 2^63 it is itself, and from there on as far below -1 as it lies below 2^64 - 1
pub cell-low : (n : ℕ) → n < 2 ^ 63 → cell (pos n) ≡ pos n
cell-low n h = cell-wraps n (omega arith) ∙ signed_low 64 n (omega arith)

pub cell-high : (n : ℕ) → 2 ^ 63 ≤ n → n < 2 ^ 64 → cell (pos n) ≡ negsuc (2 ^ 64 - 1 - n)
unfolding wrap
cell-high n lo hi =
    let m = 2 ^ 64 - 1 - n in
    let l : m < 2 ^ 64 = omega arith in
    let e : 2 ^ 64 - 1 - m ≡ n = omega arith in
    let s : negsuc m ≡ signed 64 (wrap 64 (negsuc m)) = signed-only 64 (negsuc m) (omega arith) (omega arith) in
    cell-wraps n hi ∙ sym (s ∙ ap (signed 64) (ap (λ (k : ℕ). 2 ^ 64 - 1 - k) (mod-eq_of_lt l) ∙ e))

-- a natural number below 2^64 as the machine reads it in an i64
pub reads-signed : (n : ℕ) → Fits w64 n → to_z w64 n ≡ cell (pos n)
reads-signed n f =
    by-order n (2 ^ 63)
    (λ k. to_z_pos w64 k ∙ sym (cell-low n k))
    (λ k. rw (le-ltb n (2 ^ 63) k) (ap negsuc (omega arith) ∙ sym (cell-high n k f.fits)))

-- every NaN has the bits of one
pub nan-bits : (v : Float) → is_nan v ≡ true → 9221120237041090560 ≡ to_bits binary64 v
unfolding is_nan to_bits
nan-bits nan e = refl
nan-bits (inf s) e = impossible (sym e)
nan-bits (fin s m x) e = impossible (sym e)

-- one cell of an answer, as the machine reads it back: a number that fits, one of 64 bits, 1 if it holds
pub own_cell : (y : ℤ) {z : ℤ} → z ≡ y → mag z < 9223372036854775808 → to_z w64 (of_z w64 z) ≡ cell y
own_cell y {z} p f = let g : SFits w64 z = record { sfits = f } in to_z-of_z g ∙ cell_same z g ∙ ap cell p

pub read_cell : {y z : ℤ} → z ≡ y → mag z < 9223372036854775808 → to_z w64 (of_z w64 z) ≡ y
read_cell {y} {z} p f = let g : SFits w64 z = record { sfits = f } in to_z-of_z g ∙ p

flag_value : (b : Bool) → pos (bool_byte b) ≡ value_cell (flag b)
flag_value true = sym (cell-low 1 (omega arith))
flag_value false = sym (cell-low 0 (omega arith))

pub flag_cell : (b : Bool) {z : ℤ} → z ≡ pos (bool_byte b) → mag z < 9223372036854775808 → to_z w64 (of_z w64 z) ≡ value_cell (flag b)
flag_cell b p f = read_cell (p ∙ flag_value b) f
