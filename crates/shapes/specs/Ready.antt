-- What the functions that write a line need of each other: no rule of 01 of its own.
use Rattle.std.specs.Prelude.{◌≡◌, List, ℕ, ◌+◌, ◌≤◌, length}
use Rattle.text.specs.Put.{put_ended, put_of}

-- Bytes were put, and they are no more than `most`. The equation says which; the bound is that of the types, since the
-- equation has numbers of any size, and whoever keeps the cursor within the output needs it.
pub record Wrote (out : List ℕ) (at : ℕ) (bs : List ℕ) (most r : ℕ) (out₁ : List ℕ) : Type 0 where
  pub bytes : put_ended r out₁ ≡ put_of out at bs
  pub within : r ≤ at + most

-- room for a line, and a word of 01
pub record LineRoom (out : List ℕ) (at : ℕ) (word : List ℕ) : Type 0 where
  pub long : at + 256 ≤ length out
  pub short : length word ≤ 8
