-- Bytes put into a lent output at a cursor: the bytes before and behind stay, and the cursor moves behind them.
use Rattle.std.specs.Prelude.{List, ◌++◌, ℕ, ◌+◌, length, take, drop}

unfoldable pub put : List ℕ → ℕ → List ℕ → List ℕ
put out at bs = take at out ++ bs ++ drop (at + length bs) out

-- what a put leaves: the cursor and the output
pub record Put : Type 0 where
  pub cursor : ℕ
  pub area : List ℕ

abbrev pub put_ended : ℕ → List ℕ → Put
put_ended cursor out = record { cursor = cursor; area = out }

unfoldable pub put_of : List ℕ → ℕ → List ℕ → Put
put_of out at bs = put_ended (at + length bs) (put out at bs)
