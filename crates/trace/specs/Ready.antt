-- What the functions inside the trace may count on: room for a line, and a record that lies whole in the bytes at hand.
use Rattle.std.specs.Prelude.{◌≡◌, ℕ, ◌+◌, ◌≤◌, List, length, drop, Ok}
use Rattle.dlt.specs.Record.{record_of, size_in}
use Rattle.dlt.specs.declared.record.Record.{Record}
use Rattle.trace.specs.Trace.{length_in}
use Rattle.trace.specs.Turn.{line_need}

pub record RecordHere (list line piece : List ℕ) (at : ℕ) (r : Record) : Type 0 where
  pub room : line_need list ≤ length line
  pub read : Ok r ≡ record_of (drop at piece)
  pub ends : at + size_in r ≤ length piece
  pub pays : length_in (Ok r) ≤ size_in r
