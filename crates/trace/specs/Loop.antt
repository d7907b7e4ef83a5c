-- What a program writes that replays a file piece by piece: it asks `begin` once, then `next` until the end or a bad
-- line, and writes what each turn wrote. 01, "Trace, mark DLT". The law `loop-whole` says that this is what the whole
-- file gives, whatever the pieces; `loops-all` that a loop which reads the pieces one by one comes to its end.
use Rattle.std.specs.Prelude.{◌≡◌, ℕ, ◌<◌, ◌≤◌, Bool, true, false, List, [], ◌∷◌, ◌++◌, length, take, drop, Ok, Err}
use Rattle.dlt.specs.Record.{longest_record}
use Rattle.dlt.specs.declared.Unread.TheVariants as unread
use Rattle.lines.specs.Lines.{bad_bytes}
use Rattle.trace.specs.Trace.{Areas}
use Rattle.trace.specs.Turn.{TurnLeft, turn_of, begin_of}
use Rattle.trace.specs.declared.Status.TheVariants as status
use Rattle.trace.specs.declared.Trace.{Trace}

-- a turn that gives a record's line moves the cursor, and not past the bytes at hand; so a file of any length comes to
-- its end
abbrev pub Moves : List ℕ → TurnLeft → Type 0
Moves hand x = x.outcome.status ≡ status.Line → (0 < x.outcome.size) × (x.outcome.size ≤ length hand)

-- the bytes that a turn wrote
abbrev pub wrote_in : TurnLeft → List ℕ
wrote_in x = take x.outcome.written.cursor x.outcome.written.area

-- From a trace and its areas on, with the rest of the file, of which the first bytes are at hand and more are still to
-- be read; `last` is told only if there are none. Each turn has a lent line of any contents. A turn that asks for more,
-- or for a longer line, writes nothing and changes nothing.
pub data Writes : Trace → Areas → List ℕ → List ℕ → Type 0 where
  record-line : (t : Trace) (a : Areas) (hand more : List ℕ) (last : Bool) (line out : List ℕ) (x : TurnLeft) → (last ≡ true → more ≡ []) → x ≡ turn_of t a hand last line
      → x.outcome.status ≡ status.Line → Writes x.outcome.trace x.areas (drop x.outcome.size hand ++ more) out → Writes t a (hand ++ more) (wrote_in x ++ out)
  end_line : (t : Trace) (a : Areas) (hand more : List ℕ) (last : Bool) (line : List ℕ) (x : TurnLeft) → (last ≡ true → more ≡ []) → x ≡ turn_of t a hand last line
      → x.outcome.status ≡ status.End → Writes t a (hand ++ more) (wrote_in x)
  bad-line : (t : Trace) (a : Areas) (hand more : List ℕ) (last : Bool) (line : List ℕ) (x : TurnLeft) → (last ≡ true → more ≡ []) → x ≡ turn_of t a hand last line
      → x.outcome.status ≡ status.Bad → Writes t a (hand ++ more) (wrote_in x)

-- From the start of a file on, with the counters asked for or not. A header that is still short when nothing is left is
-- bad.
pub data Replays : Bool → Areas → List ℕ → List ℕ → Type 0 where
  cut : (c : Bool) (a : Areas) (file : List ℕ) → begin_of file c ≡ Err unread.Short → Replays c a file (bad_bytes 0)
  refused : (c : Bool) (a : Areas) (hand more : List ℕ) → begin_of hand c ≡ Err unread.Bad → Replays c a (hand ++ more) (bad_bytes 0)
  ready : (c : Bool) (a : Areas) (hand more out : List ℕ) (t : Trace) → begin_of hand c ≡ Ok t → Writes t a (drop 24 hand ++ more) out → Replays c a (hand ++ more) out

-- A loop that reads: `hand` is what it holds, and `pieces` is what its reads are still to give, one a read.
abbrev pub joined : List (List ℕ) → List ℕ
joined [] = []
joined (piece ∷ pieces) = piece ++ joined pieces

-- It asks for more when a turn does, and then holds less than the longest record. Only when no piece is left is `last`
-- told. A turn without room for its line is asked again.
pub data Turns : Trace → Areas → List ℕ → List (List ℕ) → Bool → List ℕ → Type 0 where
  asks : (t : Trace) (a : Areas) (hand piece : List ℕ) (pieces : List (List ℕ)) (line out : List ℕ) → (turn_of t a hand false line).outcome.status ≡ status.More
      → length hand < longest_record → Turns t a (hand ++ piece) pieces false out → Turns t a hand (piece ∷ pieces) false out
  learns : (t : Trace) (a : Areas) (hand line out : List ℕ) → (turn_of t a hand false line).outcome.status ≡ status.More
      → length hand < longest_record → Turns t a hand [] true out → Turns t a hand [] false out
  flushes : (t : Trace) (a : Areas) (hand : List ℕ) (pieces : List (List ℕ)) (last : Bool) (line out : List ℕ) → (turn_of t a hand last line).outcome.status ≡ status.LineShort
      → Turns t a hand pieces last out → Turns t a hand pieces last out
  goes_on : (t : Trace) (a : Areas) (hand : List ℕ) (pieces : List (List ℕ)) (last : Bool) (line out : List ℕ) (x : TurnLeft) → x ≡ turn_of t a hand last line
      → x.outcome.status ≡ status.Line → Turns x.outcome.trace x.areas (drop x.outcome.size hand) pieces last out → Turns t a hand pieces last (wrote_in x ++ out)
  ends : (t : Trace) (a : Areas) (hand : List ℕ) (pieces : List (List ℕ)) (last : Bool) (line : List ℕ) (x : TurnLeft) → x ≡ turn_of t a hand last line
      → x.outcome.status ≡ status.End → Turns t a hand pieces last (wrote_in x)
  fails : (t : Trace) (a : Areas) (hand : List ℕ) (pieces : List (List ℕ)) (last : Bool) (line : List ℕ) (x : TurnLeft) → x ≡ turn_of t a hand last line
      → x.outcome.status ≡ status.Bad → Turns t a hand pieces last (wrote_in x)

-- From the start of a file on: it asks for more while the header is short.
pub data Loops : Bool → Areas → List ℕ → List (List ℕ) → List ℕ → Type 0 where
  asks-header : (c : Bool) (a : Areas) (hand piece : List ℕ) (pieces : List (List ℕ)) (out : List ℕ) → begin_of hand c ≡ Err unread.Short → length hand < 24
      → Loops c a (hand ++ piece) pieces out → Loops c a hand (piece ∷ pieces) out
  cut-header : (c : Bool) (a : Areas) (hand : List ℕ) → begin_of hand c ≡ Err unread.Short → Loops c a hand [] (bad_bytes 0)
  bad-header : (c : Bool) (a : Areas) (hand : List ℕ) (pieces : List (List ℕ)) → begin_of hand c ≡ Err unread.Bad → Loops c a hand pieces (bad_bytes 0)
  turns : (c : Bool) (a : Areas) (hand : List ℕ) (pieces : List (List ℕ)) (out : List ℕ) (t : Trace) → begin_of hand c ≡ Ok t
      → Turns t a (drop 24 hand) pieces false out → Loops c a hand pieces out
