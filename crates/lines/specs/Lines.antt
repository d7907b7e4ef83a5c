-- The lines of the trace as bytes: 01, "Trace, mark DLT".
use Rattle.std.specs.Prelude.{cond, List, [], ◌∷◌, ◌++◌, ℕ, eqb}
use Rattle.text.specs.Bytes.{bytes}
use Rattle.head.specs.Paper.{Word, got, light, loss, refused, message, late, report, ack, rtt, gone, adjusted, unsteady, clear, none, made, room, received, other, Value, plain, Line}
use Rattle.shapes.specs.Shapes.{closed, line_of}

-- the letters of a word
abbrev pub letters : Word → List ℕ
letters got = bytes "got"
letters light = bytes "light"
letters loss = bytes "loss"
letters refused = bytes "refused"
letters message = bytes "message"
letters late = bytes "late"
letters report = bytes "report"
letters ack = bytes "ack"
letters rtt = bytes "rtt"
letters gone = bytes "gone"
letters adjusted = bytes "adjusted"
letters unsteady = bytes "unsteady"
letters clear = bytes "clear"
letters none = bytes "none"
letters made = bytes "made"
letters room = bytes "room"
letters received = bytes "received"
letters other = bytes "other"

-- a refusal's number stands before its values; f64 values are not written
abbrev pub values_of : Line → List Value
values_of l = cond (eqb l.refusal 0) l.values (plain l.refusal ∷ l.values)

-- the record's number, the word, the values
abbrev pub line_bytes : ℕ → Line → List ℕ
line_bytes n l = line_of n (letters l.word) (values_of l)

-- the last line: records, lrsn, seqno0, held; and the line of a bad file: the offset
unfoldable pub end_bytes : ℕ → ℕ → ℕ → ℕ → List ℕ
end_bytes records lrsn seqno0 held = bytes "end" ++ closed (plain records ∷ plain lrsn ∷ plain seqno0 ∷ plain held ∷ [])

unfoldable pub bad_bytes : ℕ → List ℕ
bad_bytes offset = bytes "bad" ++ closed (plain offset ∷ [])
