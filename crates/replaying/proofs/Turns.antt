-- A header that was read has its 24 bytes, and a turn of the trace uses no more bytes than are at hand and writes no more than the lent line has: so each
-- cursor stays in its buffer. Assumes nothing.
use Rattle.std.proofs.Common.{◌≡◌, ℕ, zero, suc, refl, eq-eqb, ne_eqb, ◌+◌, ◌<◌, ◌≤◌, Bool, true, false, not, ◌&&◌, eqb, leb, List, length, drop, sym, ap, ◌∙◌, subst, arith, length-append, length-drop, length-take, lt-ltb, rules}
use Rattle.std.specs.Prelude.{Result, Ok, Err}
use Rattle.numbers.proofs.Flags.{by-test, by-order}
use Rattle.text.specs.Put.{put, put_of}
use Rattle.dlt.specs.Header.{header_of}
use Rattle.dlt.specs.Record.{record_of, size_of}
use Rattle.dlt.specs.declared.Unread.{Unread}
use Rattle.dlt.specs.declared.Unread.TheVariants.{Short}
use Rattle.dlt.proofs.Laws.{size-within}
use Rattle.trace.specs.Trace.{Areas}
use Rattle.trace.specs.Turn.{begin_of, TurnOutcome, TurnLeft, turned, turn_left, is_short, line_need, advances, turn_of}
use Rattle.trace.specs.declared.Trace.{Trace}
use Rattle.trace.specs.declared.Turned.{Turned}

abbrev is_read : Result Trace Unread → ℕ
is_read (Err e) = 0
is_read (Ok t) = 1

header-cut : (piece : List ℕ) (counting : Bool) → length piece < 24 → begin_of piece counting ≡ Err Short
unfolding header_of
header-cut piece counting h = rw (lt-ltb _ _ h)

pub header-there : (piece : List ℕ) (counting : Bool) {x : Result Trace Unread} {t : Trace} → x ≡ begin_of piece counting → x ≡ Ok t → 24 ≤ length piece
header-there piece counting e f =
    by-order (length piece) 24 (λ h. absurd (let k = ap is_read (sym f ∙ e ∙ header-cut piece counting h) in omega arith)) (λ h. h)

put-inside : (line bs : List ℕ) → (put_of line 0 bs).cursor ≤ length (put_of line 0 bs).area
unfolding put_of put
put-inside line bs = rw (length-append bs (drop (0 + length bs) line)) (omega arith)

-- a turn's bytes and its line
pub record Inside (rest : List ℕ) (x : TurnLeft) : Type 0 where
  pub used : x.outcome.size ≤ length rest
  pub wrote : x.outcome.written.cursor ≤ length x.outcome.written.area

turn-inside : (t : Trace) (a : Areas) (rest : List ℕ) (last : Bool) (line : List ℕ) → Inside rest (turn_of t a rest last line)
unfolding turn_of advances
turn-inside t a rest last line =
    by-test (Inside rest) (leb (line_need a.list) (length line)) _ _
    (λ room.
    by-test (Inside rest) (eqb (size_of (record_of rest)) 0) _ _
    (λ e.
    by-test (λ (o : TurnOutcome). Inside rest (turn_left o a)) (is_short (record_of rest) && not last) _ _ (λ m. record { used = omega arith; wrote = omega arith })
    (λ m. record { used = omega arith; wrote = put-inside line _ }))
    (λ f. record { used = size-within rest; wrote = put-inside line _ }))
    (λ room. record { used = omega arith; wrote = omega arith })

pub turn-used : (t : Trace) (a a₁ : Areas) (piece : List ℕ) (at end : ℕ) (last : Bool) (line line₁ : List ℕ) {r : Turned} → turn_left (turned r line₁) a₁ ≡ turn_of t a (drop at piece) last line
    → length piece ≡ end → at ≤ end → at + r.size ≤ end
turn-used t a a₁ piece at end last line line₁ e f h =
    let k = (subst (Inside (drop at piece)) (sym e) (turn-inside t a (drop at piece) last line)).used in
    let l = length-drop at piece in
    omega arith

pub turn-wrote : (t : Trace) (a a₁ : Areas) (rest : List ℕ) (last : Bool) (line line₁ : List ℕ) {r : Turned} → turn_left (turned r line₁) a₁ ≡ turn_of t a rest last line → r.length ≤ length line₁
turn-wrote t a a₁ rest last line line₁ e = (subst (Inside rest) (sym e) (turn-inside t a rest last line)).wrote

-- a read that gave nothing moves the end of the bytes at hand nowhere, and no other leaves it
pub none-came : (kept n : ℕ) → eqb n 0 ≡ eqb (kept + n) kept
none-came kept zero = rw (eq-eqb (kept + 0) kept (omega arith), eq-eqb 0 0 refl)
none-came kept (suc n) = rw (ne_eqb (kept + suc n) kept (λ e. omega (arith, e)), ne_eqb (suc n) 0 (λ e. omega (arith, e)))

pub ruleset turns = (header-there, turn-used, none-came, rules)
