-- What a reader of a file piece by piece may lean on: a piece that has the whole record is enough, and the turns of any
-- division into pieces write, joined, what the whole file gives. Assumes nothing.
use Rattle.std.proofs.Common.{◌≡◌, ℕ, zero, suc, ◌+◌, ◌<◌, ◌≤◌, Bool, true, false, not, ◌&&◌, eqb, leb, List, [], ◌∷◌, ◌++◌, length, take, drop, replicate, sym, refl, ap, ◌∙◌, subst, append-nil, arith, length-append, length-drop, take_at, lt-ltb, ne_eqb, le-leb}
use mathlib.Core.Bool.{and-true}
use lib.ListN.{length-replicate}
use lib.Seq.{drop-append-le, take-append-le}
use Rattle.numbers.proofs.Flags.{by-test, by_bool, by-order, impossible}
use Rattle.dlt.specs.Record.{record_of, size_of, least_size}
use Rattle.dlt.specs.declared.record.Record.{Record}
use Rattle.dlt.specs.declared.record.Record.TheVariants as records
use Rattle.dlt.specs.Header.{header_of}
use Rattle.std.specs.Prelude.{Result, Ok, Err}
use Rattle.dlt.specs.declared.Unread.{Unread}
use Rattle.dlt.specs.declared.Unread.TheVariants as unread
use Rattle.dlt.specs.declared.header.Header.{Header}
use Rattle.head.specs.Head.{made_of}
use Rattle.lines.specs.Lines.{bad_bytes}
use Rattle.dlt.proofs.Laws.{header-behind, record-behind, size-within}
use Rattle.text.specs.Put.{put, put_of}
use Rattle.step.specs.Step.{Ended}
use Rattle.trace.proofs.Steps.{come-not}
use Rattle.trace.specs.Trace.{Areas, Replay, call_in, payload_in, called, replayed, line_of, closing, lines_of, is_refused, by_header, output_of}
use Rattle.trace.specs.Turn.{begin_of, begun_by, replay_in, TurnOutcome, is_short, line_need, stays, ends_with, TurnLeft, turn_left, advances, turn_of}
use Rattle.trace.specs.Loop.{Moves, wrote_in, Writes, record-line, end_line, bad-line, Replays, cut, refused, ready}
use Rattle.trace.specs.declared.Status.{Status}
use Rattle.trace.specs.declared.Status.TheVariants as status
use Rattle.trace.specs.declared.Trace.{Trace}

-- a piece is enough
payload-behind : (r : Result Record Unread) (xs ys : List ℕ) → size_of r ≤ length xs → payload_in (xs ++ ys) r ≡ payload_in xs r
payload-behind (Err e) xs ys h = refl
payload-behind (Ok (records.Data time number message location stamp n)) xs ys h =
    let a : 24 ≤ length xs = omega arith in
    let b : n ≤ length (drop 24 xs) = rw (length-drop 24 xs) (omega arith) in
    rw (drop-append-le 24 xs ys a, take-append-le n (drop 24 xs) ys b)
payload-behind (Ok (records.Pop time)) xs ys h = refl
payload-behind (Ok (records.Report time)) xs ys h = refl
payload-behind (Ok (records.FullAck time)) xs ys h = refl
payload-behind (Ok (records.Ack2 time number)) xs ys h = refl
payload-behind (Ok (records.Drop first last)) xs ys h = refl
payload-behind (Ok (records.Clock time stamp)) xs ys h = refl
payload-behind (Ok records.Clear) xs ys h = refl

not_short : (r : Result Record Unread) → (r ≡ Err unread.Short → ⊥) → is_short r ≡ false
not_short (Err unread.Short) h = absurd (h refl)
not_short (Err unread.Bad) h = refl
not_short (Ok r) h = refl

none-short : record_of [] ≡ Err unread.Short
unfolding record_of least_size
none-short = refl

whole-some : (xs : List ℕ) → (record_of xs ≡ Err unread.Short → ⊥) → 0 < length xs
whole-some [] h = absurd (h none-short)
whole-some (x ∷ xs) h = omega arith

pub piece-enough : (t : Trace) (a : Areas) (xs ys : List ℕ) (last last₁ : Bool) (line : List ℕ) → (record_of xs ≡ Err unread.Short → ⊥)
    → turn_of t a (xs ++ ys) last₁ line ≡ turn_of t a xs last line
unfolding turn_of
piece-enough t a xs ys last last₁ line h =
    let some = whole-some xs h in
    let long : 0 < length (xs ++ ys) = rw (length-append xs ys) (omega arith) in
    rw (
      record-behind xs ys h,
      not_short (record_of xs) h,
      ne_eqb (length xs) 0 (λ e. omega arith),
      ne_eqb (length (xs ++ ys)) 0 (λ e. omega arith),
      payload-behind (record_of xs) xs ys (size-within xs),
    )

pub positive : (n : ℕ) → eqb n 0 ≡ false → 0 < n
positive zero e = impossible e
positive (suc n) e = omega arith

-- the call of the record that the rest starts with, and the replay behind it
abbrev pub made_in : Replay → List ℕ → Ended
made_in t rest = let r = record_of rest in called t (call_in r) (payload_in rest r)

abbrev pub behind : Replay → List ℕ → Replay
behind t rest = let r = record_of rest in replayed t (payload_in rest r) (size_of r) (made_in t rest)

-- more fuel than bytes changes nothing
pub lines-enough : (n m : ℕ) (t : Replay) (rest : List ℕ) → length rest ≤ n → length rest ≤ m → lines_of n t rest ≡ lines_of m t rest
unfolding lines_of
lines-enough zero zero t rest h k = refl
lines-enough zero (suc m) t [] h k = rw none-short
lines-enough zero (suc m) t (x ∷ rest) h k = absurd (omega arith)
lines-enough (suc n) zero t [] h k = rw none-short
lines-enough (suc n) zero t (x ∷ rest) h k = absurd (omega arith)
lines-enough (suc n) (suc m) t rest h k =
    by_bool (eqb (size_of (record_of rest)) 0)
    (λ e. rw e)
    (λ e.
    let r = record_of rest in
    let some : 0 < size_of r = positive (size_of r) e in
    let a : length (drop (size_of r) rest) ≤ n = rw (length-drop (size_of r) rest) (omega arith) in
    let b : length (drop (size_of r) rest) ≤ m = rw (length-drop (size_of r) rest) (omega arith) in
    rw e (ap (λ (l : List ℕ). line_of t (made_in t rest) ++ l) (lines-enough n m (behind t rest) (drop (size_of r) rest) a b)))

-- one turn of the whole: a record's line, then what the rest gives; or the last line
pub lines-record : (t : Replay) (rest : List ℕ) → eqb (size_of (record_of rest)) 0 ≡ false
    → let left = drop (size_of (record_of rest)) rest in lines_of (length rest) t rest ≡ line_of t (made_in t rest) ++ lines_of (length left) (behind t rest) left
unfolding lines_of
lines-record t [] e = impossible (sym (ap (λ (r : Result Record Unread). eqb (size_of r) 0) none-short) ∙ e)
lines-record t (x ∷ xs) e =
    let r = record_of (x ∷ xs) in
    let some = positive (size_of r) e in
    let left = drop (size_of r) (x ∷ xs) in
    let h : length left ≤ length xs = rw (length-drop (size_of r) (x ∷ xs)) (omega arith) in
    rw e
    (ap (λ (l : List ℕ). line_of t (made_in t (x ∷ xs)) ++ l) (lines-enough (length xs) (length left) (behind t (x ∷ xs)) left h (omega arith)))

pub lines-close : (t : Replay) (rest : List ℕ) → eqb (size_of (record_of rest)) 0 ≡ true → lines_of (length rest) t rest ≡ closing t rest
unfolding lines_of
lines-close t [] e = refl
lines-close t (x ∷ xs) e = rw e

-- what a turn wrote is the line that it was to write
wrote : (line bs : List ℕ) → take (put_of line 0 bs).cursor (put_of line 0 bs).area ≡ bs
unfolding put_of put
wrote line bs = take_at bs (drop (0 + length bs) line) (0 + length bs) (omega arith)

-- a turn by its cases
module _ (t : Trace) (a : Areas) (hand : List ℕ) (last : Bool) (line : List ℕ) where
  by_turn : (P : TurnLeft → Type 0) → P (turn_left (stays t line status.LineShort) a) → P (turn_left (stays t line status.More) a)
      → (eqb (size_of (record_of hand)) 0 ≡ true → (is_short (record_of hand) && not last) ≡ false → P (turn_left (ends_with t line (eqb (length hand) 0)) a))
      → (eqb (size_of (record_of hand)) 0 ≡ false → P (advances t a line (call_in (record_of hand)) (payload_in hand (record_of hand)) (size_of (record_of hand))))
      → P (turn_of t a hand last line)
  unfolding turn_of
  by_turn P short more close advance =
      by-test P (leb (line_need a.list) (length line)) _ _
      (λ room.
      by-test P (eqb (size_of (record_of hand)) 0) _ _
      (λ e. by-test (λ (o : TurnOutcome). P (turn_left o a)) (is_short (record_of hand) && not last) _ _ (λ m. more) (λ m. close e m))
      advance)
      (λ room. short)

abbrev code : Status → ℕ
code status.Line = 0
code status.More = 1
code status.End = 2
code status.Bad = 3
code status.LineShort = 4

other : {P : Type 0} {s u : Status} → s ≡ u → (code s ≡ code u → ⊥) → P
other e h = absurd (h (ap code e))

module _ (t : Trace) (a : Areas) (hand more : List ℕ) (last : Bool) (line : List ℕ) where
  abbrev whole : Replay
  whole = replay_in t a

  -- the line of a record, then what the rest gives
  step_line : (out : List ℕ) → eqb (size_of (record_of hand)) 0 ≡ false
      → let r = record_of hand in let x = advances t a line (call_in r) (payload_in hand r) (size_of r) in let left = drop (size_of r) hand ++ more in
      out ≡ lines_of (length left) (replay_in x.outcome.trace x.areas) left → wrote_in x ++ out ≡ lines_of (length (hand ++ more)) whole (hand ++ more)
  unfolding advances
  step_line out e ih =
      let r = record_of hand in
      let full : record_of (hand ++ more) ≡ r = record-behind hand more (λ q. impossible (sym (ap (λ (z : Result Record Unread). eqb (size_of z) 0) q) ∙ e)) in
      let paid = payload-behind r hand more (size-within hand) in
      let cut = drop-append-le (size_of r) hand more (size-within hand) in
      rw (wrote line (line_of whole (made_in whole hand)), lines-record whole (hand ++ more) (rw full e), full, paid, cut) (ap (λ (l : List ℕ). line_of whole (made_in whole hand) ++ l) ih)

  -- the last line
  step-close : (last ≡ true → more ≡ []) → eqb (size_of (record_of hand)) 0 ≡ true → (is_short (record_of hand) && not last) ≡ false
      → wrote_in (turn_left (ends_with t line (eqb (length hand) 0)) a) ≡ lines_of (length (hand ++ more)) whole (hand ++ more)
  step-close told e m =
      wrote line (closing whole hand)
      ∙ by_bool last
      (λ l. rw (told l, append-nil hand) (sym (lines-close whole hand e)))
      (λ l.
      let cut : is_short (record_of hand) ≡ false = sym (and-true (is_short (record_of hand))) ∙ rw l at m in
      let some : record_of hand ≡ Err unread.Short → ⊥ = λ q. impossible (sym (ap is_short q) ∙ cut) in
      let long = whole-some hand some in
      let longer : 0 < length (hand ++ more) = rw (length-append hand more) (omega arith) in
      rw (lines-close whole (hand ++ more) (rw (record-behind hand more some) e), ne_eqb (length hand) 0 (λ q. omega arith), ne_eqb (length (hand ++ more)) 0 (λ q. omega arith)))

  turn-line : (out : List ℕ) {x : TurnLeft} → x ≡ turn_of t a hand last line → x.outcome.status ≡ status.Line
      → out ≡ lines_of (length (drop x.outcome.size hand ++ more)) (replay_in x.outcome.trace x.areas) (drop x.outcome.size hand ++ more)
      → wrote_in x ++ out ≡ lines_of (length (hand ++ more)) whole (hand ++ more)
  unfolding advances
  turn-line out {x} e = subst P (sym e) (by_turn t a hand last line P (λ s ih. other s (λ k. omega arith)) (λ s ih. other s (λ k. omega arith)) (λ f m s ih. by_bool (eqb (length hand) 0) (λ b. other (rw b at s) (λ k. omega arith)) (λ b. other (rw b at s) (λ k. omega arith))) (λ f s ih. step_line out f ih))
    where
      P : TurnLeft → Type 0
      P y =
          y.outcome.status ≡ status.Line
          → out ≡ lines_of (length (drop y.outcome.size hand ++ more)) (replay_in y.outcome.trace y.areas) (drop y.outcome.size hand ++ more)
          → wrote_in y ++ out ≡ lines_of (length (hand ++ more)) whole (hand ++ more)

  turn-close : {x : TurnLeft} → (last ≡ true → more ≡ []) → x ≡ turn_of t a hand last line → 2 ≤ code x.outcome.status → code x.outcome.status ≤ 3
      → wrote_in x ≡ lines_of (length (hand ++ more)) whole (hand ++ more)
  unfolding advances
  turn-close told e = subst P (sym e) (by_turn t a hand last line P (λ l m. absurd (omega arith)) (λ l m. absurd (omega arith)) (λ f m l k. step-close told f m) (λ f l m. absurd (omega arith)))
    where
      P : TurnLeft → Type 0
      P y = 2 ≤ code y.outcome.status → code y.outcome.status ≤ 3 → wrote_in y ≡ lines_of (length (hand ++ more)) whole (hand ++ more)

pub loop-writes : (t : Trace) (a : Areas) (rest out : List ℕ) → Writes t a rest out → out ≡ lines_of (length rest) (replay_in t a) rest
loop-writes _ _ _ _ (record-line t a hand more last line out x told e s w) = turn-line t a hand more last line out e s (loop-writes _ _ _ _ w)
loop-writes _ _ _ _ (end_line t a hand more last line x told e s) = turn-close t a hand more last line told e (rw s (omega arith)) (rw s (omega arith))
loop-writes _ _ _ _ (bad-line t a hand more last line x told e s) = turn-close t a hand more last line told e (rw s (omega arith)) (rw s (omega arith))

-- the header
abbrev mark : Result Trace Unread → ℕ
mark (Err unread.Short) = 0
mark (Err unread.Bad) = 1
mark (Ok t) = 2

pub unlike : {P : Type 0} {x y : Result Trace Unread} → x ≡ y → (mark x ≡ mark y → ⊥) → P
unlike e h = absurd (h (ap mark e))

module _ (c : Bool) (a : Areas) (rest : List ℕ) where
  bad-by : (h : Result Header Unread) → mark (begun_by h c) ≤ 1 → bad_bytes 0 ≡ by_header c a h rest
  bad-by (Err u) e = refl
  bad-by (Ok h) e =
      by_bool (is_refused (made_of h.start h.latency h.dropping h.first h.capacity) h.capacity) (λ b. rw b) (λ b. absurd (let k = rw b at e in omega arith))

  abbrev Gives : List ℕ → Result Trace Unread → Type 0
  Gives out (Err u) = Unit {0}
  Gives out (Ok t) = out ≡ lines_of (length rest) (replay_in t a) rest

  ready_by : (h : Result Header Unread) (out : List ℕ) (t : Trace) → begun_by h c ≡ Ok t → out ≡ lines_of (length rest) (replay_in t a) rest → out ≡ by_header c a h rest
  ready_by (Err unread.Short) out t e w = unlike e (λ k. omega arith)
  ready_by (Err unread.Bad) out t e w = unlike e (λ k. omega arith)
  ready_by (Ok h) out t e w =
      by_bool (is_refused (made_of h.start h.latency h.dropping h.first h.capacity) h.capacity)
      (λ b. unlike (rw b at e) (λ k. omega arith))
      (λ b. rw b (subst (Gives out) (sym (rw b at e)) w))

header-long : (xs : List ℕ) → (header_of xs ≡ Err unread.Short → ⊥) → 24 ≤ length xs
unfolding header_of
header-long xs h = by-order (length xs) 24 (λ l. absurd (h (rw (lt-ltb _ _ l)))) (λ l. l)

-- a program's turns on any pieces of a file write what the whole file gives
pub loop-whole : (c : Bool) (a : Areas) (file out : List ℕ) → Replays c a file out → out ≡ output_of c a file
unfolding output_of
loop-whole _ _ _ _ (cut c a file e) = bad-by c a (drop 24 file) (header_of file) (rw e (omega arith))
loop-whole _ _ _ _ (refused c a hand more e) =
    let whole : header_of hand ≡ Err unread.Short → ⊥ = λ q. unlike (sym (ap (λ (h : Result Header Unread). begun_by h c) q) ∙ e) (λ k. omega arith) in
    rw (header-behind hand more whole) (bad-by c a (drop 24 (hand ++ more)) (header_of hand) (rw e (omega arith)))
loop-whole _ _ _ _ (ready c a hand more out t e w) =
    let whole : header_of hand ≡ Err unread.Short → ⊥ = λ q. unlike (sym (ap (λ (h : Result Header Unread). begun_by h c) q) ∙ e) (λ k. omega arith) in
    rw (header-behind hand more whole, drop-append-le 24 hand more (header-long hand whole))
    (ready_by c a (drop 24 hand ++ more) (header_of hand) out t e (loop-writes t a (drop 24 hand ++ more) out w))

pub turn-moves : (t : Trace) (a : Areas) (hand : List ℕ) (last : Bool) (line : List ℕ) → Moves hand (turn_of t a hand last line)
unfolding advances
turn-moves t a hand last line =
    by_turn t a hand last line (Moves hand)
    (λ s. other s (λ k. omega arith))
    (λ s. other s (λ k. omega arith))
    (λ f m s. by_bool (eqb (length hand) 0) (λ b. other (rw b at s) (λ k. omega arith)) (λ b. other (rw b at s) (λ k. omega arith)))
    (λ f s. (positive (size_of (record_of hand)) f, size-within hand))

-- there is such a run for every file: with a line that is long enough each turn gives a record's line or the last one,
-- and each record has a byte at least
module _ (t : Trace) (a : Areas) (rest : List ℕ) where
  abbrev pub long : List ℕ
  long = replicate (line_need a.list) 0

  pub roomy : leb (line_need a.list) (length long) ≡ true
  roomy = le-leb (line_need a.list) (length long) (let e : length long ≡ line_need a.list = length-replicate (line_need a.list) 0 in omega arith)

  turn-ends : eqb (size_of (record_of rest)) 0 ≡ true → turn_left (ends_with t long (eqb (length rest) 0)) a ≡ turn_of t a rest true long
  unfolding turn_of
  turn-ends e = rw (roomy, e, ← come-not (record_of rest) true refl)

  turn-goes : eqb (size_of (record_of rest)) 0 ≡ false → advances t a long (call_in (record_of rest)) (payload_in rest (record_of rest)) (size_of (record_of rest)) ≡ turn_of t a rest true long
  unfolding turn_of
  turn-goes e = rw (roomy, e)

  last_turn : eqb (size_of (record_of rest)) 0 ≡ true → Writes t a (rest ++ []) (lines_of (length (rest ++ [])) (replay_in t a) (rest ++ []))
  last_turn e =
      subst (Writes t a (rest ++ [])) (step-close t a rest [] true long (λ q. refl) e (sym (come-not (record_of rest) true refl)))
      (by_bool (eqb (length rest) 0)
      (λ b. end_line t a rest [] true long (turn_left (ends_with t long (eqb (length rest) 0)) a) (λ q. refl) (turn-ends e) (rw b))
      (λ b. bad-line t a rest [] true long (turn_left (ends_with t long (eqb (length rest) 0)) a) (λ q. refl) (turn-ends e) (rw b)))

writes-all : (n : ℕ) (t : Trace) (a : Areas) (rest : List ℕ) → length rest ≤ n → Writes t a (rest ++ []) (lines_of (length (rest ++ [])) (replay_in t a) (rest ++ []))
unfolding advances
writes-all zero t a [] h = last_turn t a [] (rw none-short)
writes-all zero t a (x ∷ rest) h = absurd (omega arith)
writes-all (suc n) t a rest h =
    by_bool (eqb (size_of (record_of rest)) 0)
    (last_turn t a rest)
    (λ e.
    let r = record_of rest in
    let x = advances t a (long t a rest) (call_in r) (payload_in rest r) (size_of r) in
    let some = positive (size_of r) e in
    let fits = size-within rest in
    let left = drop (size_of r) rest in
    let l : length left ≤ n = rw (length-drop (size_of r) rest) (omega arith) in
    let out = lines_of (length (left ++ [])) (replay_in x.outcome.trace x.areas) (left ++ []) in
    subst (Writes t a (rest ++ [])) (step_line t a rest [] true (long t a rest) out e refl)
    (record-line t a rest [] true (long t a rest) out x (λ q. refl) (turn-goes t a rest e) refl (writes-all n x.outcome.trace x.areas left l)))

pub replays-all : (c : Bool) (a : Areas) (file : List ℕ) → Replays c a file (output_of c a file)
unfolding output_of
replays-all c a file = by-begun (begin_of file c) refl
  where
    by-begun : (x : Result Trace Unread) → begin_of file c ≡ x → Replays c a file (by_header c a (header_of file) (drop 24 file))
    by-begun (Err unread.Short) e = subst (Replays c a file) (bad-by c a (drop 24 file) (header_of file) (rw e (omega arith))) (cut c a file e)
    by-begun (Err unread.Bad) e = subst (Replays c a file) (bad-by c a (drop 24 file) (header_of file) (rw e (omega arith))) (rw (append-nil file) at (refused c a file [] e))
    by-begun (Ok t) e =
        let w = writes-all (length (drop 24 file)) t a (drop 24 file) (omega arith) in
        let v : Writes t a (drop 24 file ++ []) (lines_of (length (drop 24 file)) (replay_in t a) (drop 24 file)) = subst (λ (l : List ℕ). Writes t a (drop 24 file ++ []) (lines_of (length l) (replay_in t a) l)) (append-nil (drop 24 file)) w in
        subst (Replays c a file) (ready_by c a (drop 24 file) (header_of file) _ t e refl)
        (subst (λ (f : List ℕ). Replays c a f (lines_of (length (drop 24 file)) (replay_in t a) (drop 24 file))) (append-nil file) (ready c a file [] _ t e v))
