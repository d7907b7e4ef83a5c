-- A loop that reads a file in any pieces comes to its end and has written what the whole file gives; it never needs to
-- hold more than the longest record. Assumes nothing.
use Rattle.std.proofs.Common.{◌≡◌, ℕ, zero, suc, ◌+◌, ◌<◌, Bool, true, false, cond, not, ◌&&◌, eqb, List, [], ◌∷◌, ◌++◌, length, drop, sym, refl, subst, append_assoc, append-nil, arith, length-append, length-drop}
use Rattle.numbers.proofs.Flags.{by_bool, and_left, and_right, impossible}
use Rattle.dlt.specs.Header.{header_of}
use Rattle.dlt.specs.Record.{record_of, size_of}
use Rattle.std.specs.Prelude.{Result, Ok, Err}
use Rattle.dlt.specs.declared.Unread.{Unread}
use Rattle.dlt.specs.declared.Unread.TheVariants as unread
use Rattle.dlt.specs.declared.header.Header.{Header}
use Rattle.dlt.specs.declared.record.Record.{Record}
use Rattle.dlt.proofs.Laws.{header-cut, record-cut, size-within}
use Rattle.head.specs.Head.{made_of}
use Rattle.lines.specs.Lines.{bad_bytes}
use Rattle.trace.specs.Trace.{Areas, call_in, payload_in, is_refused, output_of}
use Rattle.trace.specs.Turn.{begin_of, begun_by, is_short, stays, ends_with, turn_left, advances, turn_of}
use Rattle.trace.specs.Loop.{wrote_in, Writes, record-line, end_line, bad-line, Replays, cut, refused, ready, joined, Turns, asks, learns, flushes, goes_on, ends, fails, Loops, asks-header, cut-header, bad-header, turns}
use Rattle.trace.specs.declared.Status.TheVariants as status
use Rattle.trace.specs.declared.Trace.{Trace}
use Rattle.trace.proofs.Laws.{positive, unlike, long, roomy, loop-whole}

-- such a loop is one of turns on pieces of the file, so it writes what the file gives
turns-write : (t : Trace) (a : Areas) (hand : List ℕ) (pieces : List (List ℕ)) (last : Bool) (out : List ℕ) → (last ≡ true → joined pieces ≡ []) → Turns t a hand pieces last out
    → Writes t a (hand ++ joined pieces) out
turns-write _ _ _ _ _ _ told (asks t a hand piece pieces line out e h w) =
    subst (λ (l : List ℕ). Writes t a l out) (append_assoc hand piece (joined pieces)) (turns-write _ _ _ _ _ _ (λ q. impossible (sym q)) w)
turns-write _ _ _ _ _ _ told (learns t a hand line out e h w) = turns-write _ _ _ _ _ _ (λ q. refl) w
turns-write _ _ _ _ _ _ told (flushes t a hand pieces last line out e w) = turns-write _ _ _ _ _ _ told w
turns-write _ _ _ _ _ _ told (goes_on t a hand pieces last line out x e s w) =
    record-line t a hand (joined pieces) last line out x told e s (turns-write _ _ _ _ _ _ told w)
turns-write _ _ _ _ _ _ told (ends t a hand pieces last line x e s) = end_line t a hand (joined pieces) last line x told e s
turns-write _ _ _ _ _ _ told (fails t a hand pieces last line x e s) = bad-line t a hand (joined pieces) last line x told e s

loops-replay : (c : Bool) (a : Areas) (hand : List ℕ) (pieces : List (List ℕ)) (out : List ℕ) → Loops c a hand pieces out → Replays c a (hand ++ joined pieces) out
loops-replay _ _ _ _ _ (asks-header c a hand piece pieces out e h w) =
    subst (λ (l : List ℕ). Replays c a l out) (append_assoc hand piece (joined pieces)) (loops-replay _ _ _ _ _ w)
loops-replay _ _ _ _ _ (cut-header c a hand e) = cut c a (hand ++ []) (rw (append-nil hand) e)
loops-replay _ _ _ _ _ (bad-header c a hand pieces e) = refused c a hand (joined pieces) e
loops-replay _ _ _ _ _ (turns c a hand pieces out t e w) = ready c a hand (joined pieces) out t e (turns-write _ _ _ _ _ _ (λ q. impossible (sym q)) w)

pub loops-whole : (c : Bool) (a : Areas) (pieces : List (List ℕ)) (out : List ℕ) → Loops c a [] pieces out → out ≡ output_of c a (joined pieces)
loops-whole c a pieces out w = loop-whole c a (joined pieces) out (loops-replay c a [] pieces out w)

-- a turn that has room: it asks for more, closes, or gives a line
is-short : (r : Result Record Unread) → is_short r ≡ true → r ≡ Err unread.Short
is-short (Err unread.Short) e = refl
is-short (Err unread.Bad) e = impossible (sym e)
is-short (Ok r) e = impossible (sym e)

module _ (t : Trace) (a : Areas) (hand : List ℕ) (last : Bool) where
  turn-asks : eqb (size_of (record_of hand)) 0 ≡ true → (is_short (record_of hand) && not last) ≡ true → turn_of t a hand last (long t a hand) ≡ turn_left (stays t (long t a hand) status.More) a
  unfolding turn_of
  turn-asks e m = rw (roomy t a hand, e, m)

  turn-closes : eqb (size_of (record_of hand)) 0 ≡ true → (is_short (record_of hand) && not last) ≡ false
      → turn_left (ends_with t (long t a hand) (eqb (length hand) 0)) a ≡ turn_of t a hand last (long t a hand)
  unfolding turn_of
  turn-closes e m = rw (roomy t a hand, e, m)

  turn-gives : eqb (size_of (record_of hand)) 0 ≡ false
      → advances t a (long t a hand) (call_in (record_of hand)) (payload_in hand (record_of hand)) (size_of (record_of hand)) ≡ turn_of t a hand last (long t a hand)
  unfolding turn_of
  turn-gives e = rw (roomy t a hand, e)

-- there is such a run from everywhere: each turn uses a byte, each read a piece, and `last` is told once
abbrev Ending : Trace → Areas → List ℕ → List (List ℕ) → Bool → Type 0
Ending t a hand pieces last = (out : List ℕ) × Turns t a hand pieces last out

abbrev to_go : List ℕ → List (List ℕ) → Bool → ℕ
to_go hand pieces last = length hand + length (joined pieces) + length pieces + cond last 0 1

abbrev EndsWithin : ℕ → Type 0
EndsWithin n = (t : Trace) (a : Areas) (hand : List ℕ) (pieces : List (List ℕ)) (last : Bool) → to_go hand pieces last < n → Ending t a hand pieces last

asks-on : (n : ℕ) → EndsWithin n → (t : Trace) (a : Areas) (hand : List ℕ) (pieces : List (List ℕ)) (last : Bool) → to_go hand pieces last < suc n
    → eqb (size_of (record_of hand)) 0 ≡ true → (is_short (record_of hand) && not last) ≡ true → Ending t a hand pieces last
asks-on n more t a hand pieces true h e m = impossible (sym (and_right (is_short (record_of hand)) false m))
asks-on n more t a hand [] false h e m =
    let room = record-cut hand (is-short (record_of hand) (and_left (is_short (record_of hand)) true m)) in
    let w = more t a hand [] true (omega arith) in
    (w.0, learns t a hand (long t a hand) w.0 (rw (turn-asks t a hand false e m)) room w.1)
asks-on n more t a hand (piece ∷ pieces) false h e m =
    let room = record-cut hand (is-short (record_of hand) (and_left (is_short (record_of hand)) true m)) in
    let w = more t a (hand ++ piece) pieces false (omega (arith, length-append hand piece, length-append piece (joined pieces))) in
    (w.0, asks t a hand piece pieces (long t a hand) w.0 (rw (turn-asks t a hand false e m)) room w.1)

closes-off : (t : Trace) (a : Areas) (hand : List ℕ) (pieces : List (List ℕ)) (last : Bool) → eqb (size_of (record_of hand)) 0 ≡ true → (is_short (record_of hand) && not last) ≡ false
    → Ending t a hand pieces last
closes-off t a hand pieces last e m =
    let x = turn_left (ends_with t (long t a hand) (eqb (length hand) 0)) a in (
      wrote_in x,
      by_bool (eqb (length hand) 0)
          (λ b. ends t a hand pieces last (long t a hand) x (turn-closes t a hand last e m) (rw b))
          (λ b. fails t a hand pieces last (long t a hand) x (turn-closes t a hand last e m) (rw b)),
    )

gives-on : (n : ℕ) → EndsWithin n → (t : Trace) (a : Areas) (hand : List ℕ) (pieces : List (List ℕ)) (last : Bool) → to_go hand pieces last < suc n
    → eqb (size_of (record_of hand)) 0 ≡ false → Ending t a hand pieces last
unfolding advances
gives-on n more t a hand pieces last h e =
    let r = record_of hand in
    let x = advances t a (long t a hand) (call_in r) (payload_in hand r) (size_of r) in
    let w = more x.outcome.trace x.areas (drop (size_of r) hand) pieces last (omega (arith, length-drop (size_of r) hand, positive (size_of r) e, size-within hand)) in
    (wrote_in x ++ w.0, goes_on t a hand pieces last (long t a hand) w.0 x (turn-gives t a hand last e) refl w.1)

turns-some : (n : ℕ) → EndsWithin n
turns-some zero t a hand pieces last h = absurd (omega arith)
turns-some (suc n) t a hand pieces last h =
    by_bool (eqb (size_of (record_of hand)) 0)
    (λ e.
    by_bool (is_short (record_of hand) && not last)
    (asks-on n (turns-some n) t a hand pieces last h e)
    (closes-off t a hand pieces last e))
    (gives-on n (turns-some n) t a hand pieces last h)

short-by : (c : Bool) (h : Result Header Unread) → begun_by h c ≡ Err unread.Short → h ≡ Err unread.Short
short-by c (Err unread.Short) e = refl
short-by c (Err unread.Bad) e = unlike e (λ k. omega arith)
short-by c (Ok h) e =
    by_bool (is_refused (made_of h.start h.latency h.dropping h.first h.capacity) h.capacity) (λ b. unlike (rw b at e) (λ k. omega arith)) (λ b. unlike (rw b at e) (λ k. omega arith))

abbrev Looping : Bool → Areas → List ℕ → List (List ℕ) → Type 0
Looping c a hand pieces = (out : List ℕ) × Loops c a hand pieces out

loops-by : (c : Bool) (a : Areas) (hand : List ℕ) (pieces : List (List ℕ)) → (begin_of hand c ≡ Err unread.Short → Looping c a hand pieces)
    → (x : Result Trace Unread) → begin_of hand c ≡ x → Looping c a hand pieces
loops-by c a hand pieces short (Err unread.Short) e = short e
loops-by c a hand pieces short (Err unread.Bad) e = (bad_bytes 0, bad-header c a hand pieces e)
loops-by c a hand pieces short (Ok t) e =
    let w = turns-some (suc (to_go (drop 24 hand) pieces false)) t a (drop 24 hand) pieces false (omega arith) in
    (w.0, turns c a hand pieces w.0 t e w.1)

loops-some : (c : Bool) (a : Areas) (pieces : List (List ℕ)) (hand : List ℕ) → Looping c a hand pieces
loops-some c a [] hand = loops-by c a hand [] (λ e. (bad_bytes 0, cut-header c a hand e)) (begin_of hand c) refl
loops-some c a (piece ∷ pieces) hand =
    loops-by c a hand (piece ∷ pieces)
    (λ e.
    let w = loops-some c a pieces (hand ++ piece) in
    (w.0, asks-header c a hand piece pieces w.0 e (header-cut hand (short-by c (header_of hand) e)) w.1))
    (begin_of hand c)
    refl

-- every file in any pieces
pub loops-all : (c : Bool) (a : Areas) (pieces : List (List ℕ)) → Loops c a [] pieces (output_of c a (joined pieces))
loops-all c a pieces = let w = loops-some c a pieces [] in subst (Loops c a [] pieces) (loops-whole c a pieces w.0 w.1) w.1
