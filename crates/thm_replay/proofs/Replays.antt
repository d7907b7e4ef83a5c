-- A replay of a trace is a run of the ledger's theorem, and its output is the lines of that run's answers. Assumes
-- nothing.
use mathlib.Core.Path.{◌≡◌, refl, sym, ◌∙◌, ap, subst}
use mathlib.Core.Bool.{Bool, true, false, cond}
use mathlib.Core.List.{List, ◌++◌, append_assoc}
use Prim.Native.Nat.{ℕ, zero, suc, ◌+◌, ◌<◌, ◌≤◌}
use native.Mathlib.Numerals.{add-one}
use native.Mathlib.Omega.{arith}
use borrow.Author.Tests.{leb-true, not-true, not-false}
use lib.Dec.{eqb, leb}
use lib.ListN.{length, length-drop}
use lib.Seq.{get_or-drop}
use Rattle.numbers.specs.Circular.{sum}
use Rattle.numbers.proofs.Circle.{sum-sum}
use Rattle.numbers.proofs.Flags.{by_bool, impossible}
use Rattle.head.specs.Head.{fresh_head, made_of, head_made}
use Rattle.head.specs.Rules.{first_refusal, make_rules}
use Rattle.head.specs.declared.state.Head.{Head}
use Rattle.head.specs.declared.refusal.Refusal.{Refusal}
use Rattle.head.proofs.Gates.{by-refusal}
use Rattle.counts.specs.declared.Counters.{Counters}
use Rattle.dlt.specs.Record.{record_of, size_of}
use Rattle.std.specs.Prelude.{Option, Result, Ok, Err}
use Rattle.dlt.specs.declared.Unread.{Unread}
use Rattle.dlt.specs.declared.record.Record.{Record}
use Rattle.dlt.specs.declared.record.Record.TheVariants as records
use Rattle.dlt.proofs.Laws.{AreBytes, RecordFit, record-fits, size-within}
use Rattle.lines.specs.Lines.{line_bytes, end_bytes, bad_bytes}
use Rattle.step.specs.Step.{State, Lent, lent_for, Ended, step_of}
use Rattle.step.specs.declared.Call.{Call}
use Rattle.tally.specs.Tally.{tallied, tally_bytes}
use Rattle.trace.specs.Trace.{Areas, Replay, call_in, called, line_of, closing, lines_of, is_refused, fresh_replay, output_of}
use Rattle.trace.specs.Lends.{most_capacity, AreasLent, areas_made}
use Rattle.trace.proofs.Laws.{made_in, lines-record, lines-close}
use Rattle.ledger.specs.Seen.{NotClear}
use Rattle.ledger.specs.Runs.{Event, Desk, opening, book_after, Fresh, Known, Empty, NoneClear}
use Rattle.ledger.proofs.Theorem.{ledger-theorem, stretch-theorem, clear-empty}
use Rattle.thm_replay.specs.Short.{says_short, lent_in}
use Rattle.thm_replay.specs.Replay.{Accepted, head_in, desk_in, rest_after, record_at, payload_at, offset_of, replay_after, is_sound, is_clear, SoundTo, NoClearTo, later, CallsFrom, start_of, run_of, event_of, events_of, state_after, stretch_of, answer_at, line_at, lines_to, tally_after, closing_at, IsRun, BeginsAs, IsAll, Replayed, Stretched}
use Rattle.thm_replay.proofs.Enough.{step-enough, step-capacity, step-lent}

positive : (n : ℕ) → eqb n 0 ≡ false → 0 < n
positive zero e = impossible e
positive (suc n) e = omega arith

-- one call more, of equal parts
one-step : {s s₁ : State} {out out₁ list list₁ : List ℕ} (payload : List ℕ) (c : Call) → s ≡ s₁ → out ≡ out₁ → list ≡ list₁
    → step_of s (lent_for payload out list) c ≡ step_of s₁ (lent_for payload out₁ list₁) c
one-step payload c e f g = cc

-- and a last line of equal parts
abbrev last_line : ℕ → State → ℕ → Option Counters → ℕ → List ℕ
last_line long s count y offset = cond (eqb long 0) (end_bytes count s.head.window.lrsn s.head.window.seqno0 s.head.window.held ++ tally_bytes y) (bad_bytes offset)

last-same : (long : ℕ) {s s₁ : State} {count count₁ : ℕ} {y y₁ : Option Counters} {offset offset₁ : ℕ} → s ≡ s₁ → count ≡ count₁ → y ≡ y₁ → offset ≡ offset₁
    → last_line long s count y offset ≡ last_line long s₁ count₁ y₁ offset₁
last-same long e f g i = rw (e, f, g, i)

module _ (counting : Bool) (a : Areas) (file : List ℕ) (first : ℕ) (d : Desk) (h : Head) where
  abbrev at : ℕ → Replay
  at n = replay_after file (fresh_replay counting a h) n

  abbrev RunAt : ℕ → Type 0
  RunAt n = IsRun counting a file first d h n (at n)

  -- the call of a record is that of the run
  made-same : (n : ℕ) → RunAt n → called (at n) (call_in (record_at file n)) (payload_at file n) ≡ answer_at a file first d h n
  made-same n r = one-step (payload_at file n) (call_in (record_at file n)) r.state r.output r.list

  -- for every file and every n
  pub replay-runs : (n : ℕ) → RunAt n
  unfolding replay_after book_after events_of offset_of tally_after sum
  replay-runs zero = record { state = refl; output = refl; list = refl; count = refl; offset = refl; tally = refl }
  replay-runs (suc n) =
      let r = replay-runs n in
      let m = made-same n r in
      let size = size_of (record_at file n) in
      let long = length (payload_at file n) in
      record {
        state = ap (λ (e : Ended). e.state) m;
        output = ap (λ (e : Ended). e.output) m;
        list = ap (λ (e : Ended). e.list) m;
        count = ap (λ (k : ℕ). sum 64 k 1) r.count ∙ sum-sum 64 0 n 1 ∙ ap (λ (k : ℕ). sum 64 0 k) (add-one n);
        offset = ap (λ (k : ℕ). sum 64 k size) r.offset ∙ sum-sum 64 0 (offset_of file n) size;
        tally = ap (λ (e : Ended). tallied (at n).tally long e.answer) m ∙ ap (λ (y : Option Counters). tallied y long (answer_at a file first d h n).answer) r.tally;
      }

  -- the line of a record is that of the run's answer
  line_same : (n : ℕ) → line_of (at n) (made_in (at n) (rest_after file n)) ≡ line_at a file first d h n
  line_same n =
      let r = replay-runs n in
      let k : sum 64 (at n).count 1 ≡ sum 64 0 (suc n) = ap (λ (i : ℕ). sum 64 i 1) r.count ∙ sum-sum 64 0 n 1 ∙ ap (λ (i : ℕ). sum 64 0 i) (add-one n) in
      ap (λ (i : ℕ). line_bytes i (made_in (at n) (rest_after file n)).line) k ∙ ap (λ (e : Ended). line_bytes (sum 64 0 (suc n)) e.line) (made-same n r)

  -- the last line
  closing_same : (n : ℕ) → closing (at n) (rest_after file n) ≡ closing_at a file first d h counting n
  closing_same n =
      let r = replay-runs n in
      last-same (length (rest_after file n)) r.state r.count r.tally r.offset

-- every file has such a number of records: each has a byte at least
rest-shorter : (file : List ℕ) (n : ℕ) → is_sound (record_at file n) ≡ true → length (rest_after file (suc n)) < length (rest_after file n)
unfolding rest_after
rest-shorter file n e =
    let r = record_at file n in
    let some : 0 < size_of r = positive (size_of r) (not-true (eqb (size_of r) 0) e) in
    let in_rest = size-within (rest_after file n) in
    rw (length-drop (size_of r) (rest_after file n)) (omega arith)

sound-from : (file : List ℕ) (fuel n : ℕ) → length (rest_after file n) ≤ fuel → SoundTo file n → (m : ℕ) × SoundTo file m × (is_sound (record_at file m) ≡ false)
sound-from file zero n l s =
    by_bool (is_sound (record_at file n)) (λ e. absurd (let k = rest-shorter file n e in omega arith)) (λ e. (n, s, e))
sound-from file (suc fuel) n l s =
    by_bool (is_sound (record_at file n))
    (λ e. sound-from file fuel (suc n) (let k = rest-shorter file n e in omega arith) (e, s))
    (λ e. (n, s, e))

pub sound-count : (file : List ℕ) → (n : ℕ) × SoundTo file n × (is_sound (record_at file n) ≡ false)
sound-count file = sound-from file (length (rest_after file 0)) 0 (omega arith) tt

-- a sound record that is no clear is a call that is none
rest-bytes : (file : List ℕ) (n : ℕ) → AreBytes file → AreBytes (rest_after file n)
unfolding rest_after
rest-bytes file zero small i = rw (get_or-drop 24 file i 0) (small (24 + i))
rest-bytes file (suc n) small i =
    let size = size_of (record_at file n) in
    rw (get_or-drop size (rest_after file n) i 0) (rest-bytes file n small (size + i))

not-clear : (r : Result Record Unread) → is_sound r ≡ true → is_clear r ≡ false → RecordFit r → NotClear (call_in r)
not-clear (Err e) s c f = impossible (sym s)
not-clear (Ok (records.Data time number message location stamp n)) s c f = f.4
not-clear (Ok (records.Pop time)) s c f = tt
not-clear (Ok (records.Report time)) s c f = tt
not-clear (Ok (records.FullAck time)) s c f = tt
not-clear (Ok (records.Ack2 time number)) s c f = tt
not-clear (Ok (records.Drop first last)) s c f = tt
not-clear (Ok (records.Clock time stamp)) s c f = tt
not-clear (Ok records.Clear) s c f = impossible c

none-clear : (a : Areas) (file : List ℕ) (first : ℕ) (d : Desk) (h : Head) → AreBytes file → (n : ℕ) → SoundTo file n → NoClearTo file n → NoneClear (events_of a file first d h n)
unfolding events_of
none-clear a file first d h small zero s c = tt
none-clear a file first d h small (suc n) s c =
    (not-clear (record_at file n) s.0 c.0 (record-fits (rest_after file n) (rest-bytes file n small)), none-clear a file first d h small n s.1 c.1)

stretch-clear : (a : Areas) (file : List ℕ) (first : ℕ) (d : Desk) (h : Head) → AreBytes file → (n m : ℕ) → CallsFrom file n m → NoneClear (stretch_of a file first d h n m)
unfolding stretch_of
stretch-clear a file first d h small n zero c = tt
stretch-clear a file first d h small n (suc m) c =
    let k = later n m in
    (not-clear (record_at file k) c.0 c.1 (record-fits (rest_after file k) (rest-bytes file k small)), stretch-clear a file first d h small n m c.2)

-- a stretch: any m records without a clear, from a moment at which the receiver holds nothing and has acknowledged all;
-- a clear at such a moment leaves such a moment
module _ (a : Areas) (file : List ℕ) (first : ℕ) (d : Desk) (h : Head) (f n : ℕ) (k : Desk) (e : Empty f (state_after a file first d h n)) (q : Known k (state_after a file first d h n)) where
  abbrev begins : State
  begins = state_after a file first d h n

  stretch-state : (m : ℕ) → state_after a file first d h (later n m) ≡ (book_after step_of (opening f k begins) (stretch_of a file first d h n m)).state
  unfolding book_after events_of stretch_of
  stretch-state zero = refl
  stretch-state (suc m) =
      let past = events_of a file first d h (later n m) in
      ap (λ (s : State). (step_of s (event_of a file first d h (later n m) past).lent (event_of a file first d h (later n m) past).call).state) (stretch-state m)

  pub replays-on : AreBytes file → (m : ℕ) → CallsFrom file n m → Stretched a file first d h f n m k
  replays-on small m c =
      record { state = stretch-state m; demanded = stretch-theorem f k begins e q (stretch_of a file first d h n m) (stretch-clear a file first d h small n m c) }

  pub clears-on : record_at file n ≡ Ok records.Clear → Empty f (state_after a file first d h (suc n)) × Known k (state_after a file first d h (suc n))
  unfolding book_after events_of
  clears-on r =
      let lent = (event_of a file first d h n (events_of a file first d h n)).lent in
      subst (λ (c : Call). Empty f (step_of begins lent c).state × Known k (step_of begins lent c).state) (sym (ap call_in r)) (clear-empty f k begins lent e q)

-- settings that are not refused make a head
taken-made : (m : Result Head Refusal) (capacity : ℕ) → is_refused m capacity ≡ false → m ≡ Ok (head_made m)
taken-made (Ok h) capacity e = refl
taken-made (Err f) capacity e = impossible e

-- a file whose header is accepted
module _ (counting : Bool) (a : Areas) (file : List ℕ) (s : Accepted file) where
  abbrev left : ℕ → List ℕ
  left n = lines_of (length (rest_after file n)) (at counting a file s.first (desk_in a s) (head_in s) n) (rest_after file n)

  abbrev lines : ℕ → List ℕ
  lines n = lines_to a file s.first (desk_in a s) (head_in s) n

  -- the lines of the first n records, then what the rest gives
  pub begins-as : (n : ℕ) → SoundTo file n → BeginsAs counting a file s.first (desk_in a s) (head_in s) n
  unfolding output_of rest_after replay_after lines_to
  begins-as zero z = rw (s.header, s.taken)
  begins-as (suc n) z =
      let rest = rest_after file n in
      let more = lines-record (at counting a file s.first (desk_in a s) (head_in s) n) rest (not-true (eqb (size_of (record_of rest)) 0) z.0) in
      begins-as n z.1
      ∙ ap (λ (l : List ℕ). lines n ++ l) (more ∙ ap (λ (l : List ℕ). l ++ left (suc n)) (line_same counting a file s.first (desk_in a s) (head_in s) n))
      ∙ sym (append_assoc (lines n) (line_at a file s.first (desk_in a s) (head_in s) n) (left (suc n)))

  -- all that the file gives, clears or not: it has some number of sound records, the lines of their answers, and the
  -- last line
  pub writes-run : (n : ℕ) × SoundTo file n × (is_sound (record_at file n) ≡ false) × IsAll counting a file s.first (desk_in a s) (head_in s) n
  writes-run =
      let c = sound-count file in
      let n = c.0 in
      let close =
      lines-close (at counting a file s.first (desk_in a s) (head_in s) n) (rest_after file n) (not-false (eqb (size_of (record_at file n)) 0) c.2)
      ∙ closing_same counting a file s.first (desk_in a s) (head_in s) n in
      (n, c.1, c.2, begins-as n c.1 ∙ ap (λ (l : List ℕ). lines n ++ l) close)

  -- the receiver that the header makes is fresh
  pub header-fresh : Fresh s.first (start_of a file s.first (desk_in a s) (head_in s))
  header-fresh =
      record {
        start = s.start;
        latency = s.latency;
        dropping = s.dropping;
        capacity = s.capacity;
        made = taken-made (made_of s.start s.latency s.dropping s.first s.capacity) s.capacity s.taken;
      }

  -- so demand 3 holds of a replay, after each n records of which none is a clear
  pub replays : AreBytes file → (n : ℕ) → SoundTo file n → NoClearTo file n → Replayed counting a file s.first (desk_in a s) (head_in s) n
  unfolding header-fresh
  replays small n z c =
      record {
        is_run = replay-runs counting a file s.first (desk_in a s) (head_in s) n;
        lines = begins-as n z;
        demanded =
            ledger-theorem s.first (start_of a file s.first (desk_in a s) (head_in s)) header-fresh (events_of a file s.first (desk_in a s) (head_in s) n) (none-clear a file s.first (desk_in a s) (head_in s) small n z c);
      }

  -- with the areas that the program lends, no line answers 2, 11 or 12, whatever the records are
  abbrev run : ℕ → List Event
  run n = events_of a file s.first (desk_in a s) (head_in s) n

  abbrev state : ℕ → State
  state n = (run_of a file s.first (desk_in a s) (head_in s) (run n)).state

  abbrev lent : ℕ → Lent
  lent n = (event_of a file s.first (desk_in a s) (head_in s) n (run n)).lent

  starts-small : (head_in s).window.capacity ≤ most_capacity
  unfolding made_of fresh_head
  starts-small =
      by-refusal (λ (x : Result Head Refusal). is_refused x s.capacity ≡ false → (head_made x).window.capacity ≤ most_capacity)
      (first_refusal (make_rules s.start s.latency s.first s.capacity)) _ _
      (λ x z e. leb-true s.capacity 32 (not-false (leb s.capacity 32) e))
      (λ f z e. impossible e)
      s.taken

  stays_lent : AreasLent a → (n : ℕ) → ((state n).head.window.capacity ≤ most_capacity) × AreasLent (lent_in (state n) (lent n))
  unfolding book_after events_of
  stays_lent k zero = (starts-small, k)
  stays_lent k (suc n) =
      let r = stays_lent k n in
      let c = call_in (record_at file n) in
      (omega (arith, step-capacity (state n) (lent n) r.0 r.1 c, r.0), step-lent (state n) (lent n) r.0 r.1 c)

  pub areas-enough : AreasLent a → (n : ℕ) → says_short (answer_at a file s.first (desk_in a s) (head_in s) n).line.refusal ≡ false
  areas-enough k n = let r = stays_lent k n in step-enough (state n) (lent n) r.0 r.1 (call_in (record_at file n))

-- the areas that the program makes are such
pub made-lent : AreasLent areas_made
made-lent = record { slots = refl; payloads = refl; history = refl; output = refl; list = refl }
