-- The ledger theorem: after any calls but clear on a fresh receiver, all that Claims says holds. Assumes nothing.
use mathlib.Core.Path.{◌≡◌, refl, ap, sym, ◌∙◌, subst}
use mathlib.Core.Bool.{Bool, true}
use mathlib.Core.List.{List, [], ◌∷◌, ◌++◌, map}
use Prim.Native.Nat.{ℕ, ◌+◌, ◌-◌, ◌^◌, ◌<◌}
use native.Mathlib.Omega.{arith}
use borrow.Author.Tests.{leb-false}
use lib.IntN.{ℤ}
use lib.ListN.{length, length-map}
use Rattle.std.specs.Prelude.{Option, Result, Ok, IfOk}
use Rattle.std.proofs.lemmas.Result.{IfOk-at_ok}
use Rattle.numbers.specs.Circular.{sum}
use Rattle.numbers.proofs.Circle.{sum-zero}
use Rattle.numbers.proofs.Places.{place-one}
use Rattle.head.specs.Rules.{first_refusal, make_rules, show_rules, head_rules}
use Rattle.head.specs.Head.{head_ok, fresh_head, made_of}
use Rattle.head.specs.declared.state.Head.{Head}
use Rattle.head.specs.declared.refusal.Refusal.{Refusal}
use Rattle.head.proofs.Gates.{clear, by-refusal}
use Rattle.head.proofs.Ready.{in_parts}
use Rattle.window.specs.Window.{room_of}
use Rattle.window.proofs.Ranges.{in_window}
use Rattle.receiver.specs.Data.{packet, data_call_of}
use Rattle.receiver.specs.Paper.{data_line}
use Rattle.receiver.specs.declared.data.DataAnswer.{DataAnswer}
use Rattle.window.specs.declared.show.Part.{Part}
use Rattle.feedback.specs.Loss.{report_call_of}
use Rattle.upkeep.specs.Request.{ClearOutcome, cleared_of, clear_call_of}
use Rattle.upkeep.specs.Show.{refusal_of, place_call_of, shown_call_of}
use Rattle.kept.proofs.DataKept.{made_kept, data-kept, loss-kept, cleared-kept}
use Rattle.kept.proofs.TimedKept.{ack2-kept, full-ack-kept, clock-kept, message-kept}
use Rattle.step.specs.Step.{State, Lent, Ended, step_of}
use Rattle.step.specs.declared.Call.{Call}
use Rattle.step.specs.declared.Call.TheVariants as calls
use Rattle.step.specs.declared.Answer.{Answer}
use Rattle.step.specs.declared.Answer.TheVariants as answers
use Rattle.views.specs.Lists.{run_of}
use Rattle.views.specs.View.{Seen, entries_from, entries, gap_in}
use Rattle.ledger.specs.Runs.{place_of}
use Rattle.views.proofs.Lists.{entries-length}
use Rattle.ledger.specs.Ledger.{ack_of, Place, received_run, Ledger, opened, number_of, front_of, next_of, enter, released_bytes}
use Rattle.ledger.specs.Seen.{NotClear, out_bytes, kind_of, kind_in}
use Rattle.ledger.specs.Runs.{Event, Desk, Known, Book, opening, answered, turned, book_after, Fresh, fresh_desk, fresh, NoneClear, handed_out, Sent, now, before, Empty}
use Rattle.ledger.specs.Claims.{Holds, Judges, Reports, early_refusal, Acks, Says, Told, Demand3, Stretch, show_refusal, Shows, DemandShown}
use Rattle.ledger.proofs.Owned.{nothing, empty}
use Rattle.ledger.proofs.Moved.{Stands, Moved, held-count, window-count, lrsn-said}
use Rattle.ledger.proofs.Data.{data-stands}
use Rattle.ledger.proofs.Knows.{step_same, known-after, step-acks, step_line, step-lent, report-says}
use Rattle.ledger.proofs.Refusals.{refusal_now, known-refusal, station-refuses}
use Rattle.ledger.proofs.Shown.{shows}
use Rattle.ledger.proofs.Pop.{pop-stands, pop-tells}
use Rattle.ledger.proofs.Judged.{data-judged}
use Rattle.ledger.proofs.Others.{report-stands, drop-stands, drop-counted, full-ack-stands, ack2-stands, clock-stands}

-- one call: what it was fed belongs to its number
abbrev Fed : (ℕ → List ℕ → Type 0) → Call → List ℕ → Type 0
Fed S (calls.Data time number message location stamp) bytes = S number bytes
Fed S (calls.Pop time) bytes = Unit
Fed S (calls.Report time) bytes = Unit
Fed S (calls.FullAck time) bytes = Unit
Fed S (calls.Ack2 time number) bytes = Unit
Fed S (calls.Drop first last) bytes = Unit
Fed S (calls.Clock time stamp) bytes = Unit
Fed S calls.Clear bytes = Unit

abbrev seen : State → List Seen
seen s = entries s.head.window s.slots s.payloads

step-stands : (S : ℕ → List ℕ → Type 0) (l : Ledger) (s : State) (t : Lent) (c : Call)
    → NotClear c → Stands S l s.head.window (seen s) → Fed S c t.payload
    → Moved S l (enter l c t.payload (step_of s t c).answer) (step_of s t c).state.head.window (seen (step_of s t c).state)
    (out_bytes (step_of s t c).answer (step_of s t c).output)
step-stands S l s t (calls.Data time number message location stamp) p a f =
    data-stands S l s.head s.slots s.payloads time (packet number message location stamp) t.payload p a f
step-stands S l s t (calls.Pop time) p a f = pop-stands S l s.head s.slots s.payloads t.output time a
step-stands S l s t (calls.Report time) p a f = report-stands S l s.head s.slots s.payloads a t.list time
step-stands S l s t (calls.FullAck time) p a f = full-ack-stands S l s.head s.slots s.payloads a s.history time
step-stands S l s t (calls.Ack2 time number) p a f = ack2-stands S l s.head s.slots s.payloads a s.history time number
step-stands S l s t (calls.Drop first last) p a f = drop-stands S l s.head s.slots s.payloads a first last
step-stands S l s t (calls.Clock time stamp) p a f = clock-stands S l s.head s.slots s.payloads a time stamp
step-stands S l s t calls.Clear p a f = absurd p

-- its answer is of its kind
step-kind : (s : State) (t : Lent) (c : Call) → kind_in (step_of s t c).answer ≡ kind_of c
step-kind s t (calls.Data time number message location stamp) = refl
step-kind s t (calls.Pop time) = refl
step-kind s t (calls.Report time) = refl
step-kind s t (calls.FullAck time) = refl
step-kind s t (calls.Ack2 time number) = refl
step-kind s t (calls.Drop first last) = refl
step-kind s t (calls.Clock time stamp) = refl
step-kind s t calls.Clear = refl

-- what its answer says is so
step-says : (S : ℕ → List ℕ → Type 0) (l : Ledger) (d : Desk) (s : State) (t : Lent) (c : Call) → NotClear c → Stands S l s.head.window (seen s) → Known d s → head_ok s.head ≡ true
    → Says l d t c (step_of s t c).answer (step_of s t c).output (step_of s t c).list
step-says S l d s t (calls.Data time number message location stamp) p a k o =
    let x = (data_call_of s.head s.slots s.payloads time (packet number message location stamp) t.payload).handled.answer in
    let c = calls.Data time number message location stamp in
    subst (λ (n : Result Unit Refusal). Judges l d.capacity n number x) (known-refusal t c k o)
    (subst (λ (n : ℕ). Judges l n (refusal_now s t c) number x) k.capacity
    (data-judged S l s.head s.slots s.payloads time (packet number message location stamp) t.payload p a))
step-says S l d s t (calls.Pop time) p a k o = pop-tells S l s.head s.slots s.payloads t.output time a d k.dropping
step-says S l d s t (calls.Report time) p a k o =
    subst (λ (n : ℕ). Reports n (report_call_of s.head s.slots t.list time).reported.answer (report_call_of s.head s.slots t.list time).list) (window-count s.slots s.payloads a)
    (report-says s.head s.slots s.payloads t.list time)
step-says S l d s t (calls.FullAck time) p a k o = tt
step-says S l d s t (calls.Ack2 time number) p a k o = tt
step-says S l d s t (calls.Drop first last) p a k o = drop-counted S l s.head s.slots s.payloads a first last
step-says S l d s t (calls.Clock time stamp) p a k o = tt
step-says S l d s t calls.Clear p a k o = absurd p

-- what an answer acknowledges, and its room, as the ledger has them
acks-said : {S : ℕ → List ℕ → Type 0} {l : Ledger} {d : Desk} {s : State} (x : Answer) → Stands S l s.head.window (seen s) → Known d s
    → Acks s.head.window.lrsn (room_of s.head.window) x → Acks (ack_of l) (d.capacity - length l.held) x
acks-said {l = l} {d = d} {s = s} x a k q =
    let room : room_of s.head.window ≡ d.capacity - length l.held =
    ap (λ (y : ℕ). y - s.head.window.held) k.capacity ∙ ap (λ (y : ℕ). d.capacity - y) (window-count s.slots s.payloads a) in
    subst (λ (y : ℕ). Acks y (d.capacity - length l.held) x) (lrsn-said a) (subst (λ (y : ℕ). Acks s.head.window.lrsn y x) room q)

-- a head in range stays there
step_kept : (s : State) (t : Lent) (c : Call) → NotClear c → head_ok s.head ≡ true → head_ok (step_of s t c).state.head ≡ true
step_kept s t (calls.Data time number message location stamp) p e = data-kept s.head s.slots s.payloads time (packet number message location stamp) t.payload e
step_kept s t (calls.Pop time) p e = message-kept s.head s.slots s.payloads t.output time e
step_kept s t (calls.Report time) p e = loss-kept s.head s.slots t.list time e
step_kept s t (calls.FullAck time) p e = full-ack-kept s.head s.history time e
step_kept s t (calls.Ack2 time number) p e = ack2-kept s.head s.history time number e
step_kept s t (calls.Drop first last) p e = e
step_kept s t (calls.Clock time stamp) p e = clock-kept s.head time stamp e
step_kept s t calls.Clear p e = absurd p

-- a fresh receiver
module _ (start : ℤ) (latency : ℕ) (dropping : Bool) (first capacity : ℕ) where
  abbrev MadeFresh : Head → Type 0
  MadeFresh h = (h ≡ fresh_head start latency dropping first capacity) × (first < 2 ^ 31)

  made-so : IfOk (made_of start latency dropping first capacity) MadeFresh
  unfolding made_of
  made-so =
      by-refusal (λ (m : Result Head Refusal). IfOk m MadeFresh) (first_refusal (make_rules start latency first capacity)) _ _
      (λ x e. let c = clear (make_rules start latency first capacity) (sym e) in (refl, leb-false (2 ^ 31) first c.1.1.0))
      (λ f e. tt)

  made-fresh : {h : Head} → made_of start latency dropping first capacity ≡ Ok h → MadeFresh h
  made-fresh e = IfOk-at_ok MadeFresh e made-so

none_seen : (capacity start : ℕ) (ws bs : List ℕ) {n : ℕ} → n ≡ 0 → entries_from capacity start ws bs 0 n ≡ []
unfolding entries_from
none_seen capacity start ws bs e = rw e

fresh-stands : (S : ℕ → List ℕ → Type 0) (first : ℕ) (s : State) → Empty first s → Stands S (opened first) s.head.window (seen s)
unfolding run_of
fresh-stands S first s f =
    let w = s.head.window in
    let r = in_window w (in_parts s.head f.kept).window in
    let lt : first < 2 ^ 31 = omega (arith, r.seqno0, f.begins) in
    let z : sum 31 first 0 ≡ first = sum-zero 31 lt in
    let e : seen s ≡ [] = none_seen w.capacity w.start s.slots s.payloads f.none in
    record {
      front = f.begins ∙ sym z;
      held = ap (map place_of) e;
      right = f.acked ∙ sym (sum-zero 31 lt) ∙ ap (λ (x : ℕ). sum 31 x 0) (sym f.begins) ∙ ap (λ (x : List Seen). sum 31 w.seqno0 (gap_in x)) (sym e);
      own_gone = λ i bytes q. empty S first i bytes q;
      own_held = λ i bytes q. nothing S first i bytes q;
    }

fresh_kept : (first : ℕ) (s : State) → Fresh first s → head_ok s.head ≡ true
fresh_kept first s f = made_kept f.start f.latency f.dropping first f.capacity f.made

fresh-empty : (first : ℕ) (s : State) → Fresh first s → Empty first s
unfolding fresh_head
fresh-empty first s f =
    let m = made-fresh f.start f.latency f.dropping first f.capacity f.made in
    let e : s.head ≡ fresh_head f.start f.latency f.dropping first f.capacity = m.0 in
    record { kept = fresh_kept first s f; none = ap (λ (h : Head). h.window.held) e; begins = ap (λ (h : Head). h.window.seqno0) e; acked = ap (λ (h : Head). h.window.lrsn) e }

fresh-known : (first : ℕ) (s : State) (f : Fresh first s) → Known (fresh_desk f) s
unfolding fresh_head
fresh-known first s f =
    let m = made-fresh f.start f.latency f.dropping first f.capacity f.made in
    let e : s.head ≡ fresh_head f.start f.latency f.dropping first f.capacity = m.0 in
    record {
      capacity = ap (λ (h : Head). h.window.capacity) e;
      latency = ap (λ (h : Head). h.latency) e;
      dropping = ap (λ (h : Head). h.dropping) e;
      slots = refl;
      payloads = refl;
      history = refl;
      latest = ap (λ (h : Head). h.latest) e;
    }

-- what show shows, and what its second question answers
abbrev pub place_now : State → ℕ → Option Part
place_now s number = place_call_of s.head s.slots (length s.payloads) number

abbrev pub question_now : State → ℕ → Result Bool Refusal
question_now s number = (shown_call_of s.head s.slots (length s.payloads) number).answer

-- any calls, the newest first
feeds : (c : Call) (t : Lent) (past : List Event) → Fed (Sent (record { call = c; lent = t } ∷ past)) c t.payload
feeds (calls.Data time number message location stamp) t past = now time number message location stamp t past
feeds (calls.Pop time) t past = tt
feeds (calls.Report time) t past = tt
feeds (calls.FullAck time) t past = tt
feeds (calls.Ack2 time number) t past = tt
feeds (calls.Drop first last) t past = tt
feeds (calls.Clock time stamp) t past = tt
feeds calls.Clear t past = tt

older : (e : Event) (past : List Event) (l : Ledger) (s : State) → Stands (Sent past) l s.head.window (seen s) → Stands (Sent (e ∷ past)) l s.head.window (seen s)
older e past l s a =
    record {
      front = a.front;
      held = a.held;
      right = a.right;
      own_gone = λ i bytes q. before e past (sum 31 l.first (0 + i)) bytes (a.own_gone i bytes q);
      own_held = λ i bytes q. before e past (sum 31 l.first (front_of l + i)) bytes (a.own_held i bytes q);
    }

module _ (first : ℕ) (d : Desk) (s : State) (f : Empty first s) (g : Known d s) where
  abbrev b : Book
  b = opening first d s

  abbrev at : List Event → Book
  at past = book_after step_of b past

  abbrev then : Event → List Event → Ended
  then e past = answered step_of (at past) e

  -- one call more
  abbrev Next : Event → List Event → Type 0
  Next e past =
      Moved (Sent (e ∷ past)) (at past).ledger (turned step_of (at past) e).ledger (turned step_of (at past) e).state.head.window (seen (turned step_of (at past) e).state)
      (out_bytes (then e past).answer (then e past).output)

  abbrev At : List Event → Type 0
  At past = Stands (Sent past) (at past).ledger (at past).state.head.window (seen (at past).state)

  one_more : (e : Event) (past : List Event) → NotClear e.call → At past → Next e past
  one_more e past p a =
      step-stands (Sent (e ∷ past)) (at past).ledger (at past).state e.lent e.call p (older e past (at past).ledger (at past).state a) (feeds e.call e.lent past)

  run-stands : (past : List Event) → NoneClear past → At past
  unfolding book_after
  run-stands [] p = fresh-stands (Sent []) first s f
  run-stands (e ∷ past) p = (one_more e past p.0 (run-stands past p.1)).stands

  run-kept : (past : List Event) → NoneClear past → head_ok (at past).state.head ≡ true
  unfolding book_after
  run-kept [] p = f.kept
  run-kept (e ∷ past) p = step_kept (at past).state e.lent e.call p.0 (run-kept past p.1)

  run-known : (past : List Event) → NoneClear past → Known (at past).desk (at past).state
  unfolding book_after
  run-known [] p = g
  run-known (e ∷ past) p = known-after (run-known past p.1) (step_same (at past).state e.lent e.call p.0 (run-stands past p.1).right)

  run-handed : (past : List Event) → NoneClear past → handed_out step_of b past ≡ released_bytes (at past).ledger.gone
  unfolding book_after handed_out released_bytes
  run-handed [] p = refl
  run-handed (e ∷ past) p =
      ap (λ (x : List ℕ). x ++ out_bytes (then e past).answer (then e past).output) (run-handed past p.1)
      ∙ sym (one_more e past p.0 (run-stands past p.1)).handed

  run-apart : (past : List Event) → NoneClear past → (i j : ℕ) → i < length (at past).ledger.held → j < length (at past).ledger.held
      → number_of (at past).ledger (front_of (at past).ledger + i) ≡ number_of (at past).ledger (front_of (at past).ledger + j) → i ≡ j
  run-apart past p i j hi hj e =
      let l = (at past).ledger in
      let w = (at past).state.head.window in
      let n = held-count (run-stands past p) in
      let m = entries-length w.capacity w.start (at past).state.slots (at past).state.payloads 0 w.held in
      let r = in_window w (in_parts (at past).state.head (run-kept past p)).window in
      let q = place-one 31 l.first (front_of l) (front_of l + i) (front_of l + j) (omega arith) (omega (arith, n, m, r.holds, r.most)) (omega arith) (omega (arith, n, m, r.holds, r.most)) e in
      omega arith

  run_holds : (past : List Event) → NoneClear past → Holds (at past).ledger (at past).desk (at past).state past (handed_out step_of b past)
  run_holds past p =
      let a = run-stands past p in
      let l = (at past).ledger in
      record {
        agrees = record { front = a.front; entries = a.held; lrsn = lrsn-said a };
        known = run-known past p;
        handed = run-handed past p;
        own = λ i bytes q. subst (λ (x : ℕ). Sent past (sum 31 l.first x) bytes) (zero-add i) (a.own_gone i bytes q);
        held = a.own_held;
        apart = run-apart past p;
        in_range = run-kept past p;
      }
    where
      zero-add : (i : ℕ) → 0 + i ≡ i
      zero-add i = omega arith

  run-told : (past : List Event) → NoneClear past → (e : Event) → NotClear e.call → Told (at past) (turned step_of (at past) e) e (then e past)
  run-told past p e q =
      record {
        kind = step-kind (at past).state e.lent e.call;
        line = step_line (at past).state e.lent e.call;
        lent = step-lent (at past).state e.lent e.call;
        acks = acks-said (then e past).answer (one_more e past q (run-stands past p)).stands (known-after (run-known past p) (step_same (at past).state e.lent e.call q (run-stands past p).right)) (step-acks (at past).state e.lent e.call q);
        refuses = station-refuses (at past).state e.lent e.call q (run-known past p) (run-kept past p);
        says = step-says (Sent past) (at past).ledger (at past).desk (at past).state e.lent e.call q (run-stands past p) (run-known past p) (run-kept past p);
      }

  pub run-shows : (past : List Event) → NoneClear past → (number : ℕ)
      → Shows (at past).ledger (show_refusal (at past).desk number) number (at past).state.payloads (place_now (at past).state number) (question_now (at past).state number)
  run-shows past p number =
      let s₁ = (at past).state in
      let k = run-known past p in
      let o = run-kept past p in
      let e : refusal_of s₁.head s₁.slots (length s₁.payloads) number ≡ show_refusal (at past).desk number =
      ap (λ (x : Bool). first_refusal (show_rules x s₁.head.window.capacity (length s₁.slots) (length s₁.payloads) number)) o
      ∙ ap (λ (x : ℕ). first_refusal (show_rules true x (length s₁.slots) (length s₁.payloads) number)) k.capacity
      ∙ ap (λ (x : ℕ). first_refusal (show_rules true (at past).desk.capacity x (length s₁.payloads) number)) k.slots
      ∙ ap (λ (x : ℕ). first_refusal (show_rules true (at past).desk.capacity (at past).desk.slots x number)) k.payloads in
      subst (λ (n : Result Unit Refusal). Shows (at past).ledger n number s₁.payloads (place_now s₁ number) (question_now s₁ number)) e
      (shows (Sent past) (at past).ledger s₁.head s₁.slots s₁.payloads (run-stands past p) o number)

-- demand 3, of the receiver: in a stretch, and from a fresh one on
pub stretch-theorem : Stretch step_of
stretch-theorem first d s f g past p = record { holds = run_holds first d s f g past p; told = run-told first d s f g past p }

pub ledger-theorem : Demand3 step_of
ledger-theorem first s f past p = stretch-theorem first (fresh_desk f) s (fresh-empty first s f) (fresh-known first s f) past p

-- what is shown after any calls
pub show-theorem : DemandShown step_of place_now question_now
show-theorem first s f past p number = run-shows first (fresh_desk f) s (fresh-empty first s f) (fresh-known first s f) past p number

-- the fault that lost three passes: a fresh packet, of the number next expected after any number of wraps, is never refused as a duplicate
pub fresh-never-duplicate : (first : ℕ) (s : State) (f : Fresh first s) (past : List Event) → NoneClear past → (time : ℤ) (number message location stamp : ℕ) (t : Lent) → stamp < 2 ^ 32
    → number ≡ number_of (book_after step_of (fresh f) past).ledger (next_of (book_after step_of (fresh f) past).ledger)
    → (a : Result DataAnswer Refusal) → (step_of (book_after step_of (fresh f) past).state t (calls.Data time number message location stamp)).answer ≡ answers.Data a
    → (data_line a).refusal ≡ 10 → ⊥
fresh-never-duplicate first s f past p time number message location stamp t k e a x q =
    let b = book_after step_of (fresh f) past in
    let c = calls.Data time number message location stamp in
    let h = (ledger-theorem first s f past p).holds in
    let u = ((ledger-theorem first s f past p).told (record { call = c; lent = t }) k).says in
    let v : Judges b.ledger b.desk.capacity (early_refusal b.desk t c) number a =
    subst (λ (y : Answer). Says b.ledger b.desk t c y (step_of b.state t c).output (step_of b.state t c).list) x u in
    let d = v.duplicate q in
    let w = b.state.head.window in
    let r = in_window w (in_parts b.state.head h.in_range).window in
    let n = sym (length-map (seen b.state) place_of) ∙ ap length h.agrees.entries in
    let m = entries-length w.capacity w.start b.state.slots b.state.payloads 0 w.held in
    let z = place-one 31 b.ledger.first (front_of b.ledger) (front_of b.ledger + d.0) (next_of b.ledger) (omega arith) (omega (arith, n, m, r.holds, r.most, d.1)) (omega arith) (omega (arith, n, m, r.holds, r.most)) (d.2 ∙ e) in
    let y = d.1 in
    omega arith

-- a run that holds nothing is a new start, and so is a clear of it; what the station knows goes on
module _ (first : ℕ) (d : Desk) (s : State) (f : Empty first s) (g : Known d s) (past : List Event) (p : NoneClear past) where
  abbrev last : Book
  last = book_after step_of (opening first d s) past

  pub empty-again : length last.ledger.held ≡ 0 → Empty (number_of last.ledger (front_of last.ledger)) last.state × Known last.desk last.state
  unfolding run_of
  empty-again z =
      let a = run-stands first d s f g past p in
      let n = window-count last.state.slots last.state.payloads a in
      let e : last.ledger.held ≡ [] = none-held last.ledger.held z in
      let q : front_of last.ledger + 0 ≡ front_of last.ledger = omega arith in (
        record {
          kept = run-kept first d s f g past p;
          none = n ∙ z;
          begins = a.front;
          acked =
              lrsn-said a
              ∙ ap (λ (x : List Place). number_of last.ledger (front_of last.ledger + received_run x)) e
              ∙ ap (number_of last.ledger) q;
        },
        run-known first d s f g past p,
      )
    where
      none-held : (xs : List Place) → length xs ≡ 0 → xs ≡ []
      none-held [] e = refl
      none-held (x ∷ xs) e = absurd (omega arith)

pub clear-empty : (first : ℕ) (d : Desk) (s : State) (t : Lent) → Empty first s → Known d s → Empty first (step_of s t calls.Clear).state × Known d (step_of s t calls.Clear).state
unfolding clear_call_of cleared_of
clear-empty first d s t f k =
    let n = first_refusal (head_rules (head_ok s.head)) in (
      record {
        kept = cleared-kept s.head f.kept;
        none = by-refusal (λ (o : ClearOutcome). o.cleared.head.window.held ≡ 0) n _ _ (λ x z. refl) (λ e z. f.none);
        begins = by-refusal (λ (o : ClearOutcome). o.cleared.head.window.seqno0 ≡ first) n _ _ (λ x z. f.begins) (λ e z. f.begins);
        acked = by-refusal (λ (o : ClearOutcome). o.cleared.head.window.lrsn ≡ first) n _ _ (λ x z. f.acked) (λ e z. f.acked);
      },
      record {
        capacity = by-refusal (λ (o : ClearOutcome). o.cleared.head.window.capacity ≡ d.capacity) n _ _ (λ x z. k.capacity) (λ e z. k.capacity);
        latency = by-refusal (λ (o : ClearOutcome). o.cleared.head.latency ≡ d.latency) n _ _ (λ x z. k.latency) (λ e z. k.latency);
        dropping = by-refusal (λ (o : ClearOutcome). o.cleared.head.dropping ≡ d.dropping) n _ _ (λ x z. k.dropping) (λ e z. k.dropping);
        slots = k.slots;
        payloads = k.payloads;
        history = k.history;
        latest = by-refusal (λ (o : ClearOutcome). o.cleared.head.latest ≡ d.latest) n _ _ (λ x z. k.latest) (λ e z. k.latest);
      },
    )
