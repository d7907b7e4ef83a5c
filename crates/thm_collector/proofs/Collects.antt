-- A collector's calls are a run of the ledger's theorem: the words after each say the head of that run, the areas, the output and the list are its own, and so are the cells and the
-- counters. From the contracts of crates/exports, and of each call that its line is its answer's and that a refusal leaves the head. Assumes nothing.
use mathlib.Core.Path.{◌≡◌, refl, ap, sym, ◌∙◌, subst}
use mathlib.Core.Bool.{cond}
use mathlib.Core.List.{List, [], ◌∷◌}
use Prim.Native.Nat.{ℕ}
use native.Mathlib.Omega.{arith}
use borrow.Author.Tests.{eqb-false}
use lib.Dec.{eqb}
use lib.IntN.{ℤ}
use lib.ListN.{length}
use Rattle.std.specs.Prelude.{Result, Ok, Err}
use Rattle.numbers.proofs.Flags.{by_bool}
use Rattle.head.specs.Head.{made_of}
use Rattle.head.specs.Paper.{Line}
use Rattle.head.specs.declared.refusal.Refusal.{Refusal}
use Rattle.head.specs.declared.state.Head.{Head}
use Rattle.receiver.specs.Data.{packet, data_call_of}
use Rattle.receiver.specs.Message.{MessageOutcome, pop_call_of}
use Rattle.receiver.proofs.Answers.{data-line, data_head, message-line}
use Rattle.receiver.proofs.Stays.{message-stays}
use Rattle.feedback.specs.Acking.{full_ack_call_of, ack2_call_of}
use Rattle.feedback.specs.Loss.{LossOutcome, report_call_of}
use Rattle.feedback.specs.Sync.{clock_call_of}
use Rattle.feedback.proofs.Answers.{loss-line, full-ack-line, full-ack-head, ack2-line, ack2-head, clock-line, clock-head}
use Rattle.feedback.proofs.Stays.{loss-stays}
use Rattle.upkeep.specs.Request.{clear_call_of}
use Rattle.upkeep.proofs.Answers.{drop-line, clear-line, clear-head}
use Rattle.counts.specs.Counts as counting
use Rattle.counts.specs.declared.Counters.{Counters}
use Rattle.tally.specs.Tally.{counted_of}
use Rattle.packing.specs.Packed.{unpack_of}
use Rattle.packing.specs.Tally.{counters_words, counters_of}
use Rattle.cells.specs.Cells.{cells_of}
use Rattle.exports.specs.Calls.{Left, left, from_made, new_of, data_export_of, message_export_of, loss_export_of, full_ack_export_of, ack2_export_of, drop_export_of, clock_export_of, clear_export_of, data_counted_of, ack2_counted_of, drop_counted_of, clock_counted_of}
use Rattle.step.specs.Step.{State, state_of, Lent, step_of}
use Rattle.step.specs.declared.Call.{Call}
use Rattle.step.specs.declared.Call.TheVariants as calls
use Rattle.ledger.specs.Runs.{Desk, opening, book_after, Fresh, Known, Empty, NoneClear}
use Rattle.ledger.specs.Claims.{Demanded}
use Rattle.ledger.proofs.Moves.{number-some}
use Rattle.ledger.proofs.Theorem.{ledger-theorem, stretch-theorem, clear-empty}
use Rattle.thm_collector.specs.Collector.{desk_at, Kept, state_in, Back, Started, Form, plain, counted, Promised, PromisedCounted, Gives, Turn, events, kept_after, Ran, Same, run_of, AllSame, raised_by, counters_after, Collected}

-- the parts of what a call leaves
abbrev returned_in : Left → ℕ
returned_in y = y.returned

abbrev says_in : Left → Head
says_in y = y.says

abbrev cells_left : Left → List ℤ
cells_left y = y.cells

abbrev first_in : List (List ℕ) → List ℕ
first_in [] = []
first_in (x ∷ xs) = x

abbrev rest_in : List (List ℕ) → List (List ℕ)
rest_in [] = []
rest_in (x ∷ xs) = xs

abbrev area₁ : Left → List ℕ
area₁ y = first_in y.areas

abbrev area₂ : Left → List ℕ
area₂ y = first_in (rest_in y.areas)

-- the words after a call say its head: on a refusal they stay, and so does the head
says-head : (n : ℕ) (h h₁ : Head) → ((n ≡ 0 → ⊥) → h₁ ≡ h) → cond (eqb n 0) h₁ h ≡ h₁
says-head n h h₁ stays = by_bool (eqb n 0) (λ t. rw t) (λ t. rw t (sym (stays (eqb-false n 0 t))))

state-same : {h h₁ : Head} {ws ws₁ bs bs₁ a a₁ : List ℕ} → h ≡ h₁ → ws ≡ ws₁ → bs ≡ bs₁ → a ≡ a₁ → state_of h ws bs a ≡ state_of h₁ ws₁ bs₁ a₁
state-same e f g i = cc

-- a call with one equation: its parts, the line being the answer's
module _ (x : Kept) (t : Lent) (r : Back) where
  abbrev h : Head
  h = unpack_of x.words

  abbrev k : Kept
  k = r.kept

  -- one call
  pub one-call : (c : Call) → Promised x t r c → Same r (step_of (state_in x) t c)
  unfolding data_export_of message_export_of loss_export_of full_ack_export_of ack2_export_of drop_export_of clock_export_of clear_export_of
  one-call (calls.Data time number message location stamp) g =
      let p = packet number message location stamp in
      let o = data_call_of h x.slots x.payloads time p t.payload in
      let e = g.0 in
      let line = data-line h x.slots x.payloads time p t.payload in
      let head = says-head o.line.refusal h o.handled.head (data_head h x.slots x.payloads time p t.payload) in
      record {
        state = state-same (ap says_in e ∙ head) (ap area₁ e) (ap area₂ e) g.1;
        returned = ap returned_in e ∙ ap (λ (l : Line). l.refusal) line;
        cells = ap cells_left e ∙ ap cells_of line;
        output = g.2;
        list = g.3;
      }
  one-call (calls.Pop time) g =
      let o = pop_call_of h x.slots x.payloads t.output time in
      let e = g.0 in
      let line = message-line h x.slots x.payloads time t.output in
      let head =
      says-head o.line.refusal h o.given.head (λ n. ap (λ (y : MessageOutcome). y.given.head) (message-stays h x.slots x.payloads t.output time n)) in
      record {
        state = state-same (ap says_in e ∙ head) g.1 g.2 g.3;
        returned = ap returned_in e ∙ ap (λ (l : Line). l.refusal) line;
        cells = ap cells_left e ∙ ap cells_of line;
        output = ap area₁ e;
        list = g.4;
      }
  one-call (calls.Report time) g =
      let o = report_call_of h x.slots t.list time in
      let e = g.0 in
      let head = says-head o.line.refusal h o.reported.head (λ n. ap (λ (y : LossOutcome). y.reported.head) (loss-stays h x.slots t.list time n)) in
      record {
        state = state-same (ap says_in e ∙ head) (ap area₁ e) g.1 g.2;
        returned = ap returned_in e ∙ ap (λ (l : Line). l.refusal) (loss-line h x.slots time t.list);
        cells = ap cells_left e;
        output = g.3;
        list = ap area₂ e;
      }
  one-call (calls.FullAck time) g =
      let o = full_ack_call_of h x.history time in
      let e = g.0 in
      let line = full-ack-line h x.history time in
      let head = says-head o.line.refusal h o.acked.head (full-ack-head h x.history time) in
      record {
        state = state-same (ap says_in e ∙ head) g.1 g.2 (ap area₁ e);
        returned = ap returned_in e ∙ ap (λ (l : Line). l.refusal) line;
        cells = ap cells_left e ∙ ap cells_of line;
        output = g.3;
        list = g.4;
      }
  one-call (calls.Ack2 time number) g =
      let o = ack2_call_of h x.history time number in
      let e = g.0 in
      let line = ack2-line h x.history time number in
      let head = says-head o.line.refusal h o.acked2.head (ack2-head h x.history time number) in
      record {
        state = state-same (ap says_in e ∙ head) g.1 g.2 g.3;
        returned = ap returned_in e ∙ ap (λ (l : Line). l.refusal) line;
        cells = ap cells_left e ∙ ap cells_of line;
        output = g.4;
        list = g.5;
      }
  one-call (calls.Drop first last) g =
      let e = g.0 in
      let line = drop-line h x.slots first last in
      record {
        state = state-same (ap unpack_of g.1) (ap area₁ e) g.2 g.3;
        returned = ap returned_in e ∙ ap (λ (l : Line). l.refusal) line;
        cells = ap cells_left e ∙ ap cells_of line;
        output = g.4;
        list = g.5;
      }
  one-call (calls.Clock time stamp) g =
      let o = clock_call_of h time stamp in
      let e = g.0 in
      let line = clock-line h time stamp in
      let head = says-head o.line.refusal h o.clocked.head (clock-head h time stamp) in
      record {
        state = state-same (ap says_in e ∙ head) g.1 g.2 g.3;
        returned = ap returned_in e ∙ ap (λ (l : Line). l.refusal) line;
        cells = ap cells_left e ∙ ap cells_of line;
        output = g.4;
        list = g.5;
      }
  one-call calls.Clear g =
      let o = clear_call_of h in
      let e = g.0 in
      let line = clear-line h in
      let head = says-head o.line.refusal h o.cleared.head (clear-head h) in
      record {
        state = state-same (ap says_in e ∙ head) g.1 g.2 g.3;
        returned = ap returned_in e ∙ ap (λ (l : Line). l.refusal) line;
        cells = ap cells_left e ∙ ap cells_of line;
        output = g.4;
        list = g.5;
      }

  -- a form that counts gives what the plain one gives, and the counters by its answer
  abbrev uncounted : Left → Left
  uncounted y = record { returned = y.returned; words = y.words; says = y.says; cells = y.cells; areas = rest_in y.areas }

  abbrev raised : Call → List ℕ
  raised c = counters_words (counted_of (counters_of x.counts) (length t.payload) (step_of (state_in x) t c).answer)

  counted-call : (c : Call) → PromisedCounted x t r c → Promised x t r c × (k.counts ≡ raised c)
  unfolding data_export_of ack2_export_of drop_export_of clock_export_of data_counted_of ack2_counted_of drop_counted_of clock_counted_of
  counted-call (calls.Data time number message location stamp) g = ((ap uncounted g.0, g.1, g.2, g.3), ap area₁ g.0)
  counted-call (calls.Pop time) g = absurd g
  counted-call (calls.Report time) g = absurd g
  counted-call (calls.FullAck time) g = absurd g
  counted-call (calls.Ack2 time number) g = ((ap uncounted g.0, g.1, g.2, g.3, g.4, g.5), ap area₁ g.0)
  counted-call (calls.Drop first last) g = ((ap uncounted g.0, g.1, g.2, g.3, g.4, g.5), ap area₁ g.0)
  counted-call (calls.Clock time stamp) g = ((ap uncounted g.0, g.1, g.2, g.3, g.4, g.5), ap area₁ g.0)
  counted-call calls.Clear g = absurd g

  pub either-call : (f : Form) (c : Call) → Gives x t r f c → Same r (step_of (state_in x) t c)
  either-call plain c g = one-call c g.0
  either-call counted c g = one-call c (counted-call c g).0

  pub either-counts : (f : Form) (c : Call) (n : Counters) → Gives x t r f c → x.counts ≡ counters_words n
      → k.counts ≡ counters_words (raised_by f n (length t.payload) (step_of (state_in x) t c).answer)
  either-counts plain c n g e = g.1 ∙ e
  either-counts counted c n g e =
      (counted-call c g).1 ∙ ap (λ (ws : List ℕ). counters_words (counted_of (counters_of ws) (length t.payload) (step_of (state_in x) t c).answer)) e

-- any calls
module _ (first : ℕ) (d : Desk) (x : Kept) where
  -- the receiver that the collector keeps is that of the run
  pub run-state : (us : List Turn) → Ran x us → state_in (kept_after x us) ≡ (run_of first d x us).state
  unfolding book_after
  run-state [] g = refl
  run-state (u ∷ us) g =
      (either-call (kept_after x us) u.event.lent u.back u.form u.event.call g.0).state
      ∙ ap (λ (s : State). (step_of s u.event.lent u.event.call).state) (run-state us g.1)

  -- and so is what each call gave
  pub run-same : (us : List Turn) → Ran x us → AllSame first d x us
  run-same [] g = tt
  run-same (u ∷ us) g =
      (subst (λ (s : State). Same u.back (step_of s u.event.lent u.event.call)) (run-state us g.1) (either-call (kept_after x us) u.event.lent u.back u.form u.event.call g.0), run-same us g.1)

  -- and the counters
  pub run-counts : (n : Counters) (us : List Turn) → Ran x us → x.counts ≡ counters_words n → (kept_after x us).counts ≡ counters_words (counters_after first d x n us)
  run-counts n [] g z = z
  run-counts n (u ∷ us) g z =
      let a : State → List ℕ = λ s. counters_words (raised_by u.form (counters_after first d x n us) (length u.event.lent.payload) (step_of s u.event.lent u.event.call).answer) in
      either-counts (kept_after x us) u.event.lent u.back u.form u.event.call (counters_after first d x n us) g.0 (run-counts n us g.1 z)
      ∙ ap a (run-state us g.1)

  collected : (n : Counters) (us : List Turn) → Ran x us → x.counts ≡ counters_words n → Demanded step_of (opening first d (state_in x)) (events us) → Collected first d x n us
  collected n us g z q = record { demanded = q; receiver = run-state us g; same = run-same us g; counters = run-counts n us g z }

-- pt_new returned 0, so making gave the head that the words say
made-head : (before ws : List ℕ) (cells : List ℤ) (m : Result Head Refusal) → left 0 ws cells [] ≡ from_made before m → m ≡ Ok (unpack_of ws)
made-head before ws cells (Ok h) e = ap (λ (g : Head). Ok g) (sym (ap says_in e))
made-head before ws cells (Err f) e = absurd (omega (arith, ap returned_in e, number-some f))

module _ (first : ℕ) (x : Kept) where
  -- what pt_new makes is fresh
  pub new-fresh : Started first x → Fresh first (state_in x)
  unfolding new_of
  new-fresh s =
      record {
        start = s.start;
        latency = s.latency;
        dropping = s.dropping;
        capacity = s.capacity;
        made = made-head s.before x.words s.cells (made_of s.start s.latency s.dropping first s.capacity) s.made;
      }

  -- so demand 3 holds of any calls but clear, plain or counted, on what pt_new made
  pub collects : (s : Started first x) (us : List Turn) → NoneClear (events us) → Ran x us → Collected first (desk_at s) x counting.fresh us
  unfolding new-fresh
  collects s us n g = collected first (desk_at s) x counting.fresh us g s.zeroed (ledger-theorem first (state_in x) (new-fresh s) (events us) n)

  -- and from any moment at which the receiver holds nothing and has acknowledged all
  pub collects-on : (d : Desk) → Empty first (state_in x) → Known d (state_in x) → (c : Counters) → x.counts ≡ counters_words c → (us : List Turn) → NoneClear (events us) → Ran x us
      → Collected first d x c us
  collects-on d s k c z us n g = collected first d x c us g z (stretch-theorem first d (state_in x) s k (events us) n)

  -- a clear at such a moment leaves such a moment
  pub clears : (d : Desk) (t : Lent) (r : Back) → Gives x t r plain calls.Clear → Empty first (state_in x) → Known d (state_in x)
      → Empty first (state_in r.kept) × Known d (state_in r.kept)
  clears d t r g s k =
      subst (λ (y : State). Empty first y × Known d y) (sym (one-call x t r calls.Clear g.0).state) (clear-empty first d (state_in x) t s k)
