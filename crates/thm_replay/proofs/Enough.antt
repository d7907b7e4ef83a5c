-- With the areas that a replay lends and a capacity of at most 32, no call answers 2, 11 or 12, whatever the head and
-- the arguments; and every call leaves the capacity and the lengths. Assumes nothing.
use mathlib.Core.Path.{◌≡◌, refl, sym, ◌∙◌}
use mathlib.Core.Bool.{Bool, true, false, cond}
use mathlib.Core.List.{List, [], ◌∷◌}
use Prim.Native.Nat.{ℕ, zero, suc, ◌+◌, ◌*◌, ◌≤◌}
use native.Mathlib.Omega.{arith}
use borrow.Author.Tests.{le-ltb}
use lib.Dec.{eqb, ltb}
use lib.IntN.{ℤ}
use lib.ListN.{length}
use Rattle.numbers.specs.Circular.{distance}
use Rattle.numbers.proofs.Flags.{by-test, impossible}
use Rattle.std.specs.Prelude.{Option, Some, None, Result, Ok, Err}
use Rattle.acks.specs.History.{ack2_of, full_ack_of, light_ack_of}
use Rattle.acks.specs.declared.history.History.{History}
use Rattle.acks.specs.declared.history.Acked.{Acked}
use Rattle.acks.specs.declared.history.Answered.{Answered}
use Rattle.acks.specs.declared.history.FasnWorn.{FasnWorn}
use Rattle.clock.specs.Sync.{synchronized}
use Rattle.clock.specs.declared.base.DriftRange.{DriftRange}
use Rattle.clock.specs.declared.time.Step.{Step}
use Rattle.clock.specs.declared.time.Synchronized.{Synchronized}
use Rattle.clock.specs.declared.time.Synchronized.TheVariants as clocks
use Rattle.slots.specs.Words.{entry_at, write_at, length_in, message_in, is_first, is_last, in_message}
use Rattle.slots.specs.Ring.{slot_of}
use Rattle.slots.proofs.Laws.{length-read}
use Rattle.window.specs.Window.{entry_in, slot_in, with_lrsn, room_of}
use Rattle.window.specs.Push.{PushOutcome, received, grown, moved_past, recovered_lrsn, recovered_of, push_of}
use Rattle.window.specs.declared.Window.{Window}
use Rattle.window.specs.declared.push.Packet.{Packet}
use Rattle.window.specs.declared.push.PushAnswer.{PushAnswer}
use Rattle.window.specs.declared.push.PushAnswer.TheVariants as pushes
use Rattle.window.specs.declared.push.Pushed.{Pushed}
use Rattle.window.specs.declared.push.PushRefusal.{PushRefusal}
use Rattle.window.specs.declared.push.PushRefusal.TheVariants as push_refusals
use Rattle.window.proofs.Ranges.{in_window}
use Rattle.window_pop.specs.Pop.{PopOutcome, run_from, message_of, pop_of}
use Rattle.window_pop.specs.declared.pop.Message.{Message}
use Rattle.window_pop.proofs.PopLaws.{pop-cases}
use Rattle.window_report.specs.Report.{ReportOutcome, needed, report_of}
use Rattle.window_report.proofs.ReportLaws.{needed-held}
use Rattle.head.specs.Rules.{Rule, number_of, first_refusal, push_rules, pop_rules, timed_rules, drop_rules, clock_rules, head_rules}
use Rattle.head.specs.Head.{head_ok}
use Rattle.head.specs.declared.refusal.Refusal.{Refusal}
use Rattle.head.specs.declared.state.Head.{Head}
use Rattle.head.proofs.Gates.{by-refusal, err-ok}
use Rattle.head.proofs.Ready.{timed-ready, pop-ready}
use Rattle.receiver.specs.Data as receiving
use Rattle.receiver.specs.Data.{packet, data_call_of}
use Rattle.receiver.specs.Message as message
use Rattle.receiver.specs.Message.{pop_call_of}
use Rattle.receiver.specs.Paper.{data_line, message_line}
use Rattle.feedback.specs.Acking as acking
use Rattle.feedback.specs.Acking.{full_ack_call_of, ack2_call_of}
use Rattle.feedback.specs.Loss as loss
use Rattle.feedback.specs.Loss.{report_call_of}
use Rattle.feedback.specs.Paper.{loss_line, clock_line, full_ack_line, rtt_line}
use Rattle.feedback.specs.Sync as sync
use Rattle.feedback.specs.Sync.{clock_call_of}
use Rattle.upkeep.specs.Paper.{drop_line, clear_line}
use Rattle.upkeep.specs.Request as request
use Rattle.upkeep.specs.Request.{drop_call_of, clear_call_of}
use Rattle.step.specs.Step.{State, Lent, step_of}
use Rattle.step.specs.declared.Call.{Call}
use Rattle.step.specs.declared.Call.TheVariants as calls
use Rattle.trace.specs.Lends.{most_capacity, AreasLent}
use Rattle.ledger.proofs.Moves.{push-cases}
use Rattle.ledger.proofs.Knows.{data-long, pop-capacity, pop-long, report-same, list-long, drop-long, full-ack-same, ack2-same, clock-same}
use Rattle.thm_replay.specs.Short.{says_short, lent_in, left_in}

-- the first refusal of a list is that of a test that holds
abbrev Enough : ℕ → Type 0
Enough n = says_short n ≡ false

abbrev Rules : List Rule → Type 0
Rules [] = Unit {0}
Rules (r ∷ rs) = (r.bad ≡ true → Enough (number_of r.refusal)) × Rules rs

then-enough : (bad : Bool) (e : Refusal) (r : Result Unit Refusal) → (bad ≡ true → Enough (number_of e)) → ((f : Refusal) → r ≡ Err f → Enough (number_of f))
    → (f : Refusal) → cond bad (Err e) r ≡ Err f → Enough (number_of f)
then-enough true e r a g f q = let s : e ≡ f = cc in rw (← s) (a refl)
then-enough false e r a g f q = g f q

first-enough : (rs : List Rule) → Rules rs → (e : Refusal) → first_refusal rs ≡ Err e → Enough (number_of e)
first-enough [] a e q = absurd (err-ok (sym q))
first-enough (r ∷ rs) a e q = then-enough r.bad r.refusal (first_refusal rs) a.0 (first-enough rs a.1) e q

-- an area that is long enough is not short
long-enough : (len need : ℕ) → need ≤ len → ltb len need ≡ true → Enough 2
long-enough len need h e = impossible (sym e ∙ le-ltb len need h)

-- a data packet
module _ (h : Head) (ws bs : List ℕ) (now : ℤ) (p : Packet) (payload : List ℕ) where
  abbrev push_tests : List Rule
  push_tests = push_rules (head_ok h) h.window.capacity (length ws) (length bs) now h.latest p (length payload)

  light-enough : (g : Head) (lrsn : ℕ) (recovered : Bool) (y : Option History) → Enough (data_line (receiving.light_or_got g lrsn recovered y).answer).refusal
  light-enough g lrsn recovered (Some y) = refl
  light-enough g lrsn recovered None = refl

  taken-enough : (w : Window) (a : PushAnswer) (number size : ℕ) → Enough (data_line (receiving.after_taken h w a now number size).answer).refusal
  unfolding receiving.got_of receiving.acked_of
  taken-enough w (pushes.Got lrsn recovered) number size =
      let g = receiving.placed_of (cond recovered h (receiving.rated_of h now number size)) w now in
      light-enough g lrsn recovered (light_ack_of g.history lrsn)
  taken-enough w (pushes.Loss first last) number size = refl

  push-enough : (r : Result Pushed PushRefusal) (number size : ℕ) → Enough (data_line (receiving.after_push h r now number size).answer).refusal
  push-enough (Ok r) number size = taken-enough r.window r.answer number size
  push-enough (Err push_refusals.BufferFull) number size = refl
  push-enough (Err (push_refusals.PacketTooEarly places need)) number size = refl
  push-enough (Err push_refusals.PacketTooLate) number size = refl
  push-enough (Err push_refusals.DiscardedDuplicate) number size = refl

  data-enough : 3 * h.window.capacity ≤ length ws → 1456 * h.window.capacity ≤ length bs → Enough (data_line (data_call_of h ws bs now p payload).handled.answer).refusal
  unfolding data_call_of receiving.taken_of
  data-enough a b =
      by-refusal (λ (o : receiving.DataOutcome). Enough (data_line o.handled.answer).refusal) (first_refusal push_tests) _ _
      (λ x z. push-enough (push_of h.window ws bs now p payload).pushed p.number (length payload))
      (first-enough push_tests (
        λ e. refl,
        (
          long-enough (length ws) (3 * h.window.capacity) a,
          (
            long-enough (length bs) (1456 * h.window.capacity) b,
            (λ e. refl, (λ e. refl, (λ e. refl, (λ e. refl, (λ e. refl, (λ e. refl, tt)))))),
          ),
        ),
      ))

  light-capacity : (g : Head) (lrsn : ℕ) (recovered : Bool) (y : Option History) → (receiving.light_or_got g lrsn recovered y).head.window.capacity ≡ g.window.capacity
  light-capacity g lrsn recovered (Some y) = refl
  light-capacity g lrsn recovered None = refl

  got-capacity : (w : Window) (lrsn : ℕ) (recovered : Bool) → (receiving.got_of h w lrsn recovered now p.number (length payload)).head.window.capacity ≡ w.capacity
  unfolding receiving.got_of receiving.acked_of
  got-capacity w lrsn recovered =
      let g = receiving.placed_of (cond recovered h (receiving.rated_of h now p.number (length payload))) w now in
      light-capacity g lrsn recovered (light_ack_of g.history lrsn)

  data-capacity : (data_call_of h ws bs now p payload).handled.head.window.capacity ≡ h.window.capacity
  unfolding data_call_of receiving.taken_of recovered_of
  data-capacity =
      let w = h.window in
      by-refusal (λ (o : receiving.DataOutcome). o.handled.head.window.capacity ≡ w.capacity) (first_refusal push_tests) _ _
      (λ x z.
      push-cases w ws bs now p payload
      (λ (o : PushOutcome). (receiving.after_push h o.pushed now p.number (length payload)).head.window.capacity ≡ w.capacity)
      (λ q c. refl)
      (λ q. got-capacity (grown w p 1) (moved_past w.lrsn p.number) false)
      (λ q c. refl)
      (λ q c. refl)
      (λ q b. refl)
      (λ i n.
      let at = distance 31 p.number w.seqno0 in
      let lrsn = recovered_lrsn w p.number (write_at ws (slot_in w at) (received p payload)) at in
      got-capacity (with_lrsn w lrsn) lrsn true)
      (λ i n. refl))
      (λ e z. refl)

-- a pop: a message has at most 1,456 bytes for each entry held
abbrev Most : ℕ → Option Message → Type 0
Most n (Some m) = m.bytes ≤ n
Most n None = Unit {0}

most-more : (x : Option Message) {n k : ℕ} → n ≤ k → Most n x → Most k x
most-more (Some m) h l = omega arith
most-more None h l = tt

most-some : (n : ℕ) (m : Message) {x : Option Message} → Some m ≡ x → Most n x → m.bytes ≤ n
most-some n m e l = rw (← e) at l

run-most : (capacity start : ℕ) (ws : List ℕ) (m i total n : ℕ) → Most (total + 1456 * n) (run_from capacity start ws m i total n)
unfolding run_from
run-most capacity start ws m i total zero = tt
run-most capacity start ws m i total (suc n) =
    let e = entry_at ws (slot_of capacity start i) in
    let l = length-read ws (slot_of capacity start i) in
    by-test (Most (total + 1456 * suc n)) (in_message m e) _ _
    (λ t.
    by-test (Most (total + 1456 * suc n)) (is_last e) _ _
    (λ u. omega arith)
    (λ u. most-more (run_from capacity start ws m (i + 1) (total + length_in e) n) (omega arith) (run-most capacity start ws m (i + 1) (total + length_in e) n)))
    (λ t. tt)

message-most : (w : Window) (ws : List ℕ) → Most (1456 * w.held) (message_of w ws)
unfolding message_of
message-most w ws =
    let m = message_in (entry_in w ws 0) in
    by-test (Most (1456 * w.held)) (is_first (entry_in w ws 0)) _ _
    (λ t. most-more (run_from w.capacity w.start ws m 0 0 w.held) (omega arith) (run-most w.capacity w.start ws m 0 0 w.held))
    (λ t. tt)

module _ (h : Head) (ws bs out : List ℕ) (now : ℤ) where
  abbrev pop_tests : List Rule
  pop_tests = pop_rules (head_ok h) h.window.capacity (length ws) (length bs) now h.latest

  abbrev PopEnough : PopOutcome → Type 0
  PopEnough x = Enough (message_line (message.answer_of x.popped)).refusal

  pop-fits : Most (length out) (message_of h.window ws) → PopEnough (pop_of h.clock h.latency h.dropping h.window ws now bs out)
  pop-fits fits =
      pop-cases h.clock h.latency h.dropping h.window ws now bs out PopEnough
      refl
      (λ m e long. let some = most-some (length out) m e fits in absurd (omega arith))
      (λ m e short. refl)
      (λ n stamp some held. refl)

  pop-enough : h.window.capacity ≤ most_capacity → 3 * h.window.capacity ≤ length ws → 1456 * h.window.capacity ≤ length bs → 1456 * most_capacity ≤ length out
      → Enough (message_line (pop_call_of h ws bs out now).given.answer).refusal
  unfolding pop_call_of message.taken_of
  pop-enough small a b c =
      by-refusal (λ (o : message.MessageOutcome). Enough (message_line o.given.answer).refusal) (first_refusal pop_tests) _ _
      (λ x z.
      let r = pop-ready h now ws bs (sym z) in
      let holds = r.good.ranges.holds in
      pop-fits (most-more (message_of h.window ws) (omega arith) (message-most h.window ws)))
      (first-enough pop_tests (
        λ e. refl,
        (long-enough (length ws) (3 * h.window.capacity) a, (long-enough (length bs) (1456 * h.window.capacity) b, (λ e. refl, (λ e. refl, tt)))),
      ))

-- a loss report: at most a word for each entry held
module _ (h : Head) (ws list : List ℕ) (now : ℤ) where
  abbrev report_tests : List Rule
  report_tests = timed_rules (head_ok h) (length ws) (3 * h.window.capacity) now h.latest

  abbrev ReportEnough : ReportOutcome → Type 0
  ReportEnough x = Enough (loss_line (loss.answer_of x.answer) x.list).refusal

  report-fits : h.window.held ≤ length list → ReportEnough (report_of h.window ws now h.rtt.mean list)
  unfolding report_of
  report-fits fits =
      let w = h.window in
      let n = needed w ws now h.rtt.mean in
      let most : n ≤ length list = omega (arith, needed-held w ws now h.rtt.mean) in
      by-test ReportEnough (eqb n 0) _ _ (λ t. refl) (λ t. rw (le-ltb _ _ most))

  report-enough : h.window.capacity ≤ length list → 3 * h.window.capacity ≤ length ws → Enough (loss_line (report_call_of h ws list now).reported.answer (report_call_of h ws list now).list).refusal
  unfolding report_call_of loss.reported_of
  report-enough small a =
      by-refusal (λ (o : loss.LossOutcome). Enough (loss_line o.reported.answer o.list).refusal) (first_refusal report_tests) _ _
      (λ x z.
      let r = (timed-ready h now (length ws) (3 * h.window.capacity) (sym z)).0.head in
      let holds = (in_window h.window r.window).holds in
      report-fits (omega arith))
      (first-enough report_tests (λ e. refl, (long-enough (length ws) (3 * h.window.capacity) a, (λ e. refl, (λ e. refl, tt)))))

-- ACKs
module _ (h : Head) (a : List ℕ) (now : ℤ) where
  abbrev ack_tests : List Rule
  ack_tests = timed_rules (head_ok h) (length a) 2048 now h.latest

  ack-tests : 2048 ≤ length a → (e : Refusal) → first_refusal ack_tests ≡ Err e → Enough (number_of e)
  ack-tests l = first-enough ack_tests (λ e. refl, (long-enough (length a) 2048 l, (λ e. refl, (λ e. refl, tt))))

  after-ack : (x : Result (Option Acked) FasnWorn) → Enough (full_ack_line (acking.after_ack h x now).answer).refusal
  after-ack (Ok None) = refl
  after-ack (Ok (Some k)) = refl
  after-ack (Err e) = refl

  abbrev AckEnough : acking.FullAckOutcome → Type 0
  AckEnough o = Enough (full_ack_line o.acked.answer).refusal

  full-ack-enough : 2048 ≤ length a → AckEnough (full_ack_call_of h a now)
  unfolding full_ack_call_of acking.due_ack acking.roomy_ack
  full-ack-enough l =
      by-refusal AckEnough (first_refusal ack_tests) _ _
      (λ x z.
      by-test AckEnough (eqb (room_of h.window) 0) _ _
      (λ t. refl)
      (λ t. after-ack (full_ack_of h.history a now h.rtt.mean h.latency h.window.lrsn).acked))
      (ack-tests l)

  after-ack2 : (x : Option Answered) → Enough (rtt_line (acking.after_ack2 h x now).answer).refusal
  after-ack2 None = refl
  after-ack2 (Some k) = refl

  ack2-enough : (number : ℕ) → 2048 ≤ length a → Enough (rtt_line (ack2_call_of h a now number).acked2.answer).refusal
  unfolding ack2_call_of acking.held_ack2
  ack2-enough number l =
      by-refusal (λ (o : acking.Ack2Outcome). Enough (rtt_line o.acked2.answer).refusal) (first_refusal ack_tests) _ _
      (λ x z. after-ack2 (ack2_of h.history a now number))
      (ack-tests l)

-- a drop request, a clock sample and a clear
drop-enough : (h : Head) (ws : List ℕ) (first last : ℕ) → 3 * h.window.capacity ≤ length ws → Enough (drop_line (drop_call_of h ws first last).answer).refusal
unfolding drop_call_of
drop-enough h ws first last a =
    let tests = drop_rules (head_ok h) h.window.capacity (length ws) first last in
    by-refusal (λ (o : request.DropOutcome). Enough (drop_line o.answer).refusal) (first_refusal tests) _ _
    (λ x z. refl)
    (first-enough tests (λ e. refl, (long-enough (length ws) (3 * h.window.capacity) a, (λ e. refl, (λ e. refl, tt)))))

module _ (h : Head) (now : ℤ) (stamp : ℕ) where
  said-enough : (a : Synchronized) → Enough (clock_line (Ok a)).refusal
  said-enough clocks.Nothing = refl
  said-enough (clocks.Adjusted mean deviation) = refl
  said-enough (clocks.Unsteady deviation v) = refl

  after-sync : (x : Result Step DriftRange) → Enough (clock_line (sync.after_sync h x now).answer).refusal
  after-sync (Ok k) = said-enough k.answer
  after-sync (Err e) = refl

  clock-enough : Enough (clock_line (clock_call_of h now stamp).clocked.answer).refusal
  unfolding clock_call_of sync.sync_of
  clock-enough =
      let tests = clock_rules (head_ok h) now h.latest in
      by-refusal (λ (o : sync.ClockOutcome). Enough (clock_line o.clocked.answer).refusal) (first_refusal tests) _ _
      (λ x z. after-sync (synchronized h.clock now stamp))
      (first-enough tests (λ e. refl, (λ e. refl, (λ e. refl, tt))))

clear-enough : (h : Head) → Enough (clear_line (clear_call_of h).cleared.answer).refusal
unfolding clear_call_of
clear-enough h =
    by-refusal (λ (o : request.ClearOutcome). Enough (clear_line o.cleared.answer).refusal) (first_refusal (head_rules (head_ok h))) _ _
    (λ x z. refl)
    (first-enough (head_rules (head_ok h)) (λ e. refl, tt))

clear-capacity : (h : Head) → (clear_call_of h).cleared.head.window.capacity ≡ h.window.capacity
unfolding clear_call_of request.cleared_of
clear-capacity h =
    by-refusal (λ (o : request.ClearOutcome). o.cleared.head.window.capacity ≡ h.window.capacity) (first_refusal (head_rules (head_ok h))) _ _ (λ x z. refl) (λ e z. refl)

-- any call
module _ (s : State) (l : Lent) (small : s.head.window.capacity ≤ most_capacity) (lent : AreasLent (lent_in s l)) where
  abbrev ws : List ℕ
  ws = s.slots

  abbrev bs : List ℕ
  bs = s.payloads

  words : 3 * s.head.window.capacity ≤ length ws
  words = omega (arith, lent.slots)

  bytes : 1456 * s.head.window.capacity ≤ length bs
  bytes = omega (arith, lent.payloads)

  pub step-enough : (c : Call) → says_short (step_of s l c).line.refusal ≡ false
  step-enough (calls.Data time number message location stamp) = data-enough s.head ws bs time (packet number message location stamp) l.payload words bytes
  step-enough (calls.Pop time) = pop-enough s.head ws bs l.output time small words bytes (omega (arith, lent.output))
  step-enough (calls.Report time) = report-enough s.head ws l.list time (omega (arith, lent.list)) words
  step-enough (calls.FullAck time) = full-ack-enough s.head s.history time (omega (arith, lent.history))
  step-enough (calls.Ack2 time number) = ack2-enough s.head s.history time number (omega (arith, lent.history))
  step-enough (calls.Drop first last) = drop-enough s.head ws first last words
  step-enough (calls.Clock time stamp) = clock-enough s.head time stamp
  step-enough calls.Clear = clear-enough s.head

  pub step-capacity : (c : Call) → (step_of s l c).state.head.window.capacity ≡ s.head.window.capacity
  step-capacity (calls.Data time number message location stamp) = data-capacity s.head ws bs time (packet number message location stamp) l.payload
  step-capacity (calls.Pop time) = pop-capacity s.head ws bs l.output time
  step-capacity (calls.Report time) = (report-same s.head ws bs l.list time).0
  step-capacity (calls.FullAck time) = (full-ack-same s.head s.history time).0
  step-capacity (calls.Ack2 time number) = (ack2-same s.head s.history time number).0
  step-capacity (calls.Drop first last) = refl
  step-capacity (calls.Clock time stamp) = (clock-same s.head time stamp).0
  step-capacity calls.Clear = clear-capacity s.head

  -- each area by the length that it keeps
  lent_still : (ws₁ bs₁ a₁ out₁ list₁ : List ℕ) → length ws₁ ≡ length ws → length bs₁ ≡ length bs → length a₁ ≡ length s.history → length out₁ ≡ length l.output
      → length list₁ ≡ length l.list → AreasLent (record { slots = ws₁; payloads = bs₁; history = a₁; output = out₁; list = list₁ })
  lent_still ws₁ bs₁ a₁ out₁ list₁ p q r t u =
      record { slots = p ∙ lent.slots; payloads = q ∙ lent.payloads; history = r ∙ lent.history; output = t ∙ lent.output; list = u ∙ lent.list }

  pub step-lent : (c : Call) → AreasLent (left_in (step_of s l c))
  step-lent (calls.Data time number message location stamp) =
      let x = data-long s.head ws bs time (packet number message location stamp) l.payload in lent_still _ _ _ _ _ x.0 x.1 refl refl refl
  step-lent (calls.Pop time) = lent_still _ _ _ _ _ refl refl refl (pop-long s.head ws bs l.output time) refl
  step-lent (calls.Report time) = lent_still _ _ _ _ _ (report-same s.head ws bs l.list time).2 refl refl refl (list-long s.head ws bs l.list time)
  step-lent (calls.FullAck time) = lent_still _ _ _ _ _ refl refl (full-ack-same s.head s.history time).2 refl refl
  step-lent (calls.Ack2 time number) = lent
  step-lent (calls.Drop first last) = lent_still _ _ _ _ _ (drop-long s.head ws bs first last) refl refl refl refl
  step-lent (calls.Clock time stamp) = lent
  step-lent calls.Clear = lent
