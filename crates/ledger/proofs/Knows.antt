-- What the station knows stays so: no call moves the capacity or the length of an area, and the latest reading is that of the last call that was not refused.
-- And the acknowledgement number that an answer tells is the head's. Assumes nothing.
use mathlib.Core.Path.{◌≡◌, refl, ap, sym, ◌∙◌}
use mathlib.Core.Bool.{Bool, true, false, cond}
use mathlib.Core.List.{List, []}
use Prim.Native.Nat.{ℕ, ◌+◌, ◌-◌, ◌*◌, ◌^◌, ◌<◌}
use native.Mathlib.Omega.{arith}
use borrow.Author.Tests.{ne_eqb, eqb-false, ltb-true, ltb-false}
use lib.Dec.{eqb, ltb, lit≤}
use lib.IntN.{ℤ}
use lib.ListN.{length}
use Rattle.std.specs.Prelude.{Option, Some, None, Result, Ok, Err}
use Rattle.numbers.proofs.Flags.{by_bool, by-test}
use Rattle.numbers.specs.Circular.{distance}
use Rattle.acks.specs.History.{ack2_of, full_ack_of, light_ack_of}
use Rattle.acks.specs.declared.history.History.{History}
use Rattle.acks.specs.declared.history.Acked as given
use Rattle.acks.specs.declared.history.FasnWorn.{FasnWorn}
use Rattle.acks.specs.declared.history.Answered.{Answered}
use Rattle.acks.proofs.HistoryKept.{full-ack-length}
use Rattle.clock.specs.Sync.{synchronized}
use Rattle.clock.specs.declared.base.DriftRange.{DriftRange}
use Rattle.clock.specs.declared.time.Step.{Step}
use Rattle.clock.specs.declared.time.Synchronized.{Synchronized}
use Rattle.clock.specs.declared.time.Synchronized.TheVariants as clocks
use Rattle.slots.proofs.Laws.{length-write, length-payload, slot_lt}
use Rattle.slots.specs.Ring.{with_payload}
use Rattle.window.specs.Window.{slot_in, next_of, room_of}
use Rattle.window.specs.Push.{PushOutcome, recovered_of, push_of}
use Rattle.window.specs.declared.Window.{Window}
use Rattle.window.specs.declared.push.Packet.{Packet}
use Rattle.window.specs.declared.push.Pushed.{Pushed}
use Rattle.window.specs.declared.push.PushRefusal.{PushRefusal}
use Rattle.window.specs.declared.push.PushAnswer.{PushAnswer}
use Rattle.window.specs.declared.push.PushAnswer.TheVariants as pushes
use Rattle.window.proofs.Pushes.{length-lost}
use Rattle.window_pop.specs.Pop.{PopOutcome, discard_front, pop_of}
use Rattle.window_pop.specs.declared.pop.Popped.{Popped}
use Rattle.window_pop.specs.declared.pop.OutShort.{OutShort}
use Rattle.window_pop.specs.declared.pop.PopAnswer.{PopAnswer}
use Rattle.window_pop.specs.declared.pop.PopAnswer.TheVariants as pops
use Rattle.window_pop.proofs.PopLaws.{pop-cases, pop-length}
use Rattle.window_report.specs.Drop.{drop_from, drop_to, drop_of}
use Rattle.window_report.specs.Report.{ReportOutcome, needed, report_of}
use Rattle.window_report.specs.declared.report.ListShort.{ListShort}
use Rattle.window_report.proofs.ReportLaws.{by-outcome, length-slots, list-keeps, needed-held}
use Rattle.window_report.proofs.DropLaws.{sweep-long}
use Rattle.head.specs.Rules.{number_of, push_refused, first_refusal, push_rules, pop_rules, timed_rules, drop_rules, clock_rules}
use Rattle.head.specs.Head.{head_ok}
use Rattle.head.specs.declared.state.Head.{Head}
use Rattle.head.specs.Parts.{with_latest}
use Rattle.head.specs.declared.refusal.Refusal.{Refusal}
use Rattle.head.proofs.Gates.{by-refusal}
use Rattle.head.proofs.Ready.{push-ready, pop-ready}
use Rattle.receiver.specs.Data as receiving
use Rattle.receiver.specs.Data.{DataOutcome, packet, light_or_got, acked_of, got_of, taken_of, data_call_of}
use Rattle.receiver.specs.Paper.{data_line, message_line}
use Rattle.receiver.specs.Message as message
use Rattle.receiver.specs.Message.{MessageOutcome, pop_call_of}
use Rattle.feedback.specs.Acking.{FullAckOutcome, full_ack_ended, Ack2Outcome, after_ack, after_ack2, roomy_ack, due_ack, full_ack_call_of, held_ack2, ack2_call_of}
use Rattle.feedback.specs.Loss.{LossOutcome, head_after, answer_of, reported_of, report_call_of}
use Rattle.feedback.specs.Paper.{loss_line, clock_line, full_ack_line, rtt_line}
use Rattle.feedback.specs.Sync.{ClockOutcome, after_sync, sync_of, clock_call_of}
use Rattle.upkeep.specs.Request.{DropOutcome, drop_call_of}
use Rattle.upkeep.specs.Paper.{drop_line}
use Rattle.paper.proofs.Reach.{refusal-under}
use Rattle.kept.proofs.Says.{Says, PushSays, push-says}
use Rattle.step.specs.Step.{State, Lent, line_of, step_of}
use Rattle.step.specs.declared.Call.{Call}
use Rattle.step.specs.declared.Call.TheVariants as calls
use Rattle.step.specs.declared.Answer.{Answer}
use Rattle.views.specs.View.{entries, LrsnRight}
use Rattle.ledger.specs.Seen.{NotClear, reading_in, refusal_in}
use Rattle.ledger.specs.Runs.{Desk, noted, Known}
use Rattle.ledger.specs.Claims.{Reports, DataAcks, FullAcks, Acks}
use Rattle.ledger.proofs.Moves.{number-some, push-cases, data-moves}

-- the settings that a head has beside its capacity
abbrev Settings : Head → Head → Type 0
Settings h h₁ = (h₁.latency ≡ h.latency) × (h₁.dropping ≡ h.dropping)

-- what a call leaves as it was
pub record Same (s s₁ : State) (c : Call) (a : Answer) : Type 0 where
  pub capacity : s₁.head.window.capacity ≡ s.head.window.capacity
  pub settings : Settings s.head s₁.head
  pub slots : length s₁.slots ≡ length s.slots
  pub payloads : length s₁.payloads ≡ length s.payloads
  pub history : length s₁.history ≡ length s.history
  pub latest : s₁.head.latest ≡ cond (eqb (refusal_in a) 0) (reading_in c s.head.latest) s.head.latest

-- the latest reading by the number of a refusal
abbrev by_number : ℕ → ℤ → ℤ → ℤ
by_number n now latest = cond (eqb n 0) now latest

refused-latest : (e : Refusal) (now latest : ℤ) → latest ≡ by_number (number_of e) now latest
refused-latest e now latest = let z : number_of e ≡ 0 → ⊥ = λ q. omega (arith, q, number-some e) in rw (ne_eqb (number_of e) 0 z)

module _ (h : Head) (ws bs : List ℕ) where
  abbrev w : Window
  w = h.window

  -- a data packet
  module _ (now : ℤ) (p : Packet) (payload : List ℕ) where
    abbrev tests : Result Unit Refusal
    tests = first_refusal (push_rules (head_ok h) w.capacity (length ws) (length bs) now h.latest p (length payload))

    pub data-capacity : p.stamp < 2 ^ 32 → LrsnRight w (entries w ws bs) → (data_call_of h ws bs now p payload).handled.head.window.capacity ≡ w.capacity
    data-capacity hs r =
        data-moves h ws bs now p payload hs r (λ v fs x. v.capacity ≡ w.capacity)
        (λ e t a. refl) (λ d q c. refl) (λ d a b c. refl) (λ d q b. refl) (λ d i n. refl) (λ d light lrsn q z. refl) (λ d a b z. refl) (λ d light lrsn i n z. refl)

    abbrev Long : DataOutcome → Type 0
    Long o = (length o.slots ≡ length ws) × (length o.payloads ≡ length bs)

    pub data-long : Long (data_call_of h ws bs now p payload)
    unfolding data_call_of taken_of recovered_of
    data-long =
        by-refusal Long tests _ _
        (λ x z.
        let r = push-ready h ws bs now p payload (sym z) in
        let bytes : (i : ℕ) → length (with_payload bs (slot_in w i) payload) ≡ length bs =
        λ i. length-payload bs (slot_in w i) payload r.right.bytes (omega (arith, slot_lt w.capacity w.start i r.good.ranges.some, r.payloads)) in
        push-cases w ws bs now p payload (λ (o : PushOutcome). (length o.slots ≡ length ws) × (length o.payloads ≡ length bs))
        (λ q c. (refl, refl))
        (λ q. (length-write _ _ _, bytes w.held))
        (λ q c. (refl, refl))
        (λ q c. (length-write _ _ _ ∙ length-lost w.capacity w.start ws now w.held (distance 31 p.number (next_of w)), bytes (w.held + distance 31 p.number (next_of w))))
        (λ q b. (refl, refl))
        (λ i n. (length-write _ _ _, bytes (distance 31 p.number w.seqno0)))
        (λ i n. (refl, refl)))
        (λ e z. (refl, refl))

    -- the head that a light ACK is asked of
    abbrev come : Bool → Window → ℕ → Head
    come recovered v size = receiving.placed_of (cond recovered h (receiving.rated_of h now p.number size)) v now

    got-latest : (g : Head) (lrsn : ℕ) (recovered : Bool) (y : Option History) → g.latest ≡ now
        → (light_or_got g lrsn recovered y).head.latest ≡ by_number (data_line (light_or_got g lrsn recovered y).answer).refusal now h.latest
    got-latest g lrsn recovered (Some y) e = e
    got-latest g lrsn recovered None e = e

    taken-latest : (v : Window) (a : PushAnswer) (size : ℕ)
        → (receiving.after_taken h v a now p.number size).head.latest ≡ by_number (data_line (receiving.after_taken h v a now p.number size).answer).refusal now h.latest
    unfolding got_of acked_of
    taken-latest v (pushes.Got lrsn recovered) size = let g = come recovered v size in got-latest g lrsn recovered (light_ack_of g.history lrsn) refl
    taken-latest v (pushes.Loss first last) size = refl

    after-latest : (r : Result Pushed PushRefusal) (size : ℕ)
        → (receiving.after_push h r now p.number size).head.latest ≡ by_number (data_line (receiving.after_push h r now p.number size).answer).refusal now h.latest
    after-latest (Ok r) size = taken-latest r.window r.answer size
    after-latest (Err e) size = refused-latest (push_refused e) now h.latest

    got-settings : (g : Head) (lrsn : ℕ) (recovered : Bool) (y : Option History) → Settings h g → Settings h (light_or_got g lrsn recovered y).head
    got-settings g lrsn recovered (Some y) e = e
    got-settings g lrsn recovered None e = e

    come-settings : (recovered : Bool) (v : Window) (size : ℕ) → Settings h (come recovered v size)
    unfolding receiving.rated_of
    come-settings true v size = (refl, refl)
    come-settings false v size = (refl, refl)

    taken-settings : (v : Window) (a : PushAnswer) (size : ℕ) → Settings h (receiving.after_taken h v a now p.number size).head
    unfolding got_of acked_of
    taken-settings v (pushes.Got lrsn recovered) size =
        let g = come recovered v size in got-settings g lrsn recovered (light_ack_of g.history lrsn) (come-settings recovered v size)
    taken-settings v (pushes.Loss first last) size = (refl, refl)

    after-settings : (r : Result Pushed PushRefusal) (size : ℕ) → Settings h (receiving.after_push h r now p.number size).head
    after-settings (Ok r) size = taken-settings r.window r.answer size
    after-settings (Err e) size = (refl, refl)

    pub data-settings : Settings h (data_call_of h ws bs now p payload).handled.head
    unfolding data_call_of taken_of
    data-settings =
        by-refusal (λ (o : DataOutcome). Settings h o.handled.head) tests _ _
        (λ x z. after-settings (push_of w ws bs now p payload).pushed (length payload))
        (λ e z. (refl, refl))

    pub data-latest : (data_call_of h ws bs now p payload).handled.head.latest ≡ by_number (data_line (data_call_of h ws bs now p payload).handled.answer).refusal now h.latest
    unfolding data_call_of taken_of
    data-latest =
        by-refusal (λ (o : DataOutcome). o.handled.head.latest ≡ by_number (data_line o.handled.answer).refusal now h.latest) tests _ _
        (λ x z. after-latest (push_of w ws bs now p payload).pushed (length payload))
        (λ e z. refused-latest e now h.latest)

    -- its acknowledgement number
    got-acks : (g : Head) (lrsn : ℕ) (recovered : Bool) (y : Option History) → lrsn ≡ g.window.lrsn
        → DataAcks (light_or_got g lrsn recovered y).head.window.lrsn (light_or_got g lrsn recovered y).answer
    got-acks g lrsn recovered (Some y) e = e
    got-acks g lrsn recovered None e = e

    taken-acks : (v : Window) (a : PushAnswer) (size : ℕ) → Says v.lrsn a
        → DataAcks (receiving.after_taken h v a now p.number size).head.window.lrsn (receiving.after_taken h v a now p.number size).answer
    unfolding got_of acked_of
    taken-acks v (pushes.Got lrsn recovered) size e = let g = come recovered v size in got-acks g lrsn recovered (light_ack_of g.history lrsn) e
    taken-acks v (pushes.Loss first last) size e = tt

    after-acks : (r : Result Pushed PushRefusal) (size : ℕ) → PushSays r
        → DataAcks (receiving.after_push h r now p.number size).head.window.lrsn (receiving.after_push h r now p.number size).answer
    after-acks (Ok r) size e = taken-acks r.window r.answer size e
    after-acks (Err f) size e = tt

    pub data-acks : DataAcks (data_call_of h ws bs now p payload).handled.head.window.lrsn (data_call_of h ws bs now p payload).handled.answer
    unfolding data_call_of taken_of
    data-acks =
        by-refusal (λ (o : DataOutcome). DataAcks o.handled.head.window.lrsn o.handled.answer) tests _ _
        (λ x z.
        after-acks (push_of w ws bs now p payload).pushed (length payload) (push-says w ws bs now p payload))
        (λ e z. tt)

  -- a pop
  module _ (out : List ℕ) (now : ℤ) where
    abbrev pop_tests : Result Unit Refusal
    pop_tests = first_refusal (pop_rules (head_ok h) w.capacity (length ws) (length bs) now h.latest)

    pub pop-capacity : (pop_call_of h ws bs out now).given.head.window.capacity ≡ w.capacity
    unfolding pop_call_of message.taken_of discard_front
    pop-capacity =
        by-refusal (λ (o : MessageOutcome). o.given.head.window.capacity ≡ w.capacity) pop_tests _ _
        (λ x z.
        pop-cases h.clock h.latency h.dropping w ws now bs out
        (λ (x : PopOutcome). (message.head_after h x.popped now).window.capacity ≡ w.capacity)
        refl (λ m e long. refl) (λ m e fits. refl) (λ n stamp some held. refl))
        (λ e z. refl)

    answer-settings : (r : Result Popped OutShort) → Settings h (message.head_after h r now)
    answer-settings (Ok r) = (refl, refl)
    answer-settings (Err e) = (refl, refl)

    pub pop-settings : Settings h (pop_call_of h ws bs out now).given.head
    unfolding pop_call_of message.taken_of
    pop-settings =
        by-refusal (λ (o : MessageOutcome). Settings h o.given.head) pop_tests _ _
        (λ x z. answer-settings (pop_of h.clock h.latency h.dropping w ws now bs out).popped)
        (λ e z. (refl, refl))

    pub pop-long : length (pop_call_of h ws bs out now).output ≡ length out
    unfolding pop_call_of message.taken_of
    pop-long =
        by-refusal (λ (o : MessageOutcome). length o.output ≡ length out) pop_tests _ _
        (λ x z. let r = pop-ready h now ws bs (sym z) in pop-length h.clock h.latency h.dropping w ws now bs out r.good.ranges.starts r.payloads)
        (λ e z. refl)

    said-latest : (a : PopAnswer) → now ≡ by_number (message_line (Ok a)).refusal now h.latest
    said-latest pops.Nothing = refl
    said-latest (pops.Message time bytes packets) = refl
    said-latest (pops.Late first end delay) = refl

    answer-latest : (r : Result Popped OutShort) → (message.head_after h r now).latest ≡ by_number (message_line (message.answer_of r)).refusal now h.latest
    answer-latest (Ok r) = said-latest r.answer
    answer-latest (Err e) = refl

    pub pop-latest : (pop_call_of h ws bs out now).given.head.latest ≡ by_number (message_line (pop_call_of h ws bs out now).given.answer).refusal now h.latest
    unfolding pop_call_of message.taken_of
    pop-latest =
        by-refusal (λ (o : MessageOutcome). o.given.head.latest ≡ by_number (message_line o.given.answer).refusal now h.latest) pop_tests _ _
        (λ x z. answer-latest (pop_of h.clock h.latency h.dropping w ws now bs out).popped)
        (λ e z. refused-latest e now h.latest)

  -- a loss report
  module _ (list : List ℕ) (now : ℤ) where
    abbrev report_tests : Result Unit Refusal
    report_tests = first_refusal (timed_rules (head_ok h) (length ws) (3 * w.capacity) now h.latest)

    report-window : (a : Result (Option ℕ) ListShort) → (head_after h a now).window.capacity ≡ w.capacity
    report-window (Ok words) = refl
    report-window (Err e) = refl

    report-settings : (a : Result (Option ℕ) ListShort) → Settings h (head_after h a now)
    report-settings (Ok words) = (refl, refl)
    report-settings (Err e) = (refl, refl)

    report-read : (a : Result (Option ℕ) ListShort) → (head_after h a now).latest ≡ by_number (loss_line (answer_of a) []).refusal now h.latest
    report-read (Ok None) = refl
    report-read (Ok (Some words)) = refl
    report-read (Err e) = refl

    abbrev Reported : LossOutcome → Type 0
    Reported o =
        (o.reported.head.window.capacity ≡ w.capacity)
        × Settings h o.reported.head
        × (length o.slots ≡ length ws)
        × (o.reported.head.latest ≡ by_number (loss_line o.reported.answer []).refusal now h.latest)

    pub report-same : Reported (report_call_of h ws list now)
    unfolding report_call_of reported_of
    report-same =
        by-refusal Reported report_tests _ _
        (λ x z.
        let o = report_of w ws now h.rtt.mean list in (
          report-window o.answer,
          report-settings o.answer,
          by-outcome w ws now h.rtt.mean list (λ (x : ReportOutcome). length x.slots ≡ length ws) refl refl (length-slots w ws now h.rtt.mean w.held),
          report-read o.answer,
        ))
        (λ e z. (refl, (refl, refl), refl, refused-latest e now h.latest))

    pub list-long : length (report_call_of h ws list now).list ≡ length list
    unfolding report_call_of reported_of
    list-long =
        by-refusal (λ (o : LossOutcome). length o.list ≡ length list) report_tests _ _
        (λ x z. list-keeps w ws now h.rtt.mean list)
        (λ e z. refl)

    -- its words, and refusal 12
    abbrev Told : ReportOutcome → Type 0
    Told x = length x.list ≡ length list → Reports w.held (answer_of x.answer) x.list

    report-told : Told (report_of w ws now h.rtt.mean list)
    unfolding report_of
    report-told =
        let n = needed w ws now h.rtt.mean in
        by-test Told (eqb n 0) _ _
        (λ t e. tt)
        (λ t.
        by-test Told (ltb (length list) n) _ _
        (λ u e z. omega (arith, ltb-true (length list) n u, needed-held w ws now h.rtt.mean))
        (λ u e. (omega (arith, eqb-false n 0 t), omega (arith, ltb-false (length list) n u, e))))

    pub report-says : Reports w.held (report_call_of h ws list now).reported.answer (report_call_of h ws list now).list
    unfolding report_call_of reported_of
    report-says =
        by-refusal (λ (o : LossOutcome). Reports w.held o.reported.answer o.list) report_tests _ _
        (λ x z. report-told (list-keeps w ws now h.rtt.mean list))
        (λ e z q. absurd (omega (arith, q, refusal-under 4 (timed_rules (head_ok h) (length ws) (3 * w.capacity) now h.latest) (lit≤ tt, (lit≤ tt, (lit≤ tt, (lit≤ tt, tt)))) z)))

  -- a drop request
  pub drop-long : (first last : ℕ) → length (drop_call_of h ws first last).slots ≡ length ws
  unfolding drop_call_of drop_of
  drop-long first last =
      by-refusal (λ (o : DropOutcome). length o.slots ≡ length ws) (first_refusal (drop_rules (head_ok h) w.capacity (length ws) first last)) _ _
      (λ x z. sweep-long w.capacity w.start ws (drop_from w first) (drop_to w last - drop_from w first))
      (λ e z. refl)

-- ACKs and the clock
module _ (h : Head) (b : List ℕ) (now : ℤ) where
  abbrev ack_tests : Result Unit Refusal
  ack_tests = first_refusal (timed_rules (head_ok h) (length b) 2048 now h.latest)

  abbrev Acked : FullAckOutcome → Type 0
  Acked o =
      (o.acked.head.window.capacity ≡ h.window.capacity)
      × Settings h o.acked.head
      × (length o.area ≡ length b)
      × (o.acked.head.latest ≡ by_number (full_ack_line o.acked.answer).refusal now h.latest)
      × FullAcks o.acked.head.window.lrsn (room_of o.acked.head.window) o.acked.answer

  pub full-ack-same : Acked (full_ack_call_of h b now)
  unfolding full_ack_call_of due_ack roomy_ack
  full-ack-same =
      by-refusal Acked ack_tests _ _
      (λ x z.
      by-test Acked (eqb (room_of h.window) 0) (full_ack_ended (record { head = with_latest h now; answer = Ok None }) b) (roomy_ack h b now)
      (λ t. (refl, (refl, refl), refl, refl, tt))
      (λ t.
      let k = full_ack_of h.history b now h.rtt.mean h.latency h.window.lrsn in
      go k.acked k.area (full-ack-length h.history b now h.rtt.mean h.latency h.window.lrsn)))
      (λ e z. (refl, (refl, refl), refl, refused-latest e now h.latest, tt))
    where
      go : (x : Result (Option given.Acked) FasnWorn) (area : List ℕ) → length area ≡ length b
          → ((after_ack h x now).head.window.capacity ≡ h.window.capacity)
          × Settings h (after_ack h x now).head
          × (length area ≡ length b)
          × ((after_ack h x now).head.latest ≡ by_number (full_ack_line (after_ack h x now).answer).refusal now h.latest)
          × FullAcks (after_ack h x now).head.window.lrsn (room_of (after_ack h x now).head.window) (after_ack h x now).answer
      go (Ok None) area e = (refl, (refl, refl), e, refl, tt)
      go (Ok (Some k)) area e = (refl, (refl, refl), e, refl, (refl, refl))
      go (Err f) area e = (refl, (refl, refl), e, refl, tt)

  abbrev Acked2 : Ack2Outcome → Type 0
  Acked2 o =
      (o.acked2.head.window.capacity ≡ h.window.capacity)
      × Settings h o.acked2.head
      × (o.acked2.head.latest ≡ by_number (rtt_line o.acked2.answer).refusal now h.latest)

  pub ack2-same : (number : ℕ) → Acked2 (ack2_call_of h b now number)
  unfolding ack2_call_of held_ack2
  ack2-same number =
      by-refusal Acked2 ack_tests _ _
      (λ x z. go (ack2_of h.history b now number))
      (λ e z. (refl, (refl, refl), refused-latest e now h.latest))
    where
      go : (x : Option Answered)
          → ((after_ack2 h x now).head.window.capacity ≡ h.window.capacity)
          × Settings h (after_ack2 h x now).head
          × ((after_ack2 h x now).head.latest ≡ by_number (rtt_line (after_ack2 h x now).answer).refusal now h.latest)
      go None = (refl, (refl, refl), refl)
      go (Some k) = (refl, (refl, refl), refl)

module _ (h : Head) (now : ℤ) (stamp : ℕ) where
  abbrev Clocked : ClockOutcome → Type 0
  Clocked o =
      (o.clocked.head.window.capacity ≡ h.window.capacity)
      × Settings h o.clocked.head
      × (o.clocked.head.latest ≡ by_number (clock_line o.clocked.answer).refusal now h.latest)

  pub clock-same : Clocked (clock_call_of h now stamp)
  unfolding clock_call_of sync_of
  clock-same =
      by-refusal Clocked (first_refusal (clock_rules (head_ok h) now h.latest)) _ _
      (λ x z. go (synchronized h.clock now stamp))
      (λ e z. (refl, (refl, refl), refused-latest e now h.latest))
    where
      said : (a : Synchronized) → now ≡ by_number (clock_line (Ok a)).refusal now h.latest
      said clocks.Nothing = refl
      said (clocks.Adjusted mean deviation) = refl
      said (clocks.Unsteady deviation v) = refl

      go : (x : Result Step DriftRange)
          → ((after_sync h x now).head.window.capacity ≡ h.window.capacity)
          × Settings h (after_sync h x now).head
          × ((after_sync h x now).head.latest ≡ by_number (clock_line (after_sync h x now).answer).refusal now h.latest)
      go (Ok k) = (refl, (refl, refl), said k.answer)
      go (Err e) = (refl, (refl, refl), refl)

-- any call
either : (n : ℕ) (z : ℤ) → z ≡ by_number n z z
either n z = by_bool (eqb n 0) (λ t. rw t) (λ t. rw t)

pub step_same : (s : State) (t : Lent) (c : Call) → NotClear c → LrsnRight s.head.window (entries s.head.window s.slots s.payloads) → Same s (step_of s t c).state c (step_of s t c).answer
step_same s t (calls.Data time number message location stamp) k r =
    let p = packet number message location stamp in
    let l = data-long s.head s.slots s.payloads time p t.payload in
    record {
      capacity = data-capacity s.head s.slots s.payloads time p t.payload k r;
      settings = data-settings s.head s.slots s.payloads time p t.payload;
      slots = l.0;
      payloads = l.1;
      history = refl;
      latest = data-latest s.head s.slots s.payloads time p t.payload;
    }
step_same s t (calls.Pop time) k r =
    record {
      capacity = pop-capacity s.head s.slots s.payloads t.output time;
      settings = pop-settings s.head s.slots s.payloads t.output time;
      slots = refl;
      payloads = refl;
      history = refl;
      latest = pop-latest s.head s.slots s.payloads t.output time;
    }
step_same s t (calls.Report time) k r =
    let x = report-same s.head s.slots s.payloads t.list time in
    record { capacity = x.0; settings = x.1; slots = x.2; payloads = refl; history = refl; latest = x.3 }
step_same s t (calls.FullAck time) k r =
    let x = full-ack-same s.head s.history time in
    record { capacity = x.0; settings = x.1; slots = refl; payloads = refl; history = x.2; latest = x.3 }
step_same s t (calls.Ack2 time number) k r =
    let x = ack2-same s.head s.history time number in
    record { capacity = x.0; settings = x.1; slots = refl; payloads = refl; history = refl; latest = x.2 }
step_same s t (calls.Drop first last) k r =
    record {
      capacity = refl;
      settings = (refl, refl);
      slots = drop-long s.head s.slots s.payloads first last;
      payloads = refl;
      history = refl;
      latest = either (drop_line (drop_call_of s.head s.slots first last).answer).refusal s.head.latest;
    }
step_same s t (calls.Clock time stamp) k r =
    let x = clock-same s.head time stamp in
    record { capacity = x.0; settings = x.1; slots = refl; payloads = refl; history = refl; latest = x.2 }
step_same s t calls.Clear k r = absurd k

pub known-after : {d : Desk} {s s₁ : State} {c : Call} {a : Answer} → Known d s → Same s s₁ c a → Known (noted d c a) s₁
known-after {c = c} {a = a} k q =
    record {
      capacity = q.capacity ∙ k.capacity;
      latency = q.settings.0 ∙ k.latency;
      dropping = q.settings.1 ∙ k.dropping;
      slots = q.slots ∙ k.slots;
      payloads = q.payloads ∙ k.payloads;
      history = q.history ∙ k.history;
      latest = q.latest ∙ ap (λ (z : ℤ). cond (eqb (refusal_in a) 0) (reading_in c z) z) k.latest;
    }

pub step-acks : (s : State) (t : Lent) (c : Call) → NotClear c → Acks (step_of s t c).state.head.window.lrsn (room_of (step_of s t c).state.head.window) (step_of s t c).answer
step-acks s t (calls.Data time number message location stamp) k = data-acks s.head s.slots s.payloads time (packet number message location stamp) t.payload
step-acks s t (calls.Pop time) k = tt
step-acks s t (calls.Report time) k = tt
step-acks s t (calls.FullAck time) k = (full-ack-same s.head s.history time).4
step-acks s t (calls.Ack2 time number) k = tt
step-acks s t (calls.Drop first last) k = tt
step-acks s t (calls.Clock time stamp) k = tt
step-acks s t calls.Clear k = absurd k

pub step_line : (s : State) (t : Lent) (c : Call) → (step_of s t c).line ≡ line_of (step_of s t c).answer (step_of s t c).list
step_line s t (calls.Data time number message location stamp) = refl
step_line s t (calls.Pop time) = refl
step_line s t (calls.Report time) = refl
step_line s t (calls.FullAck time) = refl
step_line s t (calls.Ack2 time number) = refl
step_line s t (calls.Drop first last) = refl
step_line s t (calls.Clock time stamp) = refl
step_line s t calls.Clear = refl

-- output and list are as long as they were lent
pub step-lent : (s : State) (t : Lent) (c : Call) → (length (step_of s t c).output ≡ length t.output) × (length (step_of s t c).list ≡ length t.list)
step-lent s t (calls.Data time number message location stamp) = (refl, refl)
step-lent s t (calls.Pop time) = (pop-long s.head s.slots s.payloads t.output time, refl)
step-lent s t (calls.Report time) = (refl, list-long s.head s.slots s.payloads t.list time)
step-lent s t (calls.FullAck time) = (refl, refl)
step-lent s t (calls.Ack2 time number) = (refl, refl)
step-lent s t (calls.Drop first last) = (refl, refl)
step-lent s t (calls.Clock time stamp) = (refl, refl)
step-lent s t calls.Clear = (refl, refl)
