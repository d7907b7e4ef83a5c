-- The receiver, bent: four programs that go wrong where a looser statement would not look. Demand 3 refuses each. docs/RULED_OUT.md lists them. Assumes nothing.
use mathlib.Core.Path.{◌≡◌, refl, ap, sym, ◌∙◌, subst}
use mathlib.Core.Bool.{true, false}
use mathlib.Core.List.{List, [], ◌∷◌}
use mathlib.Core.Logic.{◌⊎◌, inl, inr}
use Prim.Native.Nat.{ℕ, ◌<◌, ◌≤◌}
use native.Mathlib.Omega.{arith}
use lib.Dec.{eqb}
use lib.IntN.{pos, nat_abs}
use Rattle.std.specs.Prelude.{Result, Ok, Err}
use Rattle.numbers.specs.Circular.{distance, after, sum}
use Rattle.numbers.proofs.Flags.{impossible, by_bool}
use Rattle.head.proofs.Gates.{err-ok}
use Rattle.head.specs.Parts.{with_latest}
use Rattle.head.specs.Paper.{Line}
use Rattle.head.specs.Rules as rules
use Rattle.head.specs.declared.refusal.Refusal.{Refusal}
use Rattle.head.specs.declared.refusal.Refusal.TheVariants.{HeadBad, AreaShort, ClockRange, ClockBack, BadNumber, PayloadLong, BufferFull, PacketTooEarly, PacketTooLate, DiscardedDuplicate, OutShort, ListShort, FasnWorn, DriftRange, BadSetting}
use Rattle.receiver.specs.Data.{data_call_of}
use Rattle.receiver.specs.Data as receiving
use Rattle.receiver.specs.Paper.{data_line}
use Rattle.receiver.specs.declared.data.DataAnswer.{DataAnswer}
use Rattle.receiver.specs.declared.data.DataAnswer.TheVariants as datas
use Rattle.step.specs.Step.{State, state_of, Lent, Ended, line_of, step_of}
use Rattle.step.specs.declared.Call.{Call}
use Rattle.step.specs.declared.Call.TheVariants as calls
use Rattle.step.specs.declared.Answer.{Answer}
use Rattle.step.specs.declared.Answer.TheVariants as answers
use Rattle.views.specs.Lists.{run_of}
use Rattle.ledger.specs.Seen.{appends, refusal_in, refused_in}
use Rattle.ledger.specs.Ledger.{opened, number_of, next_of, ack_of, enter_data, enter}
use Rattle.ledger.specs.Runs.{Event, noted, book_after, fresh_desk}
use Rattle.ledger.specs.Claims.{DataAcks, Judges, Later, Refuses, early_refusal, Demand3}
use Rattle.ledger.proofs.Theorem.{ledger-theorem}
use Rattle.ledger.proofs.RuledOut.{small, small-fresh, packet, small-tests, told, refuses, acks-so, answer-is, must-append, grown, must-be-full}

-- the receiver's step with its answer, and so its line, and its state bent
abbrev pub bent_by : (Answer → Answer) → (State → State) → State → Lent → Call → Ended
bent_by f g s t c =
    let r = step_of s t c in
    record { answer = f r.answer; line = line_of (f r.answer) r.list; state = g r.state; output = r.output; list = r.list }

abbrev unmoved : State → State
unmoved s = s

-- the answer to a packet bent, all others as they are
abbrev pub on_data : (Result DataAnswer Refusal → Result DataAnswer Refusal) → Answer → Answer
on_data f (answers.Data a) = answers.Data (f a)
on_data f (answers.Pop a) = answers.Pop a
on_data f (answers.Report a) = answers.Report a
on_data f (answers.FullAck a) = answers.FullAck a
on_data f (answers.Ack2 a) = answers.Ack2 a
on_data f (answers.Drop a) = answers.Drop a
on_data f (answers.Clock a) = answers.Clock a
on_data f (answers.Clear a) = answers.Clear a

abbrev first_call : Call
first_call = calls.Data (pos 0) 0 0 3 0

abbrev first_event : Event
first_event = record { call = first_call; lent = packet }

-- 1. every acknowledgement number that is told is 1,000 too high
abbrev pub ahead : ℕ → ℕ
ahead n = sum 31 n 1000

abbrev pub ahead_data : Result DataAnswer Refusal → Result DataAnswer Refusal
ahead_data (Ok (datas.Got lrsn recovered)) = Ok (datas.Got (ahead lrsn) recovered)
ahead_data (Ok (datas.Light lrsn recovered)) = Ok (datas.Light (ahead lrsn) recovered)
ahead_data (Ok (datas.Loss a b)) = Ok (datas.Loss a b)
ahead_data (Err e) = Err e

abbrev one : Result DataAnswer Refusal → ℕ
one x = ack_of (enter_data (opened 0) 0 (7 ∷ []) x)

pub acknowledges-past-holes : Demand3 (bent_by (on_data ahead_data) unmoved) → ⊥
unfolding book_after small-fresh sum run_of
acknowledges-past-holes demand =
    let w = answer-is step_of ledger-theorem 0 small small-fresh [] tt (pos 0) 0 0 3 0 packet (omega arith) in
    let x = w.0 in
    let m = must-append step_of ledger-theorem 0 small small-fresh [] tt (pos 0) 0 0 3 0 packet (omega arith) refl small-tests (omega arith) in
    let u = acks-so step_of ledger-theorem 0 small small-fresh [] tt (pos 0) 0 0 3 0 packet (omega arith) x w.1 in
    let v = acks-so (bent_by (on_data ahead_data) unmoved) demand 0 small small-fresh [] tt (pos 0) 0 0 3 0 packet (omega arith) (ahead_data x) (ap (on_data ahead_data) w.1) in
    go x m u v
  where
    go : (x : Result DataAnswer Refusal) → appends x ≡ true → DataAcks (one x) x → DataAcks (one (ahead_data x)) (ahead_data x) → ⊥
    go (Ok (datas.Got lrsn true)) m u v = impossible (sym m)
    go (Ok (datas.Got lrsn false)) m u v = let z = sym (ap ahead u) ∙ v in omega arith
    go (Ok (datas.Light lrsn true)) m u v = impossible (sym m)
    go (Ok (datas.Light lrsn false)) m u v = let z = sym (ap ahead u) ∙ v in omega arith
    go (Ok (datas.Loss a b)) m u v = impossible (sym m)
    go (Err e) m u v = impossible (sym m)

-- 2. after its first call it has the latest reading that there is, and so refuses with 4 from then on
abbrev pub far_of : State → State
far_of s = state_of (with_latest s.head (pos 1152921504606846975)) s.slots s.payloads s.history

abbrev same : Answer → Answer
same a = a

pub takes-one-then-none : Demand3 (bent_by same far_of) → ⊥
unfolding book_after small-fresh
takes-one-then-none demand =
    let a = (step_of small packet first_call).answer in
    let k = (demand 0 small small-fresh (first_event ∷ []) (omega arith, tt)).holds.known.latest in
    by_bool (eqb (refusal_in a) 0)
    (λ t. let z : pos 1152921504606846975 ≡ pos 0 = k ∙ rw t in absurd (omega (arith, ap nat_abs z)))
    (λ t. let z : pos 1152921504606846975 ≡ pos 0 = k ∙ rw t in absurd (omega (arith, ap nat_abs z)))

-- 3. a packet that is late, a duplicate or past a full window is refused by no number: 0, which a C caller reads as
-- taken. The refusals themselves all have a number, so it is the line that says 0
abbrev unsaid : Refusal → ℕ
unsaid BufferFull = 0
unsaid PacketTooLate = 0
unsaid DiscardedDuplicate = 0
unsaid e = rules.number_of e

abbrev pub unsaid_data : Answer → Line → Line
unsaid_data (answers.Data (Err e)) l = record { word = l.word; refusal = unsaid e; values = l.values; exact = l.exact }
unsaid_data _ l = l

abbrev pub unsaid_step : State → Lent → Call → Ended
unsaid_step s t c =
    let r = step_of s t c in
    record { answer = r.answer; line = unsaid_data r.answer r.line; state = r.state; output = r.output; list = r.list }

-- a packet just before the first number
abbrev late_call : Call
late_call = calls.Data (pos 0) 2147483647 0 3 0

late-tests : early_refusal (fresh_desk small-fresh) packet late_call ≡ Ok tt
unfolding small-fresh
late-tests = refl

pub refuses-by-no-number : Demand3 unsaid_step → ⊥
unfolding book_after small-fresh sum distance after
refuses-by-no-number demand =
    let w = answer-is step_of ledger-theorem 0 small small-fresh [] tt (pos 0) 2147483647 0 3 0 packet (omega arith) in
    let j = told step_of ledger-theorem 0 small small-fresh [] tt (pos 0) 2147483647 0 3 0 packet (omega arith) w.0 w.1 in
    let q = refuses step_of ledger-theorem 0 small small-fresh [] tt (pos 0) 2147483647 0 3 0 packet (omega arith) w.0 w.1 in
    let r = step_of small packet late_call in
    let u = ((ledger-theorem 0 small small-fresh [] tt).told (record { call = late_call; lent = packet }) (omega arith)).line in
    let v = ((demand 0 small small-fresh [] tt).told (record { call = late_call; lent = packet }) (omega arith)).line in
    go w.0 r.list j q (subst (λ (x : Answer). unsaid_data x (line_of x r.list) ≡ line_of x r.list) w.1 (ap (unsaid_data r.answer) (sym u) ∙ v))
  where
    -- a refusal of it is a later one
    later : (e : Refusal) → Refuses (early_refusal (fresh_desk small-fresh) packet late_call) late_call (answers.Data (Err e)) → (7 ≤ rules.number_of e) × (rules.number_of e ≤ 10)
    later e q = by_tested q.tested
      where
        by_tested : (refused_in (answers.Data (Err e)) ≡ early_refusal (fresh_desk small-fresh) packet late_call) ⊎ ((early_refusal (fresh_desk small-fresh) packet late_call ≡ Ok tt) × Later late_call (refusal_in (answers.Data (Err e))))
            → (7 ≤ rules.number_of e) × (rules.number_of e ≤ 10)
        by_tested (inl u) = absurd (err-ok (u ∙ late-tests))
        by_tested (inr u) = u.1

    wrong_number : (e : Refusal) (list : List ℕ) → unsaid e ≡ 0 → 0 < rules.number_of e → unsaid_data (answers.Data (Err e)) (line_of (answers.Data (Err e)) list) ≡ line_of (answers.Data (Err e)) list → ⊥
    wrong_number e list z n v = let y : unsaid e ≡ rules.number_of e = ap (λ (l : Line). l.refusal) v in omega arith

    go : (x : Result DataAnswer Refusal) (list : List ℕ) → Judges (opened 0) 1 (early_refusal (fresh_desk small-fresh) packet late_call) 2147483647 x
        → Refuses (early_refusal (fresh_desk small-fresh) packet late_call) late_call (answers.Data x)
        → unsaid_data (answers.Data x) (line_of (answers.Data x) list) ≡ line_of (answers.Data x) list → ⊥
    go (Ok (datas.Got lrsn true)) list j q v = let z = (j.for_lost refl).1 in omega arith
    go (Ok (datas.Got lrsn false)) list j q v = let z = j.in_order refl in omega arith
    go (Ok (datas.Light lrsn true)) list j q v = let z = (j.for_lost refl).1 in omega arith
    go (Ok (datas.Light lrsn false)) list j q v = let z = j.in_order refl in omega arith
    go (Ok (datas.Loss a b)) list j q v = impossible (sym (j.after_gap refl))
    go (Err HeadBad) list j q v = let z = later HeadBad q in omega (arith, z.0, z.1)
    go (Err AreaShort) list j q v = let z = later AreaShort q in omega (arith, z.0, z.1)
    go (Err ClockRange) list j q v = let z = later ClockRange q in omega (arith, z.0, z.1)
    go (Err ClockBack) list j q v = let z = later ClockBack q in omega (arith, z.0, z.1)
    go (Err BadNumber) list j q v = let z = later BadNumber q in omega (arith, z.0, z.1)
    go (Err PayloadLong) list j q v = let z = later PayloadLong q in omega (arith, z.0, z.1)
    go (Err BufferFull) list j q v = wrong_number BufferFull list refl (omega arith) v
    go (Err (PacketTooEarly room need)) list j q v = impossible (sym (j.early refl).0)
    go (Err PacketTooLate) list j q v = wrong_number PacketTooLate list refl (omega arith) v
    go (Err DiscardedDuplicate) list j q v = wrong_number DiscardedDuplicate list refl (omega arith) v
    go (Err OutShort) list j q v = let z = later OutShort q in omega (arith, z.0, z.1)
    go (Err ListShort) list j q v = let z = later ListShort q in omega (arith, z.0, z.1)
    go (Err FasnWorn) list j q v = let z = later FasnWorn q in omega (arith, z.0, z.1)
    go (Err DriftRange) list j q v = let z = later DriftRange q in omega (arith, z.0, z.1)
    go (Err BadSetting) list j q v = let z = later BadSetting q in omega (arith, z.0, z.1)

-- 4. a packet past a full window is refused as too early
abbrev pub full_as_early : Result DataAnswer Refusal → Result DataAnswer Refusal
full_as_early (Err BufferFull) = Err (PacketTooEarly 0 0)
full_as_early x = x

never-seven : (x : Result DataAnswer Refusal) → (data_line (full_as_early x)).refusal ≡ 7 → ⊥
never-seven (Ok (datas.Got lrsn recovered)) e = omega arith
never-seven (Ok (datas.Light lrsn recovered)) e = omega arith
never-seven (Ok (datas.Loss a b)) e = omega arith
never-seven (Err HeadBad) e = omega arith
never-seven (Err AreaShort) e = omega arith
never-seven (Err ClockRange) e = omega arith
never-seven (Err ClockBack) e = omega arith
never-seven (Err BadNumber) e = omega arith
never-seven (Err PayloadLong) e = omega arith
never-seven (Err BufferFull) e = omega arith
never-seven (Err (PacketTooEarly room need)) e = omega arith
never-seven (Err PacketTooLate) e = omega arith
never-seven (Err DiscardedDuplicate) e = omega arith
never-seven (Err OutShort) e = omega arith
never-seven (Err ListShort) e = omega arith
never-seven (Err FasnWorn) e = omega arith
never-seven (Err DriftRange) e = omega arith
never-seven (Err BadSetting) e = omega arith

abbrev wrong : State → Lent → Call → Ended
wrong = bent_by (on_data full_as_early) unmoved

-- the packet after the first, which finds the window of one slot full
abbrev second_call : Call
second_call = calls.Data (pos 0) 1 0 3 0

second-tests : (a : Answer) → early_refusal (noted (fresh_desk small-fresh) first_call a) packet second_call ≡ Ok tt
unfolding small-fresh
second-tests a = by_bool (eqb (refusal_in a) 0) (λ t. rw t) (λ t. rw t)

second-number : (x : Result DataAnswer Refusal) → appends x ≡ true → 1 ≡ number_of (enter_data (opened 0) 0 (7 ∷ []) x) (next_of (enter_data (opened 0) 0 (7 ∷ []) x))
unfolding sum
second-number (Ok (datas.Got lrsn true)) m = impossible (sym m)
second-number (Ok (datas.Got lrsn false)) m = refl
second-number (Ok (datas.Light lrsn true)) m = impossible (sym m)
second-number (Ok (datas.Light lrsn false)) m = refl
second-number (Ok (datas.Loss a b)) m = impossible (sym m)
second-number (Err e) m = impossible (sym m)

pub full-is-too-early : Demand3 wrong → ⊥
unfolding book_after small-fresh sum
full-is-too-early demand =
    let a = answer-is wrong demand 0 small small-fresh [] tt (pos 0) 0 0 3 0 packet (omega arith) in
    let m = must-append wrong demand 0 small small-fresh [] tt (pos 0) 0 0 3 0 packet (omega arith) refl small-tests (omega arith) in
    let g = grown wrong demand 0 small small-fresh [] tt (pos 0) 0 0 3 0 packet (omega arith) m in
    let e = subst (λ (x : Answer). 1 ≡ number_of (enter (opened 0) first_call (7 ∷ []) x) (next_of (enter (opened 0) first_call (7 ∷ []) x))) (sym a.1) (second-number a.0 m) in
    let past : List Event = first_event ∷ [] in
    let x = answer-is wrong demand 0 small small-fresh past (omega arith, tt) (pos 0) 1 0 3 0 packet (omega arith) in
    let q = must-be-full wrong demand 0 small small-fresh past (omega arith, tt) (pos 0) 1 0 3 0 packet (omega arith) e (second-tests (wrong small packet first_call).answer) g in
    let y = (data_call_of (step_of small packet first_call).state.head (step_of small packet first_call).state.slots (step_of small packet first_call).state.payloads (pos 0) (receiving.packet 1 0 3 0) (7 ∷ [])).handled.answer in
    never-seven y (ap (λ (z : Result DataAnswer Refusal). (data_line z).refusal) (same_answer x.1) ∙ q)
  where
    same_answer : {x y : Result DataAnswer Refusal} → answers.Data x ≡ answers.Data y → x ≡ y
    same_answer e = cc
