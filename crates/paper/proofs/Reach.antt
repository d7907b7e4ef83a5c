-- With areas long enough, arguments in range and readings that never go back, each call is refused by its own numbers only: a packet 7 to 10, a pop 11, a loss report 12,
-- a full ACK 13, a clock call 14, and an ACK2, a drop request, clear, room and shown by none. 01, "Refused, in order of test". Assumes nothing.
use mathlib.Core.Path.{◌≡◌, refl, sym}
use mathlib.Core.Bool.{Bool, true, false, not, cond}
use mathlib.Core.List.{List, [], ◌∷◌}
use mathlib.Core.Logic.{◌⊎◌, inl, inr}
use Prim.Native.Nat.{ℕ, ◌*◌, ◌^◌, ◌<◌, ◌≤◌}
use native.Mathlib.Omega.{arith}
use borrow.Author.Tests.{le-ltb, lt-leb}
use lib.Dec.{eqb}
use lib.IntN.{ℤ}
use lib.ListN.{length}
use lib.Signed.{lt_z}
use Rattle.std.specs.Prelude.{Option, Some, None, Result, Ok, Err}
use Rattle.numbers.specs.Instants.{is_reading}
use Rattle.acks.specs.History.{ack2_of, full_ack_of, light_ack_of}
use Rattle.acks.specs.declared.history.History.{History}
use Rattle.acks.specs.declared.history.Acked.{Acked}
use Rattle.acks.specs.declared.history.FasnWorn.{FasnWorn}
use Rattle.acks.specs.declared.history.Answered.{Answered}
use Rattle.clock.specs.Sync.{synchronized}
use Rattle.clock.specs.declared.base.DriftRange.{DriftRange}
use Rattle.clock.specs.declared.time.Step.{Step}
use Rattle.clock.specs.declared.time.Synchronized.{Synchronized}
use Rattle.clock.specs.declared.time.Synchronized.TheVariants as clocks
use Rattle.window.specs.Push.{push_of}
use Rattle.window.specs.Ready.{PacketRight}
use Rattle.window.specs.Show.{shown_of}
use Rattle.window.specs.Window.{room_of}
use Rattle.window.specs.declared.Window.{Window}
use Rattle.window.specs.declared.push.Packet.{Packet}
use Rattle.window.specs.declared.show.Part.{Part}
use Rattle.window.specs.declared.push.Pushed.{Pushed}
use Rattle.window.specs.declared.push.PushRefusal.{PushRefusal}
use Rattle.window.specs.declared.push.PushRefusal.TheVariants as push_refusals
use Rattle.window.specs.declared.push.PushAnswer.{PushAnswer}
use Rattle.window.specs.declared.push.PushAnswer.TheVariants as pushes
use Rattle.window_pop.specs.Pop.{pop_of}
use Rattle.window_pop.specs.declared.pop.Popped.{Popped}
use Rattle.window_pop.specs.declared.pop.OutShort.{OutShort}
use Rattle.window_pop.specs.declared.pop.PopAnswer.{PopAnswer}
use Rattle.window_pop.specs.declared.pop.PopAnswer.TheVariants as pops
use Rattle.window_report.specs.Report.{report_of}
use Rattle.window_report.specs.declared.report.ListShort.{ListShort}
use Rattle.head.specs.Rules.{Rule, number_of, first_refusal, push_rules, pop_rules, timed_rules, drop_rules, show_rules, clock_rules, head_rules}
use Rattle.head.specs.Head.{head_ok}
use Rattle.head.specs.declared.refusal.Refusal.{Refusal}
use Rattle.head.specs.declared.refusal.Refusal.TheVariants as refusals
use Rattle.head.specs.declared.state.Head.{Head}
use Rattle.head.proofs.Gates.{Clear, err-ok}
use Rattle.feedback.specs.Acking as acking
use Rattle.receiver.specs.Data as calls
use Rattle.feedback.specs.Loss as loss
use Rattle.receiver.specs.Message as message
use Rattle.upkeep.specs.Request as request
use Rattle.upkeep.specs.Show as show
use Rattle.feedback.specs.Sync as sync
use Rattle.receiver.specs.declared.data.DataAnswer.{DataAnswer}
use Rattle.receiver.specs.Paper.{data_line, message_line}
use Rattle.feedback.specs.Paper.{loss_line, clock_line, full_ack_line, rtt_line}
use Rattle.paper.specs.Reach.{OnlyIn, Unrefused, with_both}

-- no test holds, so nothing refuses
pub none-refuses : (l : List Rule) → Clear l → first_refusal l ≡ Ok tt
none-refuses [] c = refl
none-refuses (r ∷ rs) c = rw (c.0, none-refuses rs c.1)

good : {t : Bool} → t ≡ true → not t ≡ false
good e = rw e

-- a refusal of the call's own
within : {from to n : ℕ} → from ≤ n → n ≤ to → (n ≡ 0) ⊎ ((from ≤ n) × (n ≤ to))
within a b = inr (a, b)

-- light or not, a packet that came is refused by nothing
got-only : (h : Head) (lrsn : ℕ) (recovered : Bool) (y : Option History) → OnlyIn 7 10 (data_line (calls.light_or_got h lrsn recovered y).answer)
got-only h lrsn recovered (Some y) = inl refl
got-only h lrsn recovered None = inl refl

taken-only : (h : Head) (w : Window) (a : PushAnswer) (now : ℤ) (number size : ℕ) → OnlyIn 7 10 (data_line (calls.after_taken h w a now number size).answer)
unfolding calls.got_of calls.acked_of
taken-only h w (pushes.Got lrsn recovered) now number size =
    let x = calls.placed_of (cond recovered h (calls.rated_of h now number size)) w now in
    got-only x lrsn recovered (light_ack_of x.history lrsn)
taken-only h w (pushes.Loss first last) now number size = inl refl

push-only : (h : Head) (r : Result Pushed PushRefusal) (now : ℤ) (number size : ℕ) → OnlyIn 7 10 (data_line (calls.after_push h r now number size).answer)
push-only h (Ok p) now number size = taken-only h p.window p.answer now number size
push-only h (Err push_refusals.BufferFull) now number size = within (omega arith) (omega arith)
push-only h (Err (push_refusals.PacketTooEarly places need)) now number size = within (omega arith) (omega arith)
push-only h (Err push_refusals.PacketTooLate) now number size = within (omega arith) (omega arith)
push-only h (Err push_refusals.DiscardedDuplicate) now number size = within (omega arith) (omega arith)

popped-only : (a : PopAnswer) → OnlyIn 11 11 (message_line (Ok a))
popped-only pops.Nothing = inl refl
popped-only (pops.Message time bytes packets) = inl refl
popped-only (pops.Late first end delay) = inl refl

pop-only : (r : Result Popped OutShort) → OnlyIn 11 11 (message_line (message.answer_of r))
pop-only (Ok p) = popped-only p.answer
pop-only (Err e) = within (omega arith) (omega arith)

report-only : (r : Result (Option ℕ) ListShort) (list : List ℕ) → OnlyIn 12 12 (loss_line (loss.answer_of r) list)
report-only (Ok None) list = inl refl
report-only (Ok (Some words)) list = inl refl
report-only (Err e) list = within (omega arith) (omega arith)

place-only : (p : Option Part) → Unrefused (show.found_as p).line
place-only (Some p) = refl
place-only None = refl

synced-only : (a : Synchronized) → OnlyIn 14 14 (clock_line (Ok a))
synced-only clocks.Nothing = inl refl
synced-only (clocks.Adjusted mean deviation) = inl refl
synced-only (clocks.Unsteady deviation v) = inl refl

sync-only : (h : Head) (r : Result Step DriftRange) (now : ℤ) → OnlyIn 14 14 (clock_line (sync.after_sync h r now).answer)
sync-only h (Ok s) now = synced-only s.answer
sync-only h (Err e) now = within (omega arith) (omega arith)

ack-only : (h : Head) (r : Result (Option Acked) FasnWorn) (now : ℤ) → OnlyIn 13 13 (full_ack_line (acking.after_ack h r now).answer)
ack-only h (Ok None) now = inl refl
ack-only h (Ok (Some k)) now = inl refl
ack-only h (Err e) now = within (omega arith) (omega arith)

held-only : (h : Head) (r : Option Answered) (now : ℤ) → Unrefused (rtt_line (acking.after_ack2 h r now).answer)
held-only h None now = refl
held-only h (Some k) now = refl

by_both : {A : Type 0} (P : A → Type 0) (t : Bool) (x y : A) → P x → P y → P (cond t x y)
by_both P true x y p q = p
by_both P false x y p q = q

module _ (h : Head) (ok : head_ok h ≡ true) where
  pub clear-only : Unrefused (request.clear_call_of h).line
  unfolding request.clear_call_of
  clear-only = rw (none-refuses (head_rules (head_ok h)) (good ok, tt))

  pub room-only : Unrefused (request.room_call_of h).line
  unfolding request.room_call_of
  room-only = rw (none-refuses (head_rules (head_ok h)) (good ok, tt))

  pub drop-only : (ws : List ℕ) (first last : ℕ) → 3 * h.window.capacity ≤ length ws → first < 2 ^ 31 → last < 2 ^ 31
      → Unrefused (request.drop_call_of h ws first last).line
  unfolding request.drop_call_of
  drop-only ws first last a b c =
      rw (none-refuses (drop_rules (head_ok h) h.window.capacity (length ws) first last) (good ok, (le-ltb _ _ a, (lt-leb _ _ b, (lt-leb _ _ c, tt)))))

  pub shown-only : (ws : List ℕ) (bytes number : ℕ) → 3 * h.window.capacity ≤ length ws → 1456 * h.window.capacity ≤ bytes → number < 2 ^ 31
      → Unrefused (show.shown_call_of h ws bytes number).line
  unfolding show.shown_call_of
  shown-only ws bytes number a b c =
      rw (none-refuses (show_rules (head_ok h) h.window.capacity (length ws) bytes number) (good ok, (le-ltb _ _ a, (le-ltb _ _ b, (lt-leb _ _ c, tt))))) (place-only (shown_of h.window ws number))

  module _ (now : ℤ) (reading : is_reading now ≡ true) (later : lt_z now h.latest ≡ false) where
    pub data-only : (ws bs : List ℕ) (p : Packet) (payload : List ℕ) → 3 * h.window.capacity ≤ length ws → 1456 * h.window.capacity ≤ length bs → PacketRight p payload
        → OnlyIn 7 10 (calls.data_call_of h ws bs now p payload).line
    unfolding calls.data_call_of calls.taken_of
    data-only ws bs p payload a b r =
        let o = push_of h.window ws bs now p payload in
        rw (none-refuses (push_rules (head_ok h) h.window.capacity (length ws) (length bs) now h.latest p (length payload)) (good ok, (le-ltb _ _ a, (le-ltb _ _ b, (good reading, (later, (lt-leb _ _ r.number, (lt-leb _ _ r.message, (lt-leb _ _ r.location, (le-ltb _ _ r.bytes, tt)))))))))) (push-only h o.pushed now p.number (length payload))

    pub message-only : (ws bs out : List ℕ) → 3 * h.window.capacity ≤ length ws → 1456 * h.window.capacity ≤ length bs
        → OnlyIn 11 11 (message.pop_call_of h ws bs out now).line
    unfolding message.pop_call_of message.taken_of
    message-only ws bs out a b =
        rw (none-refuses (pop_rules (head_ok h) h.window.capacity (length ws) (length bs) now h.latest) (good ok, (le-ltb _ _ a, (le-ltb _ _ b, (good reading, (later, tt)))))) (pop-only (pop_of h.clock h.latency h.dropping h.window ws now bs out).popped)

    pub loss-only : (ws list : List ℕ) → 3 * h.window.capacity ≤ length ws → OnlyIn 12 12 (loss.report_call_of h ws list now).line
    unfolding loss.report_call_of loss.reported_of
    loss-only ws list a =
        let o = report_of h.window ws now h.rtt.mean list in
        rw (none-refuses (timed_rules (head_ok h) (length ws) (3 * h.window.capacity) now h.latest) (good ok, (le-ltb _ _ a, (good reading, (later, tt))))) (report-only o.answer o.list)

    pub clock-only : (stamp : ℕ) → OnlyIn 14 14 (sync.clock_call_of h now stamp).line
    unfolding sync.clock_call_of sync.sync_of
    clock-only stamp =
        rw (none-refuses (clock_rules (head_ok h) now h.latest) (good ok, (good reading, (later, tt)))) (sync-only h (synchronized h.clock now stamp) now)

    pub full-ack-only : (a : List ℕ) → 2048 ≤ length a → OnlyIn 13 13 (acking.full_ack_call_of h a now).line
    unfolding acking.full_ack_call_of acking.due_ack acking.roomy_ack
    full-ack-only a n =
        let o = full_ack_of h.history a now h.rtt.mean h.latency h.window.lrsn in
        rw (none-refuses (timed_rules (head_ok h) (length a) 2048 now h.latest) (good ok, (le-ltb _ _ n, (good reading, (later, tt))))) (by_both (λ (x : acking.FullAckOutcome). OnlyIn 13 13 x.line) (eqb (room_of h.window) 0) _ _
        (inl refl)
        (ack-only h o.acked now))

    pub ack2-only : (a : List ℕ) (number : ℕ) → 2048 ≤ length a → Unrefused (acking.ack2_call_of h a now number).line
    unfolding acking.ack2_call_of acking.held_ack2
    ack2-only a number n =
        rw (none-refuses (timed_rules (head_ok h) (length a) 2048 now h.latest) (good ok, (le-ltb _ _ n, (good reading, (later, tt))))) (held-only h (ack2_of h.history a now number) now)

-- the first refusal is one of those listed
abbrev pub Under : ℕ → List Rule → Type 0
Under m [] = Unit {0}
Under m (r ∷ rs) = (number_of r.refusal ≤ m) × Under m rs

err-under : (m : ℕ) (bad : Bool) (e : Refusal) (r : Result Unit Refusal) → number_of e ≤ m → ((f : Refusal) → r ≡ Err f → number_of f ≤ m)
    → {f : Refusal} → cond bad (Err e) r ≡ Err f → number_of f ≤ m
err-under m true e r a g {f} q = let s : e ≡ f = cc in rw (← s) a
err-under m false e r a g {f} q = g f q

pub refusal-under : (m : ℕ) (rs : List Rule) → Under m rs → {e : Refusal} → first_refusal rs ≡ Err e → number_of e ≤ m
refusal-under m [] u q = absurd (err-ok (sym q))
refusal-under m (r ∷ rs) u q = err-under m r.bad r.refusal (first_refusal rs) u.0 (λ f t. refusal-under m rs u.1 t) q

-- whatever the head, the areas and the arguments: no other refusal has the number 8
always-both : (r : Result DataAnswer Refusal) → with_both r ≡ true
always-both (Ok a) = refl
always-both (Err refusals.HeadBad) = refl
always-both (Err refusals.AreaShort) = refl
always-both (Err refusals.ClockRange) = refl
always-both (Err refusals.ClockBack) = refl
always-both (Err refusals.BadNumber) = refl
always-both (Err refusals.PayloadLong) = refl
always-both (Err refusals.BufferFull) = refl
always-both (Err (refusals.PacketTooEarly places need)) = refl
always-both (Err refusals.PacketTooLate) = refl
always-both (Err refusals.DiscardedDuplicate) = refl
always-both (Err refusals.OutShort) = refl
always-both (Err refusals.ListShort) = refl
always-both (Err refusals.FasnWorn) = refl
always-both (Err refusals.DriftRange) = refl
always-both (Err refusals.BadSetting) = refl

pub eight-with-both : (h : Head) (ws bs : List ℕ) (now : ℤ) (p : Packet) (payload : List ℕ) → with_both (calls.data_call_of h ws bs now p payload).handled.answer ≡ true
eight-with-both h ws bs now p payload = always-both (calls.data_call_of h ws bs now p payload).handled.answer
