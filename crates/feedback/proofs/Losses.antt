-- What the code of loss.rt does at each return, as laws over plain values. A signed number stands twice, as it is and as the machine reads it
-- back. Assumes nothing.
use mathlib.Core.Path.{◌≡◌, refl, sym, ◌∙◌, ap}
use mathlib.Core.Bool.{true}
use mathlib.Core.List.{List}
use Prim.Native.Nat.{ℕ, ◌*◌, ◌^◌, ◌<◌}
use native.Mathlib.Omega.{arith}
use borrow.Author.Rules.{rules}
use borrow.Author.Tests.{ltb-true}
use lib.Dec.{ltb}
use lib.IntN.{ℤ, pos, negsuc, nat_abs}
use lib.ListN.{length}
use Rattle.std.specs.Prelude.{Option, Result, Ok, Err}
use Rattle.numbers.specs.Instants.{is_reading}
use Rattle.numbers.proofs.Flags.{and_left}
use Rattle.acks.specs.Rtt.{rtt_ok}
use Rattle.acks.specs.declared.rtt.Rtt.{Rtt}
use Rattle.window_report.specs.Report.{report_ended, report_of}
use Rattle.window_report.specs.declared.report.ListShort.{ListShort}
use Rattle.head.specs.Rules.{first_refusal, timed_rules}
use Rattle.head.specs.Head.{head_ok}
use Rattle.head.specs.declared.refusal.Refusal.{Refusal}
use Rattle.head.specs.declared.state.Head.{Head}
use Rattle.head.proofs.Gates.{taken, refused}
use Rattle.head.proofs.Ready.{timed-ready, good}
use Rattle.feedback.specs.Loss.{Reported, LossOutcome, loss_ended, after_report, ending, reported_of, report_call_of}
use Rattle.feedback.specs.Ready.{ReportReady}

-- report
mean-under : (t : Rtt) → rtt_ok t ≡ true → t.mean < 2 ^ 31
unfolding rtt_ok
mean-under t e = ltb-true t.mean (2 ^ 31) (and_left (ltb t.mean (2 ^ 31)) _ e)

-- the tests, as the code and the definition have them
abbrev tests : Head → List ℕ → ℤ → Result Unit Refusal
tests h ws t = first_refusal (timed_rules (head_ok h) (length ws) (3 * h.window.capacity) t h.latest)

pub loss-ready : (h : Head) (ws : List ℕ) (t : ℤ) {r : Result Unit Refusal} → r ≡ tests h ws t → r ≡ Ok tt → ReportReady h ws
loss-ready h ws t b z =
    let r = timed-ready h t (length ws) (3 * h.window.capacity) (sym z ∙ b) in
    record { good = good h.window ws r.0.head.window r.1; mean = mean-under h.rtt r.0.head.rtt }

module _ (h : Head) (ws list : List ℕ) (now : ℤ) where
  pub reported : {n n₁ : ℤ} {a : Result (Option ℕ) ListShort} {ws₁ list₁ : List ℕ} {r : Reported}
      → report_ended a ws₁ list₁ ≡ report_of h.window ws n h.rtt.mean list → n ≡ now
      → r ≡ after_report h a n₁ → n₁ ≡ now
      → loss_ended r ws₁ list₁ ≡ reported_of h ws list now
  unfolding reported_of
  reported {a = a} {ws₁ = ws₁} {list₁ = list₁} e p f q =
      let d : report_ended a ws₁ list₁ ≡ report_of h.window ws now h.rtt.mean list = e ∙ rw p in
      rw (f, q) (ap (ending h now) d)

  -- the call: its refusal, as the code and the definition have it
  stays : Refusal → LossOutcome
  stays e = loss_ended (record { head = h; answer = Err e }) ws list

  module _ {t : ℤ} where
    pub loss-taken : {m : ℤ} {o : LossOutcome} {r : Result Unit Refusal} → r ≡ tests h ws t → r ≡ Ok tt → t ≡ now → o ≡ reported_of h ws list m → m ≡ now → o ≡ report_call_of h ws list now
    unfolding report_call_of stays
    loss-taken b z p f e = f ∙ rw e (sym (taken (reported_of h ws list now) stays (sym z ∙ b ∙ rw p)))

    pub loss-refused : {e : Refusal} → Err e ≡ tests h ws t → t ≡ now → loss_ended (record { head = h; answer = Err e }) ws list ≡ report_call_of h ws list now
    unfolding report_call_of stays
    loss-refused b p = sym (refused (reported_of h ws list now) stays (b ∙ rw p))

-- the word that a reading is written as is the reading
pub reading-is : (z : ℤ) → is_reading z ≡ true → pos (nat_abs z) ≡ z
reading-is (pos n) e = refl
reading-is (negsuc n) e = absurd (let z : ◌≡◌ {A = ℕ} 0 1 = cc in omega arith)

pub ruleset losses = (reported, loss-ready, loss-taken, loss-refused, rules)
