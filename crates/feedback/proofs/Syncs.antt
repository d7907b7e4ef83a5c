-- What the code of sync.rt does at each return, as laws over plain values. A signed number stands twice, as it is and as the machine reads it
-- back. Assumes nothing.
use mathlib.Core.Path.{◌≡◌, sym, ◌∙◌, ap}
use Prim.Native.Nat.{ℕ}
use borrow.Author.Rules.{rules}
use lib.IntN.{ℤ}
use Rattle.std.specs.Prelude.{Result, Ok, Err}
use Rattle.clock.specs.Sync.{synchronized}
use Rattle.clock.specs.Ready.{Ready}
use Rattle.clock.proofs.Ranges.{ready}
use Rattle.clock.specs.declared.base.DriftRange.{DriftRange}
use Rattle.clock.specs.declared.time.Step.{Step}
use Rattle.head.specs.Rules.{first_refusal, clock_rules}
use Rattle.head.specs.Head.{head_ok}
use Rattle.head.specs.declared.refusal.Refusal.{Refusal}
use Rattle.head.specs.declared.state.Head.{Head}
use Rattle.head.proofs.Gates.{taken, refused}
use Rattle.head.specs.Ready.{Timed}
use Rattle.head.proofs.Ready.{clock-ready}
use Rattle.feedback.specs.Sync.{Clocked, after_sync, sync_of, ClockOutcome, clock_ended, clock_call_of}

module _ (h : Head) (now : ℤ) where
  pub sync-ready : {n : ℤ} → Timed h now → n ≡ now → Ready h.clock n
  sync-ready t p = rw p (ready h.clock now t.head.clock t.reading)

  pub synced : (stamp : ℕ) {n n₁ : ℤ} {s : Result Step DriftRange} {r : Clocked} → s ≡ synchronized h.clock n stamp → n ≡ now → r ≡ after_sync h s n₁ → n₁ ≡ now → r ≡ sync_of h now stamp
  unfolding sync_of
  synced stamp e p f q = f ∙ rw (q, e, p)

  -- the call: its refusal, as the code and the definition have it
  abbrev tests : ℤ → Result Unit Refusal
  tests t = first_refusal (clock_rules (head_ok h) t h.latest)

  stays : Refusal → ClockOutcome
  stays e = clock_ended (record { head = h; answer = Err e })

  module _ {t : ℤ} where
    pub sync-timed : {r : Result Unit Refusal} → r ≡ tests t → r ≡ Ok tt → t ≡ now → Timed h now
    sync-timed b z p = clock-ready h now (sym z ∙ b ∙ rw p)

    pub clock-taken : (stamp : ℕ) {m : ℤ} {c : Clocked} {r : Result Unit Refusal} → r ≡ tests t → r ≡ Ok tt → t ≡ now → c ≡ sync_of h m stamp → m ≡ now → clock_ended c ≡ clock_call_of h now stamp
    unfolding clock_call_of stays
    clock-taken stamp b z p f e = ap clock_ended f ∙ rw e (sym (taken (clock_ended (sync_of h now stamp)) stays (sym z ∙ b ∙ rw p)))

    pub clock-refused : (stamp : ℕ) {e : Refusal} → Err e ≡ tests t → t ≡ now → clock_ended (record { head = h; answer = Err e }) ≡ clock_call_of h now stamp
    unfolding clock_call_of stays
    clock-refused stamp b p = sym (refused (clock_ended (sync_of h now stamp)) stays (b ∙ rw p))

pub ruleset syncs = (sync-ready, synced, sync-timed, clock-taken, clock-refused, rules)
