-- What the code of message.rt does at each return, as laws over plain values. A signed number stands twice, as it is and as the machine reads it
-- back. Assumes nothing.
use mathlib.Core.Path.{◌≡◌, sym, ◌∙◌, ap}
use mathlib.Core.List.{List}
use Prim.Native.Nat.{ℕ}
use borrow.Author.Rules.{rules}
use lib.IntN.{ℤ}
use lib.ListN.{length}
use Rattle.std.specs.Prelude.{Result, Ok, Err}
use Rattle.window_pop.specs.Pop.{pop_ended, pop_of}
use Rattle.window_pop.specs.Ready.{PopReady}
use Rattle.window_pop.specs.declared.pop.Popped.{Popped}
use Rattle.window_pop.specs.declared.pop.OutShort.{OutShort}
use Rattle.head.specs.Rules.{first_refusal, pop_rules}
use Rattle.head.specs.Head.{head_ok}
use Rattle.head.specs.declared.refusal.Refusal.{Refusal}
use Rattle.head.specs.declared.state.Head.{Head}
use Rattle.head.proofs.Gates.{taken, refused}
use Rattle.head.proofs.Ready.{pop-ready}
use Rattle.receiver.specs.Message.{Given, MessageOutcome, message_ended, after_pop, popped, taken_of, pop_call_of}

module _ (h : Head) (ws bs out : List ℕ) (now : ℤ) where
  -- release
  pub release-ready : {n : ℤ} → PopReady h.clock h.latency h.window ws bs now → n ≡ now → PopReady h.clock h.latency h.window ws bs n
  release-ready r p = rw p r

  pub released : {n n₁ : ℤ} {o : Result Popped OutShort} {out₁ : List ℕ} {r : Given}
      → pop_ended o out₁ ≡ pop_of h.clock h.latency h.dropping h.window ws n bs out → n ≡ now
      → r ≡ after_pop h o n₁ → n₁ ≡ now
      → message_ended r out₁ ≡ taken_of h ws bs out now
  unfolding taken_of
  released {o = o} {out₁ = out₁} e p f q =
      let d : pop_ended o out₁ ≡ pop_of h.clock h.latency h.dropping h.window ws now bs out = e ∙ rw p in
      rw (f, q) (ap (popped h now) d)

  -- the call: its refusal, as the code and the definition have it
  abbrev tests : ℤ → Result Unit Refusal
  tests t = first_refusal (pop_rules (head_ok h) h.window.capacity (length ws) (length bs) t h.latest)

  stays : Refusal → MessageOutcome
  stays e = message_ended (record { head = h; answer = Err e }) out

  module _ {t : ℤ} where
    pub message-ready : {r : Result Unit Refusal} → r ≡ tests t → r ≡ Ok tt → t ≡ now → PopReady h.clock h.latency h.window ws bs now
    message-ready b z p = pop-ready h now ws bs (sym z ∙ b ∙ rw p)

    pub message-taken : {m : ℤ} {o : MessageOutcome} {r : Result Unit Refusal} → r ≡ tests t → r ≡ Ok tt → t ≡ now → o ≡ taken_of h ws bs out m → m ≡ now → o ≡ pop_call_of h ws bs out now
    unfolding pop_call_of stays
    message-taken b z p f e = f ∙ rw e (sym (taken (taken_of h ws bs out now) stays (sym z ∙ b ∙ rw p)))

    pub message-refused : {e : Refusal} → Err e ≡ tests t → t ≡ now → message_ended (record { head = h; answer = Err e }) out ≡ pop_call_of h ws bs out now
    unfolding pop_call_of stays
    message-refused b p = sym (refused (taken_of h ws bs out now) stays (b ∙ rw p))

pub ruleset messages = (release-ready, released, message-ready, message-taken, message-refused, rules)
