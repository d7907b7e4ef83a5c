-- What the code of data.rt does at each return, as laws over plain values. A signed number stands twice, as it is and as the machine reads it
-- back. Assumes nothing.
use mathlib.Core.Path.{◌≡◌, sym, ◌∙◌}
use mathlib.Core.Bool.{Bool, true, false}
use mathlib.Core.List.{List}
use Prim.Native.Nat.{ℕ, ◌<◌, ◌≤◌}
use borrow.Author.Rules.{rules}
use lib.IntN.{ℤ}
use lib.ListN.{length}
use Rattle.std.specs.Prelude.{Option, Some, None, Result, Ok, Err}
use Rattle.numbers.proofs.Signs.{reading-on}
use Rattle.intervals.specs.Rates.{arrival_of, link_of, arrivals_ok, links_ok}
use Rattle.acks.specs.History.{light_ack_of}
use Rattle.intervals.specs.declared.rates.Arrivals.{Arrivals}
use Rattle.intervals.specs.declared.rates.Links.{Links}
use Rattle.acks.specs.declared.history.History.{History}
use Rattle.intervals.proofs.Windows.{arrival-ranges, link-ranges}
use Rattle.window.specs.Push.{push_ended, push_of}
use Rattle.window.specs.declared.Window.{Window}
use Rattle.window.specs.declared.push.Packet.{Packet}
use Rattle.window.specs.declared.push.Pushed.{Pushed}
use Rattle.window.specs.declared.push.PushRefusal.{PushRefusal}
use Rattle.head.specs.Rules.{first_refusal, push_rules}
use Rattle.head.specs.Head.{head_ok}
use Rattle.head.specs.Parts.{with_rates, with_history}
use Rattle.head.specs.declared.refusal.Refusal.{Refusal}
use Rattle.head.specs.declared.state.Head.{Head}
use Rattle.head.proofs.Gates.{taken, refused}
use Rattle.head.specs.Ready.{PushReady}
use Rattle.head.proofs.Ready.{push-ready}
use Rattle.receiver.specs.Data.{Handled, placed_of, acked_of, rated_of, got_of, after_push, DataOutcome, data_ended, taken_of, data_call_of}
use Rattle.receiver.specs.declared.data.DataAnswer.TheVariants as answers

-- rate
pub arrivals-fit : (a : Arrivals) → arrivals_ok a ≡ true → (a.at < 16) × (a.count ≤ 16)
arrivals-fit a e = let r = (arrival-ranges a e).intervals in (r.place, r.holds)

pub links-fit : (l : Links) → links_ok l ≡ true → (l.at < 16) × (l.count ≤ 16)
links-fit l e = let r = (link-ranges l e).intervals in (r.place, r.holds)

pub rated : (h : Head) (now : ℤ) (number size : ℕ) {n n₁ : ℤ} {a : Arrivals} {l : Links} {r : Head}
    → a ≡ arrival_of h.arrivals n size → n ≡ now → l ≡ link_of h.links n₁ number → n₁ ≡ now → r ≡ with_rates h a l
    → r ≡ rated_of h now number size
unfolding rated_of
rated h now number size e p f q g = g ∙ rw (e, p, f, q)

-- acknowledge
module _ (h : Head) (lrsn : ℕ) (recovered : Bool) where
  pub acked-light : {r : Option History} {y : History} {g : Head} → r ≡ light_ack_of h.history lrsn → r ≡ Some y → g ≡ with_history h y
      → ◌≡◌ {A = Handled} (record { head = g; answer = Ok (answers.Light lrsn recovered) }) (acked_of h lrsn recovered)
  unfolding acked_of
  acked-light e s f = rw (← e, s, f)

  pub acked : None ≡ light_ack_of h.history lrsn → ◌≡◌ {A = Handled} (record { head = h; answer = Ok (answers.Got lrsn recovered) }) (acked_of h lrsn recovered)
  unfolding acked_of
  acked e = rw (← e)

-- got
module _ (h : Head) (w : Window) (lrsn : ℕ) (now : ℤ) (number size : ℕ) {recovered : Bool} {r : Handled} where
  pub got-recovered : {n : ℤ} {g : Head} → recovered ≡ true → r ≡ acked_of g lrsn true → g ≡ placed_of h w n → n ≡ now → r ≡ got_of h w lrsn recovered now number size
  unfolding got_of
  got-recovered t e f p = rw t (e ∙ rw (f, p))

  pub got-appended : {n n₁ : ℤ} {f g : Head}
      → recovered ≡ false → r ≡ acked_of g lrsn false → g ≡ placed_of f w n → n ≡ now → f ≡ rated_of h n₁ number size → n₁ ≡ now → r ≡ got_of h w lrsn recovered now number size
  unfolding got_of
  got-appended t e g p f q = rw t (e ∙ rw (g, p, f, q))

-- take_packet
pub taken-up : (h : Head) (ws bs : List ℕ) (now : ℤ) (p : Packet) (payload : List ℕ) {u : Result Pushed PushRefusal} {ws₁ bs₁ : List ℕ} {n n₁ : ℤ} {r : Handled}
    → r ≡ after_push h u n₁ p.number (length payload) → n₁ ≡ now
    → push_ended u ws₁ bs₁ ≡ push_of h.window ws bs n p payload → n ≡ now
    → data_ended r ws₁ bs₁ ≡ taken_of h ws bs now p payload
unfolding taken_of
taken-up h ws bs now p payload {u} {ws₁} {bs₁} f c e b =
    let q : push_ended u ws₁ bs₁ ≡ push_of h.window ws bs now p payload = e ∙ rw b in
    rw (f, c, ← q)

-- the call: its refusal, as the code and the definition have it
module _ (h : Head) (ws bs : List ℕ) (now : ℤ) (p : Packet) (payload : List ℕ) where
  abbrev tests : ℤ → Result Unit Refusal
  tests t = first_refusal (push_rules (head_ok h) h.window.capacity (length ws) (length bs) t h.latest p (length payload))

  stays : Refusal → DataOutcome
  stays e = data_ended (record { head = h; answer = Err e }) ws bs

  module _ {t : ℤ} where
    pub data-ready : {r : Result Unit Refusal} → r ≡ tests t → r ≡ Ok tt → t ≡ now → PushReady h ws bs now p payload
    data-ready b z q = push-ready h ws bs now p payload (sym z ∙ b ∙ rw q)

    pub data-taken : {m : ℤ} {o : DataOutcome} {r : Result Unit Refusal} → r ≡ tests t → r ≡ Ok tt → t ≡ now → o ≡ taken_of h ws bs m p payload → m ≡ now → o ≡ data_call_of h ws bs now p payload
    unfolding data_call_of stays
    data-taken b z q f e = f ∙ rw e (sym (taken (taken_of h ws bs now p payload) stays (sym z ∙ b ∙ rw q)))

    pub data-refused : {e : Refusal} → Err e ≡ tests t → t ≡ now → data_ended (record { head = h; answer = Err e }) ws bs ≡ data_call_of h ws bs now p payload
    unfolding data_call_of stays
    data-refused b q = sym (refused (taken_of h ws bs now p payload) stays (b ∙ rw q))

pub ruleset datas = (arrivals-fit, links-fit, rated, acked-light, acked, got-recovered, got-appended, reading-on, taken-up, data-ready, data-taken, data-refused, rules)
