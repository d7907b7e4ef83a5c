-- What the code of request.rt does at each return, as laws over plain values. Assumes nothing.
use mathlib.Core.Path.{◌≡◌, sym, ◌∙◌, ap}
use mathlib.Core.List.{List}
use Prim.Native.Nat.{ℕ, ◌≤◌}
use borrow.Author.Rules.{rules}
use lib.ListN.{length}
use Rattle.std.specs.Prelude.{Result, Ok, Err}
use Rattle.acks.specs.History as histories
use Rattle.acks.specs.declared.history.History.{History}
use Rattle.window.specs.Window.{room_of}
use Rattle.window.specs.Ready.{Good}
use Rattle.window_report.specs.Drop as drop
use Rattle.window_report.specs.Drop.{drop_of}
use Rattle.head.specs.Rules.{first_refusal, drop_rules, head_rules}
use Rattle.head.specs.Head.{head_ok}
use Rattle.head.specs.Parts.{with_window, with_history}
use Rattle.head.specs.declared.refusal.Refusal.{Refusal}
use Rattle.head.specs.declared.state.Head.{Head}
use Rattle.head.proofs.Gates.{taken, refused}
use Rattle.head.proofs.Ready.{head-ready, drop-ready}
use Rattle.window.proofs.Ranges.{in_window}
use Rattle.upkeep.specs.Request.{drop_ended, gone_of, drop_call_of, cleared_of, clear_ended, clear_call_of, room_ended, room_call_of}

module _ (h : Head) (ws : List ℕ) (first last : ℕ) {t : Result Unit Refusal} (b : t ≡ first_refusal (drop_rules (head_ok h) h.window.capacity (length ws) first last)) where
  pub drop-good : t ≡ Ok tt → Good h.window ws
  drop-good z = drop-ready h ws first last (sym z ∙ b)

  pub drop-taken : {r : ℕ} {ws₁ : List ℕ} → t ≡ Ok tt → drop.drop_ended r ws₁ ≡ drop_of h.window ws first last → drop_ended (Ok r) ws₁ ≡ drop_call_of h ws first last
  unfolding drop_call_of
  drop-taken z e =
      ap (λ (d : drop.Dropped). drop_ended (Ok d.count) d.slots) e
      ∙ sym (taken (gone_of h ws first last) (λ e. drop_ended (Err e) ws) (sym z ∙ b))

  pub drop-refused : {e : Refusal} → t ≡ Err e → drop_ended (Err e) ws ≡ drop_call_of h ws first last
  unfolding drop_call_of
  drop-refused z = sym (refused (gone_of h ws first last) (λ e. drop_ended (Err e) ws) (sym z ∙ b))

pub empties : (h : Head) {f g : Head} {y : History} → f ≡ with_window h (record { capacity = h.window.capacity; start = h.window.start; held = 0; seqno0 = h.window.seqno0; lrsn = h.window.lrsn })
    → y ≡ histories.cleared_of h.history h.window.lrsn → g ≡ with_history f y → g ≡ cleared_of h
unfolding cleared_of
empties h a b c = rw (c, a, b)

module _ (h : Head) {t : Result Unit Refusal} (b : t ≡ first_refusal (head_rules (head_ok h))) where
  pub clear-taken : {g : Head} → t ≡ Ok tt → g ≡ cleared_of h → clear_ended (record { head = g; answer = Ok tt }) ≡ clear_call_of h
  unfolding clear_call_of
  clear-taken z e = rw e (sym (taken (clear_ended (record { head = cleared_of h; answer = Ok tt })) (λ e. clear_ended (record { head = h; answer = Err e })) (sym z ∙ b)))

  pub clear-refused : {e : Refusal} → t ≡ Err e → clear_ended (record { head = h; answer = Err e }) ≡ clear_call_of h
  unfolding clear_call_of
  clear-refused z = sym (refused (clear_ended (record { head = cleared_of h; answer = Ok tt })) (λ e. clear_ended (record { head = h; answer = Err e })) (sym z ∙ b))

  pub room-holds : t ≡ Ok tt → h.window.held ≤ h.window.capacity
  room-holds z = (in_window h.window (head-ready h (sym z ∙ b)).window).holds

  pub room-taken : {r : ℕ} → t ≡ Ok tt → r ≡ room_of h.window → room_ended (Ok r) ≡ room_call_of h
  unfolding room_call_of
  room-taken z e = rw e (sym (taken (room_ended (Ok (room_of h.window))) (λ e. room_ended (Err e)) (sym z ∙ b)))

  pub room-refused : {e : Refusal} → t ≡ Err e → room_ended (Err e) ≡ room_call_of h
  unfolding room_call_of
  room-refused z = sym (refused (room_ended (Ok (room_of h.window))) (λ e. room_ended (Err e)) (sym z ∙ b))

pub ruleset requests = (drop-good, drop-taken, drop-refused, empties, clear-taken, clear-refused, room-holds, room-taken, room-refused, rules)
