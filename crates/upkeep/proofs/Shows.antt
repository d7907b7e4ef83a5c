-- What the code of show.rt does at each return, as laws over plain values. Assumes nothing.
use mathlib.Core.Path.{◌≡◌, refl, sym, ◌∙◌, ap, subst}
use mathlib.Core.Bool.{Bool}
use mathlib.Core.List.{List}
use Prim.Native.Nat.{ℕ, ◌+◌, ◌*◌, ◌≤◌}
use borrow.Author.Rules.{rules}
use denote.Ref.{Bor}
use lib.ListN.{length}
use Rattle.std.specs.Prelude.{Option, Some, None, Result, Ok, Err}
use Rattle.std.specs.Option.{is_some}
use Rattle.window.specs.Ready.{Good}
use Rattle.window.specs.Show.{PartOf, ShownAt, shown_of}
use Rattle.window.specs.declared.show.Part.{Part}
use Rattle.window.proofs.Shows.{shown-within}
use Rattle.head.specs.Rules.{first_refusal, show_rules}
use Rattle.head.specs.Head.{head_ok}
use Rattle.head.specs.declared.refusal.Refusal.{Refusal}
use Rattle.head.specs.declared.state.Head.{Head}
use Rattle.head.proofs.Gates.{taken, refused, by-refusal}
use Rattle.head.proofs.Ready.{show-ready, show-bytes}
use Rattle.upkeep.specs.Show.{refusal_of, place_call_of, shown_ended, found_as, shown_call_of}

found-is : (o : Option Part) → shown_ended (Ok (is_some o)) ≡ found_as o
found-is (Some p) = refl
found-is None = refl

module _ (h : Head) (ws : List ℕ) (bytes number : ℕ) {t : Result Unit Refusal} (b : t ≡ first_refusal (show_rules (head_ok h) h.window.capacity (length ws) bytes number)) where
  pub show-good : t ≡ Ok tt → Good h.window ws
  show-good z = show-ready h ws bytes number (sym z ∙ b)

  pub place-taken : {p : Option Part} → t ≡ Ok tt → p ≡ shown_of h.window ws number → p ≡ place_call_of h ws bytes number
  unfolding place_call_of
  place-taken z e = e ∙ sym (taken (shown_of h.window ws number) (λ e. None) (sym z ∙ b))

  pub place-refused : {e : Refusal} → t ≡ Err e → None ≡ place_call_of h ws bytes number
  unfolding place_call_of
  place-refused z = sym (refused (shown_of h.window ws number) (λ e. None) (sym z ∙ b))

  pub show-found : (o : Option Part) {f : Bool} → t ≡ Ok tt → o ≡ shown_of h.window ws number → f ≡ is_some o → shown_ended (Ok f) ≡ shown_call_of h ws bytes number
  unfolding shown_call_of
  show-found o z e g = rw g (found-is o ∙ ap found_as e ∙ sym (taken (found_as (shown_of h.window ws number)) (λ e. shown_ended (Err e)) (sym z ∙ b)))

  pub show-refused : {e : Refusal} → t ≡ Err e → shown_ended (Err e) ≡ shown_call_of h ws bytes number
  unfolding shown_call_of
  show-refused z = sym (refused (found_as (shown_of h.window ws number)) (λ e. shown_ended (Err e)) (sym z ∙ b))

-- what is shown lies within the area
abbrev Inside : ℕ → Option Part → Type 0
Inside n (Some p) = p.at + p.len ≤ n
Inside n None = Unit

module _ (h : Head) (ws : List ℕ) (bytes number : ℕ) where
  inside : Inside bytes (place_call_of h ws bytes number)
  unfolding place_call_of
  inside =
      by-refusal (Inside bytes) (refusal_of h ws bytes number) _ _
      (λ x t. within (shown_of h.window ws number) refl (show-ready h ws bytes number (sym t)) (show-bytes h ws bytes number (sym t)))
      (λ e t. tt)
    where
      within : (o : Option Part) → o ≡ shown_of h.window ws number → Good h.window ws → 1456 * h.window.capacity ≤ bytes → Inside bytes o
      within (Some p) e g n = shown-within h.window ws number e refl g n
      within None e g n = tt

  module _ {o : Option Part} (e : o ≡ place_call_of h ws bytes number) where
    pub place-within : {p : Part} → o ≡ Some p → p.at + p.len ≤ bytes
    place-within f = subst (Inside bytes) (sym e ∙ f) inside

    pub part-shown : {s r : Bor (List ℕ)} {p : Part} → o ≡ Some p → PartOf s p.at p.len r → ShownAt (place_call_of h ws bytes number) s r
    part-shown {s} {r} f q = subst (λ (x : Option Part). ShownAt x s r) (sym f ∙ e) q

    pub part-none : {s r : Bor (List ℕ)} → o ≡ None → PartOf s 0 0 r → ShownAt (place_call_of h ws bytes number) s r
    part-none {s} {r} f q = subst (λ (x : Option Part). ShownAt x s r) (sym f ∙ e) q

pub ruleset shows = (show-good, place-taken, place-refused, show-found, show-refused, place-within, part-shown, part-none, rules)
