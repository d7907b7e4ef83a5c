-- The line of a drop request and of a clear is that of its answer, and a refused clear leaves the head: 01, "Each returns its number; head, areas and output stay". A drop request has no
-- head to write. Assumes nothing.
use mathlib.Core.Path.{◌≡◌, refl}
use mathlib.Core.List.{List}
use Prim.Native.Nat.{ℕ}
use lib.ListN.{length}
use Rattle.head.specs.Rules.{first_refusal, drop_rules, head_rules}
use Rattle.head.specs.Head.{head_ok}
use Rattle.head.specs.declared.state.Head.{Head}
use Rattle.head.proofs.Gates.{by-refusal}
use Rattle.upkeep.specs.Request.{DropOutcome, drop_call_of, ClearOutcome, clear_call_of}
use Rattle.upkeep.specs.Paper.{drop_line, clear_line}

module _ (h : Head) where
  pub drop-line : (ws : List ℕ) (first last : ℕ) → (drop_call_of h ws first last).line ≡ drop_line (drop_call_of h ws first last).answer
  unfolding drop_call_of
  drop-line ws first last =
      by-refusal (λ (o : DropOutcome). o.line ≡ drop_line o.answer) (first_refusal (drop_rules (head_ok h) h.window.capacity (length ws) first last)) _ _
      (λ x t. refl)
      (λ e t. refl)

  pub clear-line : (clear_call_of h).line ≡ clear_line (clear_call_of h).cleared.answer
  unfolding clear_call_of
  clear-line = by-refusal (λ (o : ClearOutcome). o.line ≡ clear_line o.cleared.answer) (first_refusal (head_rules (head_ok h))) _ _ (λ x t. refl) (λ e t. refl)

  pub clear-head : ((clear_call_of h).line.refusal ≡ 0 → ⊥) → (clear_call_of h).cleared.head ≡ h
  unfolding clear_call_of
  clear-head =
      by-refusal (λ (o : ClearOutcome). (o.line.refusal ≡ 0 → ⊥) → o.cleared.head ≡ h) (first_refusal (head_rules (head_ok h))) _ _
      (λ x t n. absurd (n refl))
      (λ e t n. refl)
