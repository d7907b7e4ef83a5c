-- Any two outcomes that the promises of `begin` and `next` allow coincide: 01, "Each proof's duty". Assumes nothing.
use Rattle.std.proofs.Common.{◌≡◌, ℕ, Bool, List, sym, ap, ◌∙◌}
use Rattle.trace.specs.Trace.{Areas}
use Rattle.trace.specs.Turn.{begin_of, TurnLeft, turn_left, turned, turn_of}
use Rattle.std.specs.Prelude.{Result}
use Rattle.dlt.specs.declared.Unread.{Unread}
use Rattle.trace.specs.declared.Trace.{Trace}
use Rattle.trace.specs.declared.Turned.{Turned}

pub begin-determined : (piece : List ℕ) (counting : Bool) (r s : Result Trace Unread) → r ≡ begin_of piece counting → s ≡ begin_of piece counting → r ≡ s
begin-determined piece counting r s p q = p ∙ sym q

-- what a turn returns, from its outcome
abbrev returned : TurnLeft → Turned
returned o = record { trace = o.outcome.trace; size = o.outcome.size; length = o.outcome.written.cursor; status = o.outcome.status }

-- the trace, the sizes and the status; the lent line; and the five areas
pub next-determined : (t : Trace) (a : Areas) (rest : List ℕ) (last : Bool) (line : List ℕ) (r s : Turned) (line₁ line₂ : List ℕ) (a₁ a₂ : Areas)
    → turn_left (turned r line₁) a₁ ≡ turn_of t a rest last line → turn_left (turned s line₂) a₂ ≡ turn_of t a rest last line
    → (r ≡ s) × (line₁ ≡ line₂) × (a₁ ≡ a₂)
next-determined t a rest last line r s line₁ line₂ a₁ a₂ p q =
    let e = p ∙ sym q in
    (ap returned e, ap (λ o. o.outcome.written.area) e, ap (λ o. o.areas) e)
