-- Any two outcomes that the promise of a line or a part of one allows coincide, here and in lines and tally: 01, "Each
-- proof's duty". Assumes nothing.
use mathlib.Core.Path.{◌≡◌}
use mathlib.Core.List.{List}
use Prim.Native.Nat.{ℕ}
use Rattle.text.proofs.Determined.{put-determined}
use Rattle.shapes.specs.Ready.{Wrote}

-- the cursor and the output
pub wrote-determined : {out bs : List ℕ} {at most : ℕ} (r s : ℕ) (out₁ out₂ : List ℕ) → Wrote out at bs most r out₁ → Wrote out at bs most s out₂
    → (r ≡ s) × (out₁ ≡ out₂)
wrote-determined r s out₁ out₂ p q = put-determined r s out₁ out₂ p.bytes q.bytes
