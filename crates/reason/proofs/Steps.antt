-- What a reading that is bad tells the code of lib.rt, as laws over plain values. Assumes nothing.
use mathlib.Core.Path.{◌≡◌, refl, sym, ◌∙◌, ap}
use mathlib.Core.List.{List, [], ◌∷◌}
use Prim.Native.Nat.{ℕ, ◌≤◌}
use native.Mathlib.Omega.{arith}
use borrow.Author.Tests.{lt-ltb, ltb-false, ne_eqb}
use lib.Dec.{ltb}
use lib.ListN.{length}
use Rattle.std.specs.Prelude.{◌≢◌, Some, Result, Ok, Err}
use Rattle.numbers.proofs.Flags.{by-test, by-order}
use Rattle.dlt.specs.Bytes.{byte_at}
use Rattle.dlt.specs.Header.{header_of}
use Rattle.dlt.specs.Record.{code_of, least_size, record_of}
use Rattle.dlt.specs.declared.Unread.{Unread}
use Rattle.dlt.specs.declared.Unread.TheVariants as unread
use Rattle.dlt.specs.declared.header.Header.{Header}
use Rattle.dlt.specs.declared.record.Record.{Record}
use Rattle.dlt.specs.declared.kind.Kind.{Kind}
use Rattle.dlt.specs.declared.kind.Kind.TheVariants as kinds
use Rattle.dlt.proofs.Steps.{HasNoKind, no_kind}
use Rattle.reason.specs.Reason.{need_in, wrong_reason}
use Rattle.reason.specs.declared.Reason.TheVariants as reasons

-- short and bad are two things
abbrev code : {T : Type 0} → Result T Unread → ℕ
code (Err unread.Short) = 0
code (Err unread.Bad) = 1
code (Ok x) = 2

two_things : {P T : Type 0} {x : Result T Unread} → x ≡ Err unread.Short → x ≡ Err unread.Bad → P
two_things e f = absurd (let z : ◌≡◌ {A = ℕ} 0 1 = ap code (sym e ∙ f) in omega arith)

pub bad_long : (xs : List ℕ) {r : Result Header Unread} → r ≡ header_of xs → r ≡ Err unread.Bad → 24 ≤ length xs
unfolding header_of
bad_long xs e f = by-order (length xs) 24 (λ l. two_things (e ∙ rw (lt-ltb _ _ l)) f) (λ l. l)

wrong-whole : (xs : List ℕ) → record_of xs ≡ Err unread.Bad → least_size (byte_at xs 0) ≤ length xs
unfolding record_of
wrong-whole xs =
    by-test (λ (r : Result Record Unread). r ≡ Err unread.Bad → least_size (byte_at xs 0) ≤ length xs) (ltb (length xs) (least_size (byte_at xs 0))) _ _
    (λ t e. absurd (let z : ◌≡◌ {A = ℕ} 0 1 = ap code e in omega arith))
    (λ t e. ltb-false _ _ t)

pub wrong-some : (xs : List ℕ) → record_of xs ≡ Err unread.Bad → 1 ≤ length xs
unfolding record_of least_size
wrong-some [] e = absurd (let z : ◌≡◌ {A = ℕ} 0 1 = ap code e in omega arith)
wrong-some (x ∷ xs) e = omega arith

module _ (xs : List ℕ) {r : Result Record Unread} (e : r ≡ record_of xs) where
  pub bad_whole : r ≡ Err unread.Bad → least_size (byte_at xs 0) ≤ length xs
  bad_whole f = wrong-whole xs (sym e ∙ f)

  pub bad_some : r ≡ Err unread.Bad → 1 ≤ length xs
  bad_some f = wrong-some xs (sym e ∙ f)

-- a byte that no kind has
pub need_none : (xs : List ℕ) → HasNoKind (byte_at xs 0) → Some 1 ≡ need_in xs
unfolding need_in
need_none xs n = rw (ne_eqb _ _ (λ e. n kinds.Data (sym e))) (ap Some (no_kind _ n).0)

pub wrong_none : (xs : List ℕ) → HasNoKind (byte_at xs 0) → reasons.Kind (byte_at xs 0) ≡ wrong_reason xs
unfolding wrong_reason
wrong_none xs n = rw (ne_eqb _ _ (λ e. n kinds.Data (sym e))) refl

-- and one of a kind that is not data
pub wrong_other : (xs : List ℕ) {k : Kind} → code_of k ≡ byte_at xs 0 → k ≢ kinds.Data → reasons.Kind (byte_at xs 0) ≡ wrong_reason xs
unfolding wrong_reason
wrong_other xs {k} e n = rw (ne_eqb _ _ (λ f. n (data_only k (e ∙ f)))) refl
  where
    data_only : (k : Kind) → code_of k ≡ 1 → k ≡ kinds.Data
    data_only kinds.Data e = refl
    data_only kinds.Pop e = absurd (omega (arith, e))
    data_only kinds.Report e = absurd (omega (arith, e))
    data_only kinds.FullAck e = absurd (omega (arith, e))
    data_only kinds.Ack2 e = absurd (omega (arith, e))
    data_only kinds.Drop e = absurd (omega (arith, e))
    data_only kinds.Clock e = absurd (omega (arith, e))
    data_only kinds.Clear e = absurd (omega (arith, e))

pub ruleset bad_reads = (bad_long, bad_whole, bad_some)

pub ruleset other_kinds = (wrong_none, wrong_other)
