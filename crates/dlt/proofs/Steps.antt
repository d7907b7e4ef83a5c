-- What the code of header.rt and record.rt does at each return, as laws over plain values. Assumes nothing.
use mathlib.Core.Path.{◌≡◌, refl, sym, ◌∙◌, ap}
use mathlib.Core.Bool.{Bool, true, false, ◌&&◌}
use mathlib.Core.List.{List, [], ◌∷◌}
use Prim.Native.Nat.{ℕ, zero, suc, ◌+◌, ◌-◌, ◌<◌, ◌≤◌}
use native.Mathlib.Omega.{arith}
use borrow.Author.Rules.{rules}
use borrow.Author.Tests.{lt-ltb, le-ltb, ne_eqb}
use lib.Dec.{eqb, leb}
use lib.ListN.{length, get_or, take, drop, length-drop, drop_of_length-le, get_or-eq_default}
use lib.Seq.{take_all}
use Rattle.dlt.specs.Bytes.{byte_at, field}
use Rattle.dlt.specs.Header.{is_header, settings_in, header_of}
use Rattle.dlt.specs.Record.{code_of, least_size, data_in, data_of, fields_of, record_of}
use Rattle.std.specs.Prelude.{◌≢◌, Result, Ok, Err}
use Rattle.dlt.specs.declared.Unread.{Unread}
use Rattle.dlt.specs.declared.Unread.TheVariants.{Short, Bad}
use Rattle.dlt.specs.declared.header.Header.{Header}
use Rattle.dlt.specs.declared.kind.Kind.{Kind}
use Rattle.dlt.specs.declared.kind.Kind.TheVariants as kinds
use Rattle.dlt.specs.declared.record.Record.{Record}

-- header.rt
module _ (xs : List ℕ) where
  pub mark-is : {v : ℕ} → v ≡ field xs 3 2
      → (eqb (get_or xs 0 0) 68 && eqb (get_or xs 1 0) 76 && eqb (get_or xs 2 0) 84 && eqb v 1 && leb (get_or xs 17 0) 1) ≡ is_header xs
  unfolding is_header
  mark-is e = rw e

  pub header-short : length xs < 24 → Err Short ≡ header_of xs
  unfolding header_of
  header-short h = rw (lt-ltb _ _ h)

  pub header-good : {t : Bool} {r : Header} → 24 ≤ length xs → t ≡ is_header xs → t ≡ true → r ≡ settings_in xs → Ok r ≡ header_of xs
  unfolding header_of
  header-good h a b e = rw (le-ltb _ _ h, ← a, b, e)

  pub header-bad : {t : Bool} → 24 ≤ length xs → t ≡ is_header xs → t ≡ false → Err Bad ≡ header_of xs
  unfolding header_of
  header-bad h a b = rw (le-ltb _ _ h, ← a, b)

-- record.rt
abbrev sizes : List ℕ
sizes = 1 ∷ 24 ∷ 9 ∷ 9 ∷ 9 ∷ 13 ∷ 9 ∷ 13 ∷ 1 ∷ []

pub fixed-past : (kind : ℕ) → 8 < kind → 1 ≡ least_size kind
unfolding least_size
fixed-past kind h = sym (get_or-eq_default sizes 1 {n = kind} (omega arith))

-- by cases on the kind byte: 0, the kinds from 1 to 8, and above
pub by_kind : (P : ℕ → Type 0) → P 0 → P 1 → P 2 → P 3 → P 4 → P 5 → P 6 → P 7 → P 8 → ((k : ℕ) → 8 < k → P k) → (k : ℕ) → P k
by_kind P a b c d e f g h i r zero = a
by_kind P a b c d e f g h i r (suc zero) = b
by_kind P a b c d e f g h i r (suc (suc zero)) = c
by_kind P a b c d e f g h i r (suc (suc (suc zero))) = d
by_kind P a b c d e f g h i r (suc (suc (suc (suc zero)))) = e
by_kind P a b c d e f g h i r (suc (suc (suc (suc (suc zero))))) = f
by_kind P a b c d e f g h i r (suc (suc (suc (suc (suc (suc zero)))))) = g
by_kind P a b c d e f g h i r (suc (suc (suc (suc (suc (suc (suc zero))))))) = h
by_kind P a b c d e f g h i r (suc (suc (suc (suc (suc (suc (suc (suc zero)))))))) = i
by_kind P a b c d e f g h i r (suc (suc (suc (suc (suc (suc (suc (suc (suc k))))))))) =
    r (suc (suc (suc (suc (suc (suc (suc (suc (suc k))))))))) (omega arith)

pub unknown : (k : ℕ) → 8 < k → (xs : List ℕ) → Err Bad ≡ fields_of k xs
unfolding fields_of
unknown k h xs =
    rw (ne_eqb k 1 (λ e. omega arith), ne_eqb k 2 (λ e. omega arith), ne_eqb k 3 (λ e. omega arith), ne_eqb k 4 (λ e. omega arith), ne_eqb k 5 (λ e. omega arith), ne_eqb k 6 (λ e. omega arith), ne_eqb k 7 (λ e. omega arith), ne_eqb k 8 (λ e. omega arith))

-- a byte that no kind has is enough to tell, and bad
abbrev pub HasNoKind : ℕ → Type 0
HasNoKind k = (kind : Kind) → code_of kind ≢ k

pub no_kind : (k : ℕ) → HasNoKind k → (1 ≡ least_size k) × ((xs : List ℕ) → Err Bad ≡ fields_of k xs)
unfolding fields_of least_size
no_kind =
    by_kind (λ (k : ℕ). HasNoKind k → (1 ≡ least_size k) × ((xs : List ℕ) → Err Bad ≡ fields_of k xs))
    (λ n. (refl, λ xs. refl))
    (λ n. absurd (n kinds.Data refl))
    (λ n. absurd (n kinds.Pop refl))
    (λ n. absurd (n kinds.Report refl))
    (λ n. absurd (n kinds.FullAck refl))
    (λ n. absurd (n kinds.Ack2 refl))
    (λ n. absurd (n kinds.Drop refl))
    (λ n. absurd (n kinds.Clock refl))
    (λ n. absurd (n kinds.Clear refl))
    (λ k h n. (fixed-past k h, unknown k h))

module _ (xs : List ℕ) {n : ℕ} (a : n ≡ field xs 22 2) where
  pub data-bad : 1456 < n → Err Bad ≡ data_of xs
  unfolding data_of
  data-bad h = rw (← a, lt-ltb _ _ h)

  pub data-short : n ≤ 1456 → length xs < 24 + n → Err Short ≡ data_of xs
  unfolding data_of
  data-short h k = rw (← a, le-ltb _ _ h, lt-ltb _ _ k)

  pub data_is : {r : Record} → n ≤ 1456 → 24 + n ≤ length xs → r ≡ data_in xs n → Ok r ≡ data_of xs
  unfolding data_of
  data_is h k e = rw (← a, le-ltb _ _ h, le-ltb _ _ k, e)

module _ (xs : List ℕ) where
  -- no bytes have no kind byte either, and it is read as 0
  pub record-none : length xs < 1 → Err Short ≡ record_of xs
  unfolding record_of least_size
  record-none h =
      let z : get_or xs 0 0 ≡ 0 = get_or-eq_default xs 0 {n = 0} (omega arith) in
      rw (z, lt-ltb _ _ h)

  pub record-short : {f : ℕ} → f ≡ least_size (byte_at xs 0) → length xs < f → Err Short ≡ record_of xs
  unfolding record_of
  record-short e h = rw (← e, lt-ltb _ _ h)

  pub record-bad : {n : ℕ} → n ≡ byte_at xs 0 → HasNoKind n → 1 ≤ length xs → {e : Unread} → e ≡ Bad → Err e ≡ record_of xs
  unfolding record_of
  record-bad e n h b = let k = no_kind _ n in rw (b, ← e, ← k.0, le-ltb _ _ h) (k.1 xs)

  pub record_is : {f : ℕ} {r : Result Record Unread} → f ≡ least_size (byte_at xs 0) → f ≤ length xs → r ≡ fields_of (byte_at xs 0) xs → r ≡ record_of xs
  unfolding record_of
  record_is e h k = rw (← e, le-ltb _ _ h) k

  pub record-room : {f : ℕ} → f ≡ least_size (byte_at xs 0) → f ≤ length xs → least_size (byte_at xs 0) ≤ length xs
  record-room e h = omega arith

  pub record-past : (at : ℕ) → length xs ≤ at → Err Short ≡ record_of (drop at xs)
  unfolding record_of least_size
  record-past at h = rw (drop_of_length-le xs h)

-- the part from the cursor to the end
pub record-at : (xs : List ℕ) (at : ℕ) {r : Result Record Unread} → r ≡ record_of (take (length xs - at) (drop at xs)) → r ≡ record_of (drop at xs)
record-at xs at e = e ∙ ap record_of (take_all (length xs - at) (drop at xs) (rw (length-drop at xs) (omega arith)))

pub ruleset steps = (
  mark-is,
  header-short,
  header-good,
  header-bad,
  data-bad,
  data-short,
  data_is,
  record-none,
  record-short,
  record-bad,
  record_is,
  record-room,
  record-past,
  record-at,
  rules,
)
