-- What a reader of a file piece by piece may lean on: more bytes behind change nothing but a cut read, a record lies within its bytes and
-- takes some, and its numbers are below their widths. Assumes nothing.
use mathlib.Core.Path.{◌≡◌, refl, sym, ◌∙◌, ap, subst}
use mathlib.Core.Bool.{Bool, true, false, cond}
use mathlib.Core.List.{List, [], ◌∷◌, ◌++◌}
use Prim.Native.Nat.{ℕ, suc, ◌+◌, ◌-◌, ◌*◌, ◌^◌, ◌<◌, ◌≤◌}
use native.Mathlib.Nat.{mul_assoc, pow-succ', pow-le-pow_right}
use native.Mathlib.Omega.{arith}
use borrow.Author.Tests.{lt-ltb, le-ltb, ltb-true, ltb-false}
use lib.Dec.{ltb}
use lib.ListN.{length, get_or, take, drop, length-append, length-drop, length-take, get_or-append, get_or-eq_default}
use lib.Seq.{drop-append-le, take-append-le, get_or-drop, get_or-take}
use lib.IntN.{ℤ}
use lib.Signed.{mag}
use Rattle.numbers.specs.Circular.{signed}
use Rattle.numbers.proofs.Flags.{by-test, by-order}
use Rattle.numbers.proofs.Signs.{signed_range}
use Rattle.dlt.specs.Bytes.{big_from, big, byte_at, field, time_at}
use Rattle.dlt.specs.Header.{is_header, settings_in, header_of}
use Rattle.dlt.specs.Record.{least_size, longest_record, data_in, data_of, fields_of, record_of, size_in, size_of}
use Rattle.std.specs.Prelude.{Result, Ok, Err}
use Rattle.dlt.specs.declared.Unread.{Unread}
use Rattle.dlt.specs.declared.Unread.TheVariants.{Short, Bad}
use Rattle.dlt.specs.declared.header.Header.{Header}
use Rattle.dlt.specs.declared.record.Record.{Record}
use Rattle.dlt.specs.declared.record.Record.TheVariants.{Data, Pop, Report, FullAck, Ack2, Drop, Clock, Clear}
use Rattle.dlt.proofs.Steps.{fixed-past, by_kind, unknown, data-bad, data-short, data_is}

-- bytes behind
module _ (xs ys : List ℕ) where
  byte-behind : (at : ℕ) → at < length xs → byte_at (xs ++ ys) at ≡ byte_at xs at
  byte-behind at h = get_or-append xs ys 0 at h

  field-behind : (at n : ℕ) → at + n ≤ length xs → field (xs ++ ys) at n ≡ field xs at n
  unfolding field
  field-behind at n h =
      let a : at ≤ length xs = omega arith in
      let b : n ≤ length (drop at xs) = rw (length-drop at xs) (omega arith) in
      rw (drop-append-le at xs ys a, take-append-le n (drop at xs) ys b)

  time-behind : (at : ℕ) → at + 8 ≤ length xs → time_at (xs ++ ys) at ≡ time_at xs at
  unfolding time_at
  time-behind at h = ap (signed 64) (field-behind at 8 h)

  longer : {n : ℕ} → n ≤ length xs → n ≤ length (xs ++ ys)
  longer h = rw (length-append xs ys) (omega arith)

  settings-behind : 24 ≤ length xs → (is_header (xs ++ ys) ≡ is_header xs) × (settings_in (xs ++ ys) ≡ settings_in xs)
  unfolding is_header
  settings-behind h = (
    rw (byte-behind 0 (omega arith), byte-behind 1 (omega arith), byte-behind 2 (omega arith), field-behind 3 2 (omega arith), byte-behind 17 (omega arith)),
    rw (time-behind 5 (omega arith), field-behind 13 4 (omega arith), byte-behind 17 (omega arith), field-behind 18 4 (omega arith), field-behind 22 2 (omega arith)),
  )

  pub header-behind : (header_of xs ≡ Err Short → ⊥) → header_of (xs ++ ys) ≡ header_of xs
  unfolding header_of
  header-behind whole =
      by-order (length xs) 24
      (λ h. absurd (whole (rw (lt-ltb _ _ h))))
      (λ h.
      let s = settings-behind h in
      rw (le-ltb _ _ h, le-ltb _ _ (longer h), s.0, s.1))

  data-behind : 24 ≤ length xs → (data_of xs ≡ Err Short → ⊥) → data_of (xs ++ ys) ≡ data_of xs
  data-behind h whole =
      let n = field xs 22 2 in
      let e = sym (field-behind 22 2 (omega arith)) in
      by-order 1456 n
      (λ l. sym (data-bad (xs ++ ys) e l) ∙ data-bad xs refl l)
      (λ l.
      by-order (length xs) (24 + n)
      (λ m. absurd (whole (sym (data-short xs refl l m))))
      (λ m.
      let d : data_in (xs ++ ys) n ≡ data_in xs n =
      rw (time-behind 1 (omega arith), field-behind 9 4 (omega arith), field-behind 13 4 (omega arith), byte-behind 17 (omega arith), field-behind 18 4 (omega arith)) in
      sym (data_is (xs ++ ys) e l (longer m) (sym d)) ∙ data_is xs refl l m refl))

  fields-behind : (kind : ℕ) → least_size kind ≤ length xs → (fields_of kind xs ≡ Err Short → ⊥) → fields_of kind (xs ++ ys) ≡ fields_of kind xs
  unfolding fields_of least_size
  fields-behind =
      by_kind (λ (kind : ℕ). least_size kind ≤ length xs → (fields_of kind xs ≡ Err Short → ⊥) → fields_of kind (xs ++ ys) ≡ fields_of kind xs)
      (λ h whole. refl)
      (λ h whole. data-behind h whole)
      (λ h whole. rw (time-behind 1 (omega arith)))
      (λ h whole. rw (time-behind 1 (omega arith)))
      (λ h whole. rw (time-behind 1 (omega arith)))
      (λ h whole. rw (time-behind 1 (omega arith), field-behind 9 4 (omega arith)))
      (λ h whole. rw (field-behind 1 4 (omega arith), field-behind 5 4 (omega arith)))
      (λ h whole. rw (time-behind 1 (omega arith), field-behind 9 4 (omega arith)))
      (λ h whole. refl)
      (λ k l h whole. sym (unknown k l (xs ++ ys)) ∙ unknown k l xs)

pub record-behind : (xs ys : List ℕ) → (record_of xs ≡ Err Short → ⊥) → record_of (xs ++ ys) ≡ record_of xs
unfolding record_of least_size
record-behind [] ys whole = absurd (whole refl)
record-behind (x ∷ xs) ys whole =
    by-order (length (x ∷ xs)) (least_size x)
    (λ h. absurd (whole (rw (lt-ltb _ _ h))))
    (λ h.
    rw (le-ltb _ _ h, le-ltb _ _ (longer (x ∷ xs) ys h))
    (fields-behind (x ∷ xs) ys x h (λ e. whole (rw (le-ltb _ _ h) e))))

-- a record lies within its bytes, and takes some
data-within : (xs : List ℕ) → 24 ≤ length xs → size_of (data_of xs) ≤ length xs
unfolding data_of
data-within xs h =
    by-test (λ (r : Result Record Unread). size_of r ≤ length xs) (ltb 1456 (field xs 22 2)) _ _
    (λ t. omega arith)
    (λ t.
    by-test (λ (r : Result Record Unread). size_of r ≤ length xs) (ltb (length xs) (24 + field xs 22 2)) _ _
    (λ u. omega arith)
    (λ u. ltb-false _ _ u))

fields_within : (xs : List ℕ) (kind : ℕ) → least_size kind ≤ length xs → size_of (fields_of kind xs) ≤ length xs
unfolding fields_of least_size
fields_within xs =
    by_kind (λ (kind : ℕ). least_size kind ≤ length xs → size_of (fields_of kind xs) ≤ length xs)
    (λ h. omega arith)
    (λ h. data-within xs h)
    (λ h. h)
    (λ h. h)
    (λ h. h)
    (λ h. h)
    (λ h. h)
    (λ h. h)
    (λ h. h)
    (λ k l h. rw (← unknown k l xs) (omega arith))

pub size-within : (xs : List ℕ) → size_of (record_of xs) ≤ length xs
unfolding record_of
size-within xs =
    by-test (λ (r : Result Record Unread). size_of r ≤ length xs) (ltb (length xs) (least_size (byte_at xs 0))) _ _
    (λ t. omega arith)
    (λ t. fields_within xs (byte_at xs 0) (ltb-false _ _ t))

pub size-some : (r : Record) → 0 < size_in r
size-some (Data t a b c d n) = omega arith
size-some (Pop t) = omega arith
size-some (Report t) = omega arith
size-some (FullAck t) = omega arith
size-some (Ack2 t n) = omega arith
size-some (Drop a b) = omega arith
size-some (Clock t n) = omega arith
size-some Clear = omega arith

-- at a cursor: the record, and the payload of a data record, end within the piece; the payload is at most 1,456 bytes
pub record-in : (xs : List ℕ) (at : ℕ) {r : Record} → Ok r ≡ record_of (drop at xs) → at + size_in r ≤ length xs
record-in xs at {r} e =
    let w : size_in r ≤ length xs - at = rw (← length-drop at xs) (subst (λ (x : Result Record Unread). size_of x ≤ length (drop at xs)) (sym e) (size-within (drop at xs))) in
    omega (arith, size-some r)

pub payload-in : (xs : List ℕ) (at : ℕ) {r : Record} {time : ℤ} {number message location stamp n : ℕ}
    → Ok r ≡ record_of (drop at xs) → r ≡ Data time number message location stamp n → at + 24 + n ≤ length xs
payload-in xs at e f =
    let k = ap size_in f in
    omega (arith, record-in xs at e)

abbrev ShortPayload : Result Record Unread → Type 0
ShortPayload (Err e) = Unit {0}
ShortPayload (Ok (Data time number message location stamp n)) = n ≤ 1456
ShortPayload (Ok (Pop time)) = Unit {0}
ShortPayload (Ok (Report time)) = Unit {0}
ShortPayload (Ok (FullAck time)) = Unit {0}
ShortPayload (Ok (Ack2 time number)) = Unit {0}
ShortPayload (Ok (Drop first last)) = Unit {0}
ShortPayload (Ok (Clock time stamp)) = Unit {0}
ShortPayload (Ok Clear) = Unit {0}

short-payload : (xs : List ℕ) → ShortPayload (record_of xs)
unfolding record_of fields_of data_of
short-payload xs =
    by-test ShortPayload (ltb (length xs) (least_size (byte_at xs 0))) _ _
    (λ t. tt)
    (λ t.
    by_kind (λ (kind : ℕ). ShortPayload (fields_of kind xs)) tt
    (by-test ShortPayload (ltb 1456 (field xs 22 2)) _ _
    (λ u. tt)
    (λ u. by-test ShortPayload (ltb (length xs) (24 + field xs 22 2)) _ _ (λ v. tt) (λ v. ltb-false _ _ u)))
    tt
    tt
    tt
    tt
    tt
    tt
    tt
    (λ k l. rw (← unknown k l xs) tt)
    (byte_at xs 0))

pub payload-short : (xs : List ℕ) {r : Record} {time : ℤ} {number message location stamp n : ℕ}
    → Ok r ≡ record_of xs → r ≡ Data time number message location stamp n → n ≤ 1456
payload-short xs e f = subst ShortPayload (sym e ∙ ap Ok f) (short-payload xs)

-- a record that is cut is shorter than the longest one, and a cut header than 24 bytes: who holds so many need not ask for more
abbrev CutWithin : ℕ → Result Record Unread → Type 0
CutWithin n (Err Short) = n < longest_record
CutWithin n (Err Bad) = Unit {0}
CutWithin n (Ok r) = Unit {0}

least-within : (kind : ℕ) → least_size kind ≤ longest_record
unfolding least_size
least-within =
    by_kind (λ (kind : ℕ). least_size kind ≤ longest_record)
    (omega arith)
    (omega arith)
    (omega arith)
    (omega arith)
    (omega arith)
    (omega arith)
    (omega arith)
    (omega arith)
    (omega arith)
    (λ k l. rw (← fixed-past k l) (omega arith))

cut-within : (xs : List ℕ) → CutWithin (length xs) (record_of xs)
unfolding record_of fields_of data_of
cut-within xs =
    by-test (CutWithin (length xs)) (ltb (length xs) (least_size (byte_at xs 0))) _ _
    (λ t. omega (arith, ltb-true (length xs) (least_size (byte_at xs 0)) t, least-within (byte_at xs 0)))
    (λ t.
    by_kind (λ (kind : ℕ). CutWithin (length xs) (fields_of kind xs)) tt
    (by-test (CutWithin (length xs)) (ltb 1456 (field xs 22 2)) _ _
    (λ u. tt)
    (λ u. by-test (CutWithin (length xs)) (ltb (length xs) (24 + field xs 22 2)) _ _ (λ v. omega (arith, ltb-true (length xs) (24 + field xs 22 2) v, ltb-false 1456 (field xs 22 2) u)) (λ v. tt)))
    tt
    tt
    tt
    tt
    tt
    tt
    tt
    (λ k l. rw (← unknown k l xs) tt)
    (byte_at xs 0))

pub record-cut : (xs : List ℕ) → record_of xs ≡ Err Short → length xs < longest_record
record-cut xs e = subst (CutWithin (length xs)) e (cut-within xs)

pub header-cut : (xs : List ℕ) → header_of xs ≡ Err Short → length xs < 24
unfolding header_of
header-cut xs = by-test (λ (h : Result Header Unread). h ≡ Err Short → length xs < 24) (ltb (length xs) 24) _ _ (λ t e. ltb-true _ _ t) (λ t. whole (is_header xs))
  where
    whole : (b : Bool) → cond b (Ok (settings_in xs)) (Err Bad) ≡ Err Short → length xs < 24
    whole true e = absurd (let z : ◌≡◌ {A = ℕ} 0 1 = cc in omega arith)
    whole false e = absurd (let z : ◌≡◌ {A = ℕ} 0 1 = cc in omega arith)

-- numbers below their widths, of bytes
abbrev pub AreBytes : List ℕ → Type 0
AreBytes xs = (i : ℕ) → get_or xs i 0 < 256

from-below : (n m : ℕ) (bs : List ℕ) → AreBytes bs → n < m → big_from n bs < m * 256 ^ length bs
unfolding big_from
from-below n m [] small h = omega arith
from-below n m (b ∷ bs) small h =
    let l : 256 * n + b < m * 256 = omega (arith, small 0) in
    rw (pow-succ' 256 (length bs), ← mul_assoc m 256 (256 ^ length bs)) (from-below (256 * n + b) (m * 256) bs (λ i. small (suc i)) l)

take-bytes : (n : ℕ) (xs : List ℕ) → AreBytes xs → AreBytes (take n xs)
take-bytes n xs small i =
    by-order i n
    (λ h. rw (get_or-take n xs i 0 h) (small i))
    (λ h.
    let l : length (take n xs) ≤ i = rw (length-take n xs) (omega arith) in
    rw (get_or-eq_default (take n xs) 0 l) (omega arith))

drop-bytes : (n : ℕ) (xs : List ℕ) → AreBytes xs → AreBytes (drop n xs)
drop-bytes n xs small i = rw (get_or-drop n xs i 0) (small (n + i))

pub field_below : (xs : List ℕ) (at n : ℕ) → AreBytes xs → field xs at n < 256 ^ n
unfolding field big
field_below xs at n small =
    let bs = take n (drop at xs) in
    let a = from-below 0 1 bs (take-bytes n (drop at xs) (drop-bytes at xs small)) (omega arith) in
    let l : length bs ≤ n = rw (length-take n (drop at xs)) (omega arith) in
    let b : 256 ^ length bs ≤ 256 ^ n = pow-le-pow_right {n = 256} (omega arith) l in
    omega arith

pub time-below : (xs : List ℕ) (at : ℕ) → AreBytes xs → mag (time_at xs at) < 2 ^ 63
unfolding time_at
time-below xs at small = signed_range 64 (field xs at 8) (omega arith) (field_below xs at 8 small)

-- the numbers of a record and of a header
abbrev pub RecordFit : Result Record Unread → Type 0
RecordFit (Err e) = Unit {0}
RecordFit (Ok (Data time number message location stamp n)) =
    (mag time < 2 ^ 63) × (number < 2 ^ 32) × (message < 2 ^ 32) × (location < 256) × (stamp < 2 ^ 32) × (n ≤ 1456)
RecordFit (Ok (Pop time)) = mag time < 2 ^ 63
RecordFit (Ok (Report time)) = mag time < 2 ^ 63
RecordFit (Ok (FullAck time)) = mag time < 2 ^ 63
RecordFit (Ok (Ack2 time number)) = (mag time < 2 ^ 63) × (number < 2 ^ 32)
RecordFit (Ok (Drop first last)) = (first < 2 ^ 32) × (last < 2 ^ 32)
RecordFit (Ok (Clock time stamp)) = (mag time < 2 ^ 63) × (stamp < 2 ^ 32)
RecordFit (Ok Clear) = Unit {0}

abbrev pub HeaderFit : Result Header Unread → Type 0
HeaderFit (Err e) = Unit {0}
HeaderFit (Ok h) = (mag h.start < 2 ^ 63) × (h.latency < 2 ^ 32) × (h.first < 2 ^ 32) × (h.capacity < 2 ^ 16)

module _ (xs : List ℕ) (small : AreBytes xs) where
  data-fits : RecordFit (data_of xs)
  unfolding data_of
  data-fits =
      by-test RecordFit (ltb 1456 (field xs 22 2)) _ _
      (λ t. tt)
      (λ t.
      by-test RecordFit (ltb (length xs) (24 + field xs 22 2)) _ _
      (λ u. tt)
      (λ u. (time-below xs 1 small, field_below xs 9 4 small, field_below xs 13 4 small, small 17, field_below xs 18 4 small, ltb-false _ _ t)))

  fields_fit : (kind : ℕ) → RecordFit (fields_of kind xs)
  unfolding fields_of
  fields_fit =
      by_kind (λ (kind : ℕ). RecordFit (fields_of kind xs))
      tt
      data-fits
      (time-below xs 1 small)
      (time-below xs 1 small)
      (time-below xs 1 small)
      (time-below xs 1 small, field_below xs 9 4 small)
      (field_below xs 1 4 small, field_below xs 5 4 small)
      (time-below xs 1 small, field_below xs 9 4 small)
      tt
      (λ k l. rw (← unknown k l xs) tt)

  pub record-fits : RecordFit (record_of xs)
  unfolding record_of
  record-fits = by-test RecordFit (ltb (length xs) (least_size (byte_at xs 0))) _ _ (λ t. tt) (λ t. fields_fit (byte_at xs 0))

  pub header-fits : HeaderFit (header_of xs)
  unfolding header_of
  header-fits =
      by-test HeaderFit (ltb (length xs) 24) _ _
      (λ t. tt)
      (λ t.
      by-test HeaderFit (is_header xs) _ _
      (λ u. (time-below xs 5 small, field_below xs 13 4 small, field_below xs 18 4 small, field_below xs 22 2 small))
      (λ u. tt))
