-- A reason of each form, computed from bytes that were written by hand. Assumes nothing.
use mathlib.Core.Path.{◌≡◌, refl}
use mathlib.Core.List.{List, [], ◌∷◌, ◌++◌}
use Prim.Native.Nat.{ℕ}
use lib.ListN.{replicate}
use Rattle.numbers.specs.Circular as circular
use Rattle.dlt.specs.Bytes as bytes
use Rattle.dlt.specs.Header as header
use Rattle.dlt.specs.Record as records
use Rattle.head.specs.Head as head
use Rattle.reason.specs.Reason.{is_marked, form_reason, header_reason, need_in, cut_reason, wrong_reason, record_reason}
use Rattle.reason.specs.declared.Reason.TheVariants as reasons
use Rattle.std.specs.Prelude.{Some, None}

-- a header with this letter for the T, version, late-drop, first byte of the start and capacity
abbrev opens : ℕ → ℕ → ℕ → ℕ → ℕ → List ℕ
opens letter version dropping start capacity =
    68 ∷ 76 ∷ letter ∷ 0 ∷ version ∷ start ∷ replicate 7 0 ++ replicate 4 0 ++ (dropping ∷ []) ++ replicate 4 0 ++ (0 ∷ capacity ∷ [])

short-header : header_reason (replicate 23 68) ≡ Some (reasons.HeaderCut 23)
unfolding header.header_of
short-header = refl

no-mark : header_reason (opens 88 1 0 0 4) ≡ Some reasons.NoMark
unfolding header.header_of header.is_header is_marked form_reason
no-mark = refl

second-version : header_reason (opens 84 2 0 0 4) ≡ Some (reasons.Version 2)
unfolding header.header_of header.is_header is_marked form_reason bytes.field bytes.big bytes.big_from
second-version = refl

late-drop : header_reason (opens 84 1 2 0 4) ≡ Some (reasons.LateDrop 2)
unfolding header.header_of header.is_header is_marked form_reason bytes.field bytes.big bytes.big_from
late-drop = refl

wide : header_reason (opens 84 1 0 0 33) ≡ Some (reasons.Capacity 33)
unfolding header.header_of header.is_header bytes.time_at bytes.field bytes.big bytes.big_from circular.signed
wide = refl

late-start : header_reason (opens 84 1 0 64 32) ≡ Some reasons.Setting
unfolding header.header_of header.is_header bytes.time_at bytes.field bytes.big bytes.big_from circular.signed head.made_of head.fresh_head
late-start = refl

taken : header_reason (opens 84 1 0 0 32) ≡ None
unfolding header.header_of header.is_header bytes.time_at bytes.field bytes.big bytes.big_from circular.signed head.made_of head.fresh_head
taken = refl

-- a pop of 9 bytes, and a data packet of 10 bytes before its length is there and after
cut-pop : record_reason (2 ∷ 0 ∷ []) ≡ Some (reasons.Cut 2 (Some 9))
unfolding records.record_of records.least_size cut_reason need_in
cut-pop = refl

cut-before : record_reason (1 ∷ replicate 22 0) ≡ Some (reasons.Cut 23 None)
unfolding records.record_of records.least_size cut_reason need_in
cut-before = refl

cut-payload : record_reason (1 ∷ replicate 21 0 ++ (0 ∷ 10 ∷ replicate 9 120)) ≡ Some (reasons.Cut 33 (Some 34))
unfolding records.record_of records.least_size records.fields_of records.data_of cut_reason need_in bytes.field bytes.big bytes.big_from
cut-payload = refl

ninth-kind : record_reason (9 ∷ []) ≡ Some (reasons.Kind 9)
unfolding records.record_of records.least_size records.fields_of wrong_reason
ninth-kind = refl

too_long : record_reason (1 ∷ replicate 21 0 ++ (5 ∷ 177 ∷ [])) ≡ Some (reasons.Length 1457)
unfolding records.record_of records.least_size records.fields_of records.data_of wrong_reason bytes.field bytes.big bytes.big_from
too_long = refl

end : record_reason [] ≡ None
unfolding records.record_of records.least_size cut_reason
end = refl
