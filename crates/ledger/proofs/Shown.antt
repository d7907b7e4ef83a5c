-- Show, in a run: of a number whose held place is received it shows the ledger's bytes, of any other nothing: 01, "Window", "can be shown where it lies". Assumes nothing.
use mathlib.Core.Path.{◌≡◌, refl, ap, sym, ◌∙◌, subst}
use mathlib.Core.Bool.{Bool, true, ◌&&◌}
use mathlib.Core.List.{List, [], ◌∷◌, map}
use Prim.Native.Nat.{ℕ, zero, suc, ◌+◌, ◌*◌, ◌^◌, ◌<◌, ◌≤◌}
use native.Mathlib.Nat.{mod-eq_of_lt}
use native.Mathlib.Omega.{arith}
use borrow.Author.Tests.{ltb-true, ltb-false, lt-ltb, leb-false}
use denote.Ref.{Bor}
use lib.Dec.{ltb}
use lib.ListN.{length, take, drop, get_or, length-drop}
use lib.Seq.{length-take-le}
use Rattle.std.specs.Prelude.{Option, Some, None, Result, Ok, Err, is_some}
use Rattle.numbers.specs.Circular.{distance, sum}
use Rattle.numbers.proofs.Flags.{impossible, and_left, and_right, by-test}
use Rattle.numbers.proofs.Circle.{stepped, distance-sum}
use Rattle.slots.specs.Words as words
use Rattle.slots.specs.Ring.{payload_at, payload_start}
use Rattle.slots.specs.declared.entry.Entry.{Entry}
use Rattle.slots.specs.declared.entry.Entry.TheVariants.{Lost, Received, GivenUp}
use Rattle.slots.proofs.Laws.{length-read, slot_lt}
use Rattle.window.specs.Window.{slot_in, entry_in}
use Rattle.window.specs.Ready.{InWindow, Bytes}
use Rattle.window.specs.Show.{ShownAt, shown_of}
use Rattle.window.specs.declared.Window.{Window}
use Rattle.window.specs.declared.show.Part.{Part}
use Rattle.window.proofs.Ranges.{in_window}
use Rattle.head.specs.Rules.{judged, show_rules}
use Rattle.head.specs.Head.{head_ok}
use Rattle.head.specs.declared.refusal.Refusal.{Refusal}
use Rattle.head.specs.declared.state.Head.{Head}
use Rattle.head.proofs.Gates.{clear, err-ok}
use Rattle.head.proofs.Ready.{in_parts}
use Rattle.upkeep.specs.Show.{refusal_of, place_call_of, shown_ended, found_as, shown_call_of}
use Rattle.views.specs.View as views
use Rattle.views.specs.View.{seen_of, seen_at, entries}
use Rattle.views.proofs.Lists.{entries_at}
use Rattle.ledger.specs.Ledger.{Place, lost, received, Ledger, number_of, front_of}
use Rattle.ledger.specs.Runs.{place_of}
use Rattle.ledger.specs.Claims.{Shows}
use Rattle.ledger.proofs.Moved.{Stands, window-count, place-number}

get_d_map : {A B : Type 0} (f : A → B) (xs : List A) (i : ℕ) (d : A) → get_or (map f xs) i (f d) ≡ f (get_or xs i d)
get_d_map f [] i d = refl
get_d_map f (x ∷ xs) zero d = refl
get_d_map f (x ∷ xs) (suc i) d = get_d_map f xs i d

received-place : (bs : List ℕ) (s : ℕ) (e : Entry) → words.is_received e ≡ true → place_of (seen_of bs s e) ≡ received (payload_at bs s (words.length_in e))
received-place bs s (Lost k f) t = impossible (sym t)
received-place bs s (Received n l m k) t = refl
received-place bs s GivenUp t = impossible (sym t)

place-received : (bs : List ℕ) (s : ℕ) (e : Entry) (bytes : List ℕ) → place_of (seen_of bs s e) ≡ received bytes → words.is_received e ≡ true
place-received bs s (Lost k f) bytes t = absurd (let z : ◌≡◌ {A = ℕ} 0 1 = cc in omega arith)
place-received bs s (Received n l m k) bytes t = refl
place-received bs s GivenUp bytes t = absurd (let z : ◌≡◌ {A = ℕ} 0 1 = cc in omega arith)

same-bytes : {xs ys : List ℕ} → received xs ≡ received ys → xs ≡ ys
same-bytes e = cc

-- no part is a part, and of parts that are the same one holds what the other does
no-part : {q : Part} {P : Type 0} → None ≡ Some q → P
no-part e = absurd (let z : ◌≡◌ {A = ℕ} 0 1 = cc in omega arith)

same-part : {p q : Part} → Some p ≡ Some q → p ≡ q
same-part e = cc

-- where there is no part, what is shown is empty
nothing-shown : (p : Option Part) → p ≡ None → (s r : Bor (List ℕ)) → ShownAt p s r → length r.now ≡ 0
nothing-shown (Some q) e s r g = no-part (sym e)
nothing-shown None e s r g = ap length g.bytes

module _ (S : ℕ → List ℕ → Type 0) (l : Ledger) (w : Window) (ws bs : List ℕ) (a : Stands S l w (entries w ws bs)) (r : InWindow w) (gb : Bytes w bs) (number : ℕ) (n : number < 2 ^ 31) where
  abbrev at : ℕ
  at = distance 31 number w.seqno0

  place_is : (i : ℕ) → i < w.held → get_or l.held i lost ≡ place_of (seen_at ws bs (slot_in w i))
  place_is i k =
      let z : 0 + i ≡ i = omega arith in
      ap (λ (x : List Place). get_or x i lost) (sym a.held)
      ∙ get_d_map place_of (entries w ws bs) i (views.lost 0 0)
      ∙ ap place_of (entries_at w.capacity w.start ws bs 0 w.held i (views.lost 0 0) k ∙ ap (λ (x : ℕ). seen_at ws bs (slot_in w x)) z)

  numbered : number_of l (front_of l + at) ≡ number
  unfolding sum
  numbered = sym (place-number a at) ∙ stepped 31 number w.seqno0 ∙ mod-eq_of_lt n

  index_is : (i : ℕ) → i < w.held → number_of l (front_of l + i) ≡ number → at ≡ i
  index_is i k e =
      ap (λ (x : ℕ). distance 31 x w.seqno0) (sym e ∙ sym (place-number a i)) ∙ distance-sum 31 w.seqno0 {n = i} (omega (arith, r.holds, r.most))

  abbrev FoundAt : Part → Type 0
  FoundAt q = (i : ℕ) × (i < length l.held) × (number_of l (front_of l + i) ≡ number) × (get_or l.held i lost ≡ received (take q.len (drop q.at bs)))

  abbrev Found : Option Part → Type 0
  Found p = (q : Part) → p ≡ Some q → FoundAt q

  abbrev ShownIn : Option Part → Type 0
  ShownIn p =
      (i : ℕ) (bytes : List ℕ) → i < length l.held → number_of l (front_of l + i) ≡ number → get_or l.held i lost ≡ received bytes
      → (q : Part) × (p ≡ Some q) × (take q.len (drop q.at bs) ≡ bytes) × (q.len ≡ length bytes)

  abbrev Inside : Option Part → Type 0
  Inside p = (q : Part) → p ≡ Some q → q.at + q.len ≤ length bs

  fits : payload_start (slot_in w at) + words.length_in (entry_in w ws at) ≤ length bs
  fits = omega (arith, length-read ws (slot_in w at), slot_lt w.capacity w.start at r.some)

  whole : length (take (words.length_in (entry_in w ws at)) (drop (payload_start (slot_in w at)) bs)) ≡ words.length_in (entry_in w ws at)
  whole =
      let m : words.length_in (entry_in w ws at) ≤ length (drop (payload_start (slot_in w at)) bs) = rw length-drop (omega (arith, fits)) in
      length-take-le (words.length_in (entry_in w ws at)) (drop (payload_start (slot_in w at)) bs) m

  -- the part of the number's entry
  abbrev part : Part
  part = record { at = payload_start (slot_in w at); len = words.length_in (entry_in w ws at) }

  abbrev test : Bool
  test = ltb at w.held && words.is_received (entry_in w ws at)

  -- what the window shows is what the ledger has for the number
  found-so : Found (shown_of w ws number)
  unfolding shown_of
  found-so =
      by-test Found test (Some part) None
      (λ t.
      let h = ltb-true at w.held (and_left (ltb at w.held) (words.is_received (entry_in w ws at)) t) in
      let u = and_right (ltb at w.held) (words.is_received (entry_in w ws at)) t in
      let f : FoundAt part = (at, omega (arith, window-count ws bs a, h), numbered, place_is at h ∙ received-place bs (slot_in w at) (entry_in w ws at) u) in
      λ q e. subst FoundAt (same-part e) f)
      (λ t q e. no-part e)

  shown-so : ShownIn (shown_of w ws number)
  unfolding shown_of
  shown-so =
      by-test ShownIn test (Some part) None
      (λ t.
      let h = ltb-true at w.held (and_left (ltb at w.held) (words.is_received (entry_in w ws at)) t) in
      let u = and_right (ltb at w.held) (words.is_received (entry_in w ws at)) t in
      let p = place_is at h ∙ received-place bs (slot_in w at) (entry_in w ws at) u in
      λ i bytes k e q.
      let y = same-bytes (sym p ∙ ap (λ (x : ℕ). get_or l.held x lost) (index_is i (omega (arith, window-count ws bs a)) e) ∙ q) in
      (part, refl, y, sym whole ∙ ap length y))
      (λ t i bytes k e q.
      let h : i < w.held = omega (arith, window-count ws bs a) in
      let y = index_is i h e in
      let v = place-received bs (slot_in w i) (entry_in w ws i) bytes (sym (place_is i h) ∙ q) in
      let f : ltb at w.held ≡ true = lt-ltb at w.held (omega (arith, y, h)) in
      let g : words.is_received (entry_in w ws at) ≡ true = ap (λ (x : ℕ). words.is_received (entry_in w ws x)) y ∙ v in
      let c : test ≡ true = rw (f, g) in
      impossible (sym c ∙ t))

  inside-so : Inside (shown_of w ws number)
  unfolding shown_of
  inside-so =
      by-test Inside test (Some part) None
      (λ t q e. subst (λ (x : Part). x.at + x.len ≤ length bs) (same-part e) fits)
      (λ t q e. no-part e)

-- the call, with its second question
module _ (S : ℕ → List ℕ → Type 0) (l : Ledger) (h : Head) (ws bs : List ℕ) (a : Stands S l h.window (entries h.window ws bs)) (ok : head_ok h ≡ true) (number : ℕ) where
  abbrev tests : Result Unit Refusal
  tests = refusal_of h ws (length bs) number

  -- the number's range, from the test of it
  in-number : {x : Unit} → tests ≡ Ok x → number < 2 ^ 31
  in-number z = leb-false (2 ^ 31) number (clear (show_rules (head_ok h) h.window.capacity (length ws) (length bs) number) (sym z)).1.1.1.0

  long-enough : {x : Unit} → tests ≡ Ok x → Bytes h.window bs
  long-enough z = ltb-false (length bs) (1456 * h.window.capacity) (clear (show_rules (head_ok h) h.window.capacity (length ws) (length bs) number) (sym z)).1.1.0

  -- which of these, or received
  second : (p : Option Part) → (found_as p).answer ≡ Ok (is_some p)
  second (Some p) = refl
  second None = refl

  by-tests : (m : Result Unit Refusal) → tests ≡ m
      → Shows l m number bs (judged m (shown_of h.window ws number) (λ e. None)) (judged m (found_as (shown_of h.window ws number)) (λ e. shown_ended (Err e))).answer
  by-tests (Ok x) z =
      let n = in-number z in
      let g = long-enough z in
      let r = in_window h.window (in_parts h ok).window in
      record {
        found = found-so S l h.window ws bs a r g number n;
        inside = inside-so S l h.window ws bs a r g number n;
        shown = λ e. shown-so S l h.window ws bs a r g number n;
        empty = nothing-shown (shown_of h.window ws number);
        answer = second (shown_of h.window ws number);
      }
  by-tests (Err e) z =
      record {
        found = λ q f. no-part f;
        inside = λ q f. no-part f;
        shown = λ f. absurd (err-ok f);
        empty = nothing-shown None;
        answer = refl;
      }

  pub shows : Shows l tests number bs (place_call_of h ws (length bs) number) (shown_call_of h ws (length bs) number).answer
  unfolding place_call_of shown_call_of
  shows = by-tests tests refl
