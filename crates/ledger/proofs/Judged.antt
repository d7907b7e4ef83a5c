-- What each answer says is so: duplicates, lost places, fresh packets, messages and late drops. Assumes nothing.
use mathlib.Core.Path.{◌≡◌, refl, ap, sym, ◌∙◌, subst}
use mathlib.Core.Bool.{Bool, true, false, ◌||◌, not}
use mathlib.Core.List.{List, [], ◌∷◌, ◌++◌, map}
use Prim.Native.Nat.{ℕ, zero, suc, ◌+◌, ◌-◌, ◌^◌, ◌<◌, ◌≤◌}
use native.Mathlib.Nat.{mod-eq_of_lt}
use native.Mathlib.Omega.{arith}
use borrow.Author.Tests.{ltb-true}
use lib.Dec.{ltb}
use lib.IntN.{ℤ}
use lib.ListN.{length, get_or, set}
use Rattle.std.specs.Prelude.{Result, Ok, Err}
use Rattle.numbers.specs.Circular.{distance, equal, before, after, sum}
use Rattle.numbers.proofs.Flags.{impossible, and_left}
use Rattle.numbers.proofs.Circle.{stepped, around, before-not, after-at, sum-sum, distance-sum, distance_self}
use Rattle.numbers.proofs.Places.{place-distance}
use Rattle.slots.specs.Words as words
use Rattle.slots.specs.declared.entry.Entry.{Entry}
use Rattle.slots.specs.declared.entry.Entry.TheVariants.{Lost, Received, GivenUp}
use Rattle.window.specs.Window as windows
use Rattle.window.specs.Window.{slot_in, entry_in, with_lrsn, room_of}
use Rattle.window.specs.Ready.{Good}
use Rattle.window.specs.Push.{grown}
use Rattle.window.specs.declared.Window.{Window}
use Rattle.window.specs.declared.push.Packet.{Packet}
use Rattle.head.specs.Rules as rules
use Rattle.head.specs.Rules.{first_refusal, push_rules}
use Rattle.head.specs.Head.{head_ok}
use Rattle.head.specs.declared.state.Head.{Head}
use Rattle.head.specs.declared.refusal.Refusal.{Refusal}
use Rattle.head.specs.declared.refusal.Refusal.TheVariants as refusals
use Rattle.head.proofs.Gates.{err-ok}
use Rattle.receiver.specs.Data.{data_call_of}
use Rattle.receiver.specs.Paper.{data_line}
use Rattle.receiver.specs.declared.data.DataAnswer.{DataAnswer}
use Rattle.receiver.specs.declared.data.DataAnswer.TheVariants as datas
use Rattle.views.specs.View as views
use Rattle.views.specs.View.{Seen, seen_of, seen_at, entries, LrsnRight, packet_seen}
use Rattle.views.proofs.Lists.{entries_at}
use Rattle.ledger.specs.Ledger.{Place, lost, given_up, Ledger, number_of, front_of, next_of}
use Rattle.ledger.specs.Runs.{place_of}
use Rattle.ledger.specs.Seen.{appends, recovers, is_loss, LossIs, EarlyIs}
use Rattle.ledger.specs.Claims.{Judges}
use Rattle.ledger.proofs.Moved.{Stands, window-count, place-number}
use Rattle.ledger.proofs.Moves.{Admitted, number-some, got_answer, Said, data-moves}

get_d_map : {A B : Type 0} (f : A → B) (xs : List A) (i : ℕ) (d : A) → get_or (map f xs) i (f d) ≡ f (get_or xs i d)
get_d_map f [] i d = refl
get_d_map f (x ∷ xs) zero d = refl
get_d_map f (x ∷ xs) (suc i) d = get_d_map f xs i d

-- a place is lost just if its entry is
lost-is : (bs : List ℕ) (s : ℕ) (e : Entry) → place_of (seen_of bs s e) ≡ lost → words.is_lost e ≡ true
lost-is bs s (Lost k f) e = refl
lost-is bs s (Received n l m t) e = absurd (let z : ◌≡◌ {A = ℕ} 0 1 = cc in omega arith)
lost-is bs s GivenUp e = absurd (let z : ◌≡◌ {A = ℕ} 0 1 = cc in omega arith)

lost-so : (bs : List ℕ) (s : ℕ) (e : Entry) → words.is_lost e ≡ true → place_of (seen_of bs s e) ≡ lost
lost-so bs s (Lost k f) e = refl
lost-so bs s (Received n l m t) e = impossible (sym e)
lost-so bs s GivenUp e = impossible (sym e)

-- what is before is not after
neither : (x y : Bool) → not (x || y) ≡ true → y ≡ false
neither true true e = impossible (sym e)
neither true false e = refl
neither false true e = impossible (sym e)
neither false false e = refl

not-both : (w a b : ℕ) → before w a b ≡ true → after w a b ≡ false
unfolding before
not-both w a b e = neither (equal w a b) (after w a b) e

module _ (S : ℕ → List ℕ → Type 0) (l : Ledger) (h : Head) (ws bs : List ℕ) (time : ℤ) (p : Packet) (payload : List ℕ) (hs : p.stamp < 2 ^ 32)
    (a : Stands S l h.window (entries h.window ws bs)) where
  abbrev w : Window
  w = h.window

  abbrev es : List Seen
  es = entries w ws bs

  abbrev at : ℕ
  at = distance 31 p.number w.seqno0

  -- the place of an entry
  place_is : (d : Seen) (i : ℕ) → i < w.held → get_or l.held i (place_of d) ≡ place_of (seen_at ws bs (slot_in w i))
  place_is d i k =
      let z : 0 + i ≡ i = omega arith in
      ap (λ (x : List Place). get_or x i (place_of d)) (sym a.held)
      ∙ get_d_map place_of es i d
      ∙ ap place_of (entries_at w.capacity w.start ws bs 0 w.held i d k ∙ ap (λ (x : ℕ). seen_at ws bs (slot_in w x)) z)

  -- a held number, seen from the front and from the next expected
  index_is : Good w ws → (i : ℕ) → i ≤ w.held → number_of l (front_of l + i) ≡ p.number → at ≡ i
  index_is g i k e =
      ap (λ (x : ℕ). distance 31 x w.seqno0) (sym e ∙ sym (place-number a i)) ∙ distance-sum 31 w.seqno0 {n = i} (omega (arith, g.ranges.holds, g.ranges.most))

  far : Good w ws → (i : ℕ) → i < w.held → number_of l (front_of l + i) ≡ p.number → 2 ^ 30 ≤ distance 31 p.number (windows.next_of w)
  far g i k e =
      let n = w.held - i in
      let z : i + n ≡ w.held = omega arith in
      let d : distance 31 (windows.next_of w) p.number ≡ n =
      ap (λ (x : ℕ). distance 31 (windows.number_in w x) p.number) (sym z)
      ∙ ap (λ (x : ℕ). distance 31 (windows.number_in w (i + n)) x) (sym e ∙ sym (place-number a i))
      ∙ place-distance 31 w.seqno0 i n (omega (arith, g.ranges.holds, g.ranges.most)) in
      let o = around 31 (windows.next_of w) p.number (omega arith) in
      omega (arith, g.ranges.holds, g.ranges.most)

  -- the next expected, as the ledger says it
  next-is : windows.next_of w ≡ number_of l (next_of l)
  next-is = place-number a w.held ∙ ap (λ (x : ℕ). number_of l (front_of l + x)) (window-count ws bs a)

  none-missing : p.number ≡ number_of l (next_of l) → distance 31 p.number (windows.next_of w) ≡ 0
  none-missing e = ap (λ (x : ℕ). distance 31 x (windows.next_of w)) (e ∙ sym next-is) ∙ distance_self 31 (windows.next_of w)

  fresh-index : Good w ws → p.number ≡ number_of l (next_of l) → at ≡ w.held
  fresh-index g e = index_is g w.held (omega arith) (ap (λ (x : ℕ). number_of l (front_of l + x)) (window-count ws bs a) ∙ sym e)

  not-next : Good w ws → p.number ≡ windows.next_of w → (i : ℕ) → i < length l.held → number_of l (front_of l + i) ≡ p.number → ⊥
  not-next g q i k e = let f = far g i (omega (arith, window-count ws bs a)) e in let z = none-missing (q ∙ next-is) in omega arith

  not-far : Good w ws → distance 31 p.number (windows.next_of w) < 2 ^ 30 → (i : ℕ) → i < length l.held → number_of l (front_of l + i) ≡ p.number → ⊥
  not-far g m i k e = let f = far g i (omega (arith, window-count ws bs a)) e in omega arith

  not_late : Good w ws → before 31 p.number w.seqno0 ≡ true → (i : ℕ) → i ≤ w.held → number_of l (front_of l + i) ≡ p.number → ⊥
  not_late g b i k e =
      let z = index_is g i k e in impossible (sym b ∙ before-not 31 p.number w.seqno0 (omega (arith, g.ranges.holds, g.ranges.most)))

  number : Admitted h ws bs time p payload → number_of l (front_of l + at) ≡ p.number
  unfolding sum
  number d = sym (place-number a at) ∙ stepped 31 p.number w.seqno0 ∙ mod-eq_of_lt d.right.number

  -- a number after the next expected, with room: how far it is from either
  beyond-next : after 31 p.number (number_of l (next_of l)) ≡ true → 0 < distance 31 p.number (windows.next_of w)
  unfolding after
  beyond-next e =
      let n = distance 31 p.number (number_of l (next_of l)) in
      subst (λ (x : ℕ). 0 < distance 31 p.number x) (sym next-is) (ltb-true 0 n (and_left (ltb 0 n) (ltb n (2 ^ 30)) e))

  gap-room : Admitted h ws bs time p payload → length l.held + distance 31 p.number (number_of l (next_of l)) + 1 ≤ w.capacity
      → w.held + distance 31 p.number (windows.next_of w) + 1 ≤ 8192
  gap-room d x = let n = ap (distance 31 p.number) next-is in omega (arith, window-count ws bs a, n, x, d.good.ranges.most)

  gap-index : Admitted h ws bs time p payload → after 31 p.number (number_of l (next_of l)) ≡ true
      → length l.held + distance 31 p.number (number_of l (next_of l)) + 1 ≤ w.capacity → at ≡ w.held + distance 31 p.number (windows.next_of w)
  unfolding sum
  gap-index d e x =
      let m = distance 31 p.number (windows.next_of w) in
      let is : p.number ≡ sum 31 w.seqno0 (w.held + m) =
      sym (mod-eq_of_lt d.right.number) ∙ sym (stepped 31 p.number (windows.next_of w)) ∙ sum-sum 31 w.seqno0 w.held m in
      ap (λ (y : ℕ). distance 31 y w.seqno0) is ∙ distance-sum 31 w.seqno0 {n = w.held + m} (omega (arith, gap-room d x))

  abbrev tests : Result Unit Refusal
  tests = first_refusal (push_rules (head_ok h) w.capacity (length ws) (length bs) time h.latest p (length payload))

  abbrev Judged : Result DataAnswer Refusal → Type 0
  Judged x = Judges l w.capacity tests p.number x

  -- what each kind of answer says
  refused : (e : Refusal) → tests ≡ Err e → rules.number_of e ≤ 6 → Judged (Err e)
  refused r t most =
      let some = number-some r in
      record {
        in_order = λ e. impossible (sym e);
        for_lost = λ e. impossible (sym e);
        after_gap = λ e. impossible (sym e);
        gap_named = tt;
        full = λ e. absurd (omega arith);
        early = λ e. absurd (omega arith);
        room = λ e. absurd (omega arith);
        took = λ e. absurd (omega arith);
        late = λ e. absurd (omega arith);
        unplaced = λ b c i k e. omega arith;
        duplicate = λ e. absurd (omega arith);
        taken = λ z i k e q. absurd (err-ok (sym t ∙ z));
        next = λ z e r. absurd (err-ok (sym t ∙ z));
        gap = λ z e r. absurd (err-ok (sym t ∙ z));
      }

  full : Admitted h ws bs time p payload → p.number ≡ windows.next_of w → w.held ≡ w.capacity → Judged (Err refusals.BufferFull)
  full d q c =
      record {
        in_order = λ e. impossible (sym e);
        for_lost = λ e. impossible (sym e);
        after_gap = λ e. impossible (sym e);
        gap_named = tt;
        full = λ e. (q ∙ next-is, sym (window-count ws bs a) ∙ c);
        early = λ e. absurd (omega arith);
        room = λ e. absurd (omega arith);
        took = λ e. absurd (omega arith);
        unplaced = λ b m. not-next d.good q;
        duplicate = λ e. absurd (omega arith);
        taken = λ z i k e x. absurd (not-next d.good q i k e);
        late = λ e. absurd (omega arith);
        next = λ z e r. absurd (omega (arith, window-count ws bs a, c));
        gap = λ z e r. absurd (let y = beyond-next e in let x = none-missing (q ∙ next-is) in omega arith);
      }

  early : Admitted h ws bs time p payload → 0 < distance 31 p.number (windows.next_of w) → distance 31 p.number (windows.next_of w) < 2 ^ 30
      → room_of w < distance 31 p.number (windows.next_of w) + 1 → Judged (Err (refusals.PacketTooEarly (room_of w) (distance 31 p.number (windows.next_of w) + 1)))
  early d some under r =
      let n = ap (distance 31 p.number) next-is in
      record {
        in_order = λ e. impossible (sym e);
        for_lost = λ e. impossible (sym e);
        after_gap = λ e. impossible (sym e);
        gap_named = tt;
        full = λ e. absurd (omega arith);
        early = λ e. (ap (after 31 p.number) (sym next-is) ∙ after-at 31 p.number (windows.next_of w) some under, omega (arith, window-count ws bs a, n, r));
        room =
            λ e.
            ap (λ (x : ℕ). refusals.PacketTooEarly (w.capacity - x) (distance 31 p.number (windows.next_of w) + 1)) (window-count ws bs a)
            ∙ ap (λ (x : ℕ). refusals.PacketTooEarly (w.capacity - length l.held) (x + 1)) n;
        took = λ e. absurd (omega arith);
        unplaced = λ b m. not-far d.good under;
        duplicate = λ e. absurd (omega arith);
        taken = λ z i k e x. absurd (not-far d.good under i k e);
        late = λ e. absurd (omega arith);
        next = λ z e x. absurd (let y = none-missing e in omega arith);
        gap = λ z e x. absurd (omega (arith, window-count ws bs a, n, r, x, d.good.ranges.holds));
      }

  late : Admitted h ws bs time p payload → before 31 p.number (windows.next_of w) ≡ true → before 31 p.number w.seqno0 ≡ true → Judged (Err refusals.PacketTooLate)
  late d q b =
      record {
        in_order = λ e. impossible (sym e);
        for_lost = λ e. impossible (sym e);
        after_gap = λ e. impossible (sym e);
        gap_named = tt;
        full = λ e. absurd (omega arith);
        early = λ e. absurd (omega arith);
        room = λ e. absurd (omega arith);
        took = λ e. absurd (omega arith);
        unplaced = λ c m i k e. not_late d.good b i (omega (arith, window-count ws bs a)) e;
        duplicate = λ e. absurd (omega arith);
        taken = λ z i k e x. absurd (not_late d.good b i (omega (arith, window-count ws bs a)) e);
        late = λ e. (ap (before 31 p.number) (sym a.front) ∙ b, ap (after 31 p.number) (sym next-is) ∙ not-both 31 p.number (windows.next_of w) q);
        next = λ z e x. absurd (not_late d.good b w.held (omega arith) (ap (λ (y : ℕ). number_of l (front_of l + y)) (window-count ws bs a) ∙ sym e));
        gap =
            λ z e x.
            let y = gap-index d e x in
            impossible (sym b ∙ before-not 31 p.number w.seqno0 (omega (arith, d.good.ranges.most, gap-room d x)));
      }

  twice : Admitted h ws bs time p payload → at < w.held → words.is_lost (entry_in w ws at) ≡ false → Judged (Err refusals.DiscardedDuplicate)
  twice d i n =
      record {
        in_order = λ e. impossible (sym e);
        for_lost = λ e. impossible (sym e);
        after_gap = λ e. impossible (sym e);
        gap_named = tt;
        full = λ e. absurd (omega arith);
        early = λ e. absurd (omega arith);
        room = λ e. absurd (omega arith);
        took = λ e. absurd (omega arith);
        unplaced = λ b m j k e. omega arith;
        duplicate =
            λ e.
            (at, omega (arith, window-count ws bs a), number d, λ q. impossible (sym (lost-is bs (slot_in w at) (entry_in w ws at) (sym (place_is (views.lost 0 0) at i) ∙ q)) ∙ n));
        taken =
            λ z j k e q.
            let y = index_is d.good j (omega (arith, window-count ws bs a)) e in
            impossible (sym (lost-is bs (slot_in w at) (entry_in w ws at) (sym (place_is views.given_up at i) ∙ ap (λ (x : ℕ). get_or l.held x given_up) y ∙ q)) ∙ n);
        late = λ e. absurd (omega arith);
        next = λ z e x. absurd (let y = fresh-index d.good e in omega arith);
        gap = λ z e x. absurd (let y = gap-index d e x in omega arith);
      }

  -- one that is taken
  took : (x : Result DataAnswer Refusal) → (data_line x).refusal ≡ 0 → Admitted h ws bs time p payload
      → (appends x ≡ true → p.number ≡ number_of l (next_of l))
      → (recovers x ≡ true → (i : ℕ) × (i < length l.held) × (number_of l (front_of l + i) ≡ p.number) × (get_or l.held i given_up ≡ lost))
      → (is_loss x ≡ true → after 31 p.number (number_of l (next_of l)) ≡ true)
      → LossIs x (number_of l (next_of l)) (sum 31 p.number (2 ^ 31 - 1))
      → ((i : ℕ) → i < length l.held → number_of l (front_of l + i) ≡ p.number → get_or l.held i given_up ≡ lost → recovers x ≡ true)
      → (p.number ≡ number_of l (next_of l) → appends x ≡ true)
      → (after 31 p.number (number_of l (next_of l)) ≡ true → length l.held + distance 31 p.number (number_of l (next_of l)) + 1 ≤ w.capacity → is_loss x ≡ true)
      → EarlyIs x (w.capacity - length l.held) (distance 31 p.number (number_of l (next_of l)) + 1) → (appends x || recovers x || is_loss x) ≡ true
      → Judged x
  took x z d o v g n r f m rm tk =
      record {
        in_order = o;
        for_lost = v;
        after_gap = g;
        gap_named = n;
        full = λ e. absurd (omega (arith, z));
        early = λ e. absurd (omega (arith, z));
        room = rm;
        took = λ e. tk;
        late = λ e. absurd (omega (arith, z));
        unplaced = λ b m i k e. omega (arith, z);
        duplicate = λ e. absurd (omega (arith, z));
        taken = λ t. r;
        next = λ t e y. f e;
        gap = λ t. m;
      }

  -- an append without gap and a recovery, with a light ACK or without
  abbrev Named : Result DataAnswer Refusal → Type 0
  Named x = LossIs x (number_of l (next_of l)) (sum 31 p.number (2 ^ 31 - 1))

  abbrev Roomed : Result DataAnswer Refusal → Type 0
  Roomed x = EarlyIs x (w.capacity - length l.held) (distance 31 p.number (number_of l (next_of l)) + 1)

  appended : (x : Result DataAnswer Refusal) → (data_line x).refusal ≡ 0 → recovers x ≡ false → is_loss x ≡ false → appends x ≡ true → Named x → Roomed x → (appends x || recovers x || is_loss x) ≡ true
      → Admitted h ws bs time p payload → p.number ≡ windows.next_of w → Judged x
  appended x z v g f n rm tk d q =
      took x z d
      (λ e. q ∙ next-is)
      (λ e. impossible (sym e ∙ v))
      (λ e. impossible (sym e ∙ g))
      n
      (λ i k e y. absurd (not-next d.good q i k e))
      (λ e. f)
      (λ e m. absurd (let y = beyond-next e in let x = none-missing (q ∙ next-is) in omega arith))
      rm tk

  filled : (x : Result DataAnswer Refusal) → (data_line x).refusal ≡ 0 → appends x ≡ false → is_loss x ≡ false → recovers x ≡ true → Named x → Roomed x → (appends x || recovers x || is_loss x) ≡ true
      → Admitted h ws bs time p payload → at < w.held → words.is_lost (entry_in w ws at) ≡ true → Judged x
  filled x z o g v n rm tk d i m =
      took x z d
      (λ e. impossible (sym e ∙ o))
      (λ e. (at, omega (arith, window-count ws bs a), number d, place_is views.given_up at i ∙ lost-so bs (slot_in w at) (entry_in w ws at) m))
      (λ e. impossible (sym e ∙ g))
      n
      (λ j k e q. v)
      (λ e. absurd (let y = fresh-index d.good e in omega arith))
      (λ e r. absurd (let y = gap-index d e r in omega arith))
      rm tk

  pub data-judged : Said h ws bs time p payload hs a.right (λ v fs x. Judged x) (data_call_of h ws bs time p payload)
  data-judged =
      data-moves h ws bs time p payload hs a.right (λ v fs x. Judged x)
      refused
      full
      early
      late
      twice
      next
      (λ d some room r.
      took (Ok (datas.Loss (windows.next_of w) (sum 31 p.number (2 ^ 31 - 1)))) refl d
      (λ e. impossible (sym e))
      (λ e. impossible (sym e))
      (λ e. ap (after 31 p.number) (sym next-is) ∙ after-at 31 p.number (windows.next_of w) some (omega (arith, d.good.ranges.most)))
      (next-is, refl)
      (λ i k e q. absurd (not-far d.good (omega (arith, d.good.ranges.most)) i k e))
      (λ e. absurd (let y = none-missing e in omega arith))
      (λ e m. refl)
      tt refl)
      recovered
    where
      next : Admitted h ws bs time p payload → (light : Bool) (lrsn : ℕ) → p.number ≡ windows.next_of w → LrsnRight (grown w p 1) (es ++ (packet_seen p payload ∷ [])) → Judged (got_answer light lrsn false)
      next d true lrsn q r = appended (Ok (datas.Light lrsn false)) refl refl refl refl tt tt refl d q
      next d false lrsn q r = appended (Ok (datas.Got lrsn false)) refl refl refl refl tt tt refl d q

      recovered : Admitted h ws bs time p payload → (light : Bool) (lrsn : ℕ) → at < w.held → words.is_lost (entry_in w ws at) ≡ true
          → LrsnRight (with_lrsn w lrsn) (set es at (packet_seen p payload)) → Judged (got_answer light lrsn true)
      recovered d true lrsn i n r = filled (Ok (datas.Light lrsn true)) refl refl refl refl tt tt refl d i n
      recovered d false lrsn i n r = filled (Ok (datas.Got lrsn true)) refl refl refl refl tt tt refl d i n
