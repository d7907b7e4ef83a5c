-- What the code of data.rt does with a packet at the next expected number, as laws over plain values: its append is the push's. Assumes nothing.
use mathlib.Core.Path.{◌≡◌, refl, sym, ◌∙◌, ap}
use mathlib.Core.Bool.{Bool, true, false}
use mathlib.Core.List.{List}
use Prim.Native.Nat.{ℕ, ◌+◌, ◌^◌, ◌≤◌}
use native.Mathlib.Nat.{mod-mod}
use native.Mathlib.Omega.{arith}
use borrow.Author.Rules.{rules}
use borrow.Author.Tests.{eq-eqb, ne_eqb}
use lib.Dec.{eqb}
use lib.IntN.{ℤ}
use lib.ListN.{length, set}
use Rattle.std.specs.Prelude.{Result, Err}
use Rattle.numbers.specs.Order.{order}
use Rattle.numbers.specs.Circular.{distance, equal}
use Rattle.numbers.proofs.Flags.{by_bool}
use Rattle.acks.specs.declared.history.History.{History}
use Rattle.slots.specs.Words.{write_at}
use Rattle.slots.specs.Ring.{with_payload}
use Rattle.slots.proofs.Laws.{slot-words, slot-bytes}
use Rattle.window.specs.Window.{slot_in, next_of}
use Rattle.window.specs.Push.{received, moved_past, append_next_of, push_of}
use Rattle.window.specs.declared.Window.{Window}
use Rattle.window.specs.declared.push.Packet.{Packet}
use Rattle.head.specs.declared.refusal.Refusal.{Refusal}
use Rattle.head.specs.declared.refusal.Refusal.TheVariants.{BufferFull}
use Rattle.head.specs.declared.state.Head.{Head}
use Rattle.receiver.specs.Data.{placed_of, rated_of}
use Rattle.receiver.specs.declared.data.DataAnswer.{DataAnswer}
use Rattle.packing.specs.Words.{word_of}
use Rattle.packing.specs.Packed as packed
use Rattle.packing.specs.Packed.{at, window_of, history_of, head_of, pack_of}
use Rattle.packing.proofs.Undo.{pack-unpack}
use Rattle.inplace.proofs.Messages.{says-head}
use Rattle.inplace.proofs.Datas.{rated-words, placed-words, take-ready, take-is}
use Rattle.sound.specs.Sound.{Typed}
use Rattle.inplace.specs.Calls.{DataLeft, data_left}
use Rattle.inplace.specs.Pushes.{put_rated, put_placed, Heard, heard, acked_in, got_in, taken_by, Rates, is_next, put_next, acked_next, kept_next, next_taken, Pushing, data_taken}

-- is_next
pub next-by : (w : Window) (number : ℕ) {n d : ℕ} → n ≡ next_of w → d ≡ distance 31 number n → eqb d 0 ≡ is_next w number
unfolding is_next equal
next-by w number e f = rw (f, e)

-- put_next, keep_next
pub next-put : (ws : List ℕ) (held lrsn : ℕ) (now : ℤ) {a b c : ℕ} {z : ℤ} → a ≡ held → b ≡ lrsn → c ≡ word_of z → z ≡ now → set (set (set ws 3 a) 5 b) 0 c ≡ put_next ws held lrsn now
unfolding put_next
next-put ws held lrsn now a b c d = rw (a, b, c, d)

pub next-kept : (ws : List ℕ) (held lrsn : ℕ) (now : ℤ) (number size : ℕ) {us vs : List ℕ} {z z₁ : ℤ} {y : History} {x : Heard}
    → us ≡ put_rated ws z number size → z ≡ now → vs ≡ put_next us held lrsn z₁ → z₁ ≡ now → y ≡ history_of vs → x ≡ acked_in vs y lrsn false → x ≡ kept_next ws held lrsn now number size
unfolding kept_next acked_next
next-kept ws held lrsn now number size a b c d f e = e ∙ rw (f, c, a, b, d)

-- take_next
module _ (ws : List ℕ) (w : Window) (slots bs : List ℕ) (now : ℤ) (p : Packet) (payload : List ℕ) where
  pub next-full : w.held ≡ w.capacity → data_left (Err BufferFull) ws slots bs ≡ next_taken ws w slots bs now p payload
  unfolding next_taken
  next-full h = rw (eq-eqb _ _ h)

  pub next-gone : {lrsn s : ℕ} {z : ℤ} {slots₁ bs₁ vs : List ℕ} {r : Result DataAnswer Refusal}
      → (w.held ≡ w.capacity → ⊥) → lrsn ≡ moved_past w.lrsn p.number → s ≡ slot_in w w.held
      → slots₁ ≡ write_at slots s (received p payload) → bs₁ ≡ with_payload bs s payload
      → heard r vs ≡ kept_next ws (w.held + 1) lrsn z p.number (length payload) → z ≡ now → data_left r vs slots₁ bs₁ ≡ next_taken ws w slots bs now p payload
  unfolding next_taken
  next-gone {slots₁ = slots₁} {bs₁ = bs₁} h a b c d e f = ap (λ (x : Heard). data_left x.answer x.words slots₁ bs₁) e ∙ rw (ne_eqb _ _ h, c, d, b, a, f)

-- a push at the next expected number appends
push-next : (w : Window) (slots bs : List ℕ) (t : ℤ) (p : Packet) (payload : List ℕ) → is_next w p.number ≡ true → push_of w slots bs t p payload ≡ append_next_of w slots bs t p payload
unfolding is_next push_of order
push-next w slots bs t p payload h = rw h

-- and the words that it leaves alone are those that the push would write
abbrev moved : Window → ℕ → ℕ → Window
moved w n l = record { capacity = w.capacity; start = w.start; held = n; seqno0 = w.seqno0; lrsn = l }

placed-next : (g : Head) (n l : ℕ) (now : ℤ) → put_next (pack_of g) n l now ≡ pack_of (placed_of g (moved g.window n l) now)
unfolding put_next pack_of packed.numbers_words
placed-next g n l now = refl

-- the history's numbers, read again from the words, are the same
history-again : (ws : List ℕ) (g : Head) → g.history ≡ history_of ws → history_of (pack_of g) ≡ history_of ws
unfolding pack_of packed.numbers_words
history-again ws g e = rw (e, mod-mod (at ws 76) (2 ^ 32), mod-mod (at ws 77) (2 ^ 32), mod-mod (at ws 78) (2 ^ 32))

acked-next : (ws : List ℕ) (g : Head) (l : ℕ) → g.history ≡ history_of ws → acked_next (pack_of g) l ≡ acked_in (pack_of g) (history_of ws) l false
unfolding acked_next
acked-next ws g l e = rw (history-again ws g e)

module _ (ws : List ℕ) (ok : pack_of (head_of ws) ≡ ws) (r : Rates ws) (n l : ℕ) (now : ℤ) (number size : ℕ) where
  abbrev rated : Head
  rated = rated_of (head_of ws) now number size

  kept-next : kept_next ws n l now number size ≡ got_in ws (moved (window_of ws) n l) l false now number size
  unfolding kept_next got_in rated_of head_of
  kept-next =
      let e = rated-words ws ok r now number size in
      let g = placed_of rated (moved (window_of ws) n l) now in
      ap (λ (x : List ℕ). acked_next (put_next x n l now) l) e
      ∙ ap (λ (x : List ℕ). acked_next x l) (placed-next rated n l now)
      ∙ acked-next ws g l refl
      ∙ ap (λ (x : List ℕ). acked_in x (history_of ws) l false) (sym (placed-words rated (moved (window_of ws) n l) now))
      ∙ ap (λ (x : List ℕ). acked_in (put_placed x (moved (window_of ws) n l) now) (history_of ws) l false) (sym e)

pub not-next : (w : Window) (number : ℕ) {c : Bool} → c ≡ is_next w number → c ≡ false → is_next w number ≡ false
not-next w number d h = sym d ∙ h

-- take
module _ (ws slots bs : List ℕ) (now : ℤ) (p : Packet) (payload : List ℕ) where
  next-is : Typed ws → Pushing ws slots bs now p payload → is_next (window_of ws) p.number ≡ true → next_taken ws (window_of ws) slots bs now p payload ≡ taken_by ws (window_of ws) slots bs now p payload
  unfolding next_taken taken_by append_next_of
  next-is t r h =
      let ok : pack_of (head_of ws) ≡ ws = ap pack_of (sym (says-head ws r.says)) ∙ pack-unpack ws t.small r.says t.long in
      let w = window_of ws in
      let e = push-next w slots bs now p payload h in
      by_bool (eqb w.held w.capacity)
      (λ b. rw (e, b))
      (λ b. rw (e, b, kept-next ws ok r.ready.rates (w.held + 1) (moved_past w.lrsn p.number) now p.number (length payload)))

  module _ {w : Window} (r : Pushing ws slots bs now p payload) (e : w ≡ window_of ws) where
    pub next-held : w.held ≤ 8192
    next-held = let g = r.ready.good in rw e (omega (arith, g.ranges.most, g.ranges.holds))

    pub next-taken : {c : Bool} {z : ℤ} {x : DataLeft} → Typed ws → c ≡ is_next w p.number → c ≡ true → x ≡ next_taken ws w slots bs z p payload → z ≡ now → x ≡ data_taken ws slots bs now p payload
    next-taken t d h x q = take-is ws slots bs now p payload r refl refl t (x ∙ rw (e, q) (next-is t r (rw e at (sym d ∙ h))))

pub ruleset nexts = (slot-words, slot-bytes, next-by, next-put, next-kept, next-full, next-gone, rules)

pub ruleset takes-next = (next-held, not-next, next-taken, take-ready, take-is, rules)
