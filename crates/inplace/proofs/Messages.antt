-- What the code of message.rt does at each return, as laws over plain values. Assumes nothing.
use mathlib.Core.Path.{◌≡◌, refl, sym, ◌∙◌, ap}
use mathlib.Core.Bool.{Bool, true, false}
use mathlib.Core.List.{List}
use Prim.Native.Nat.{ℕ}
use borrow.Author.Rules.{rules}
use lib.Dec.{eqb}
use lib.IntN.{ℤ}
use lib.ListN.{length, set}
use Rattle.std.specs.Prelude.{Result, Ok, Err}
use Rattle.numbers.proofs.Flags.{by_bool}
use Rattle.clock.specs.declared.time.SynchronizedRemoteClock.{SynchronizedRemoteClock}
use Rattle.window.specs.declared.Window.{Window}
use Rattle.window_pop.specs.Pop.{pop_ended, pop_of}
use Rattle.window_pop.specs.Ready.{PopReady}
use Rattle.window_pop.specs.declared.pop.Popped.{Popped}
use Rattle.window_pop.specs.declared.pop.OutShort.{OutShort}
use Rattle.window_pop.specs.declared.pop.PopAnswer.{PopAnswer}
use Rattle.window_pop.specs.declared.pop.PopAnswer.TheVariants as pops
use Rattle.head.specs.Rules.{number_of, first_refusal, pop_rules}
use Rattle.head.specs.Head.{head_ok}
use Rattle.head.specs.declared.refusal.Refusal.{Refusal}
use Rattle.head.specs.declared.refusal.Refusal.TheVariants as refusals
use Rattle.head.specs.declared.state.Head.{Head}
use Rattle.head.proofs.Gates.{err-ok}
use Rattle.head.proofs.Ready.{pop-ready}
use Rattle.receiver.specs.Message.{popped_of, popped, taken_of, pop_call_of}
use Rattle.receiver.specs.Paper.{message_line}
use Rattle.packing.specs.Words as words
use Rattle.packing.specs.Words.{word_of, whole_of, flag_of}
use Rattle.packing.specs.Packed as packed
use Rattle.packing.specs.Packed.{at, window_of, clock_of, head_of, formed, pack_of, unpack_of}
use Rattle.packing.specs.Puts.{put_window, put_base, put_stats}
use Rattle.packing.proofs.Undo.{pack-unpack}
use Rattle.sound.proofs.Sounds.{no-range}
use Rattle.sound.specs.Sound.{Typed}
use Rattle.inplace.specs.Calls.{kept_or, PopIn, pop_in, message_left, message_in}
use Rattle.inplace.specs.Pops.{put_popped, settled_of, settled_by, released_of, Popping, message_taken, pop_refusal}

-- put_popped
pub popped-put : (ws : List ℕ) (w : Window) (k : SynchronizedRemoteClock) (now : ℤ) {a b c : List ℕ} {n : ℕ} {z : ℤ}
    → a ≡ put_window ws w → b ≡ put_base a k → c ≡ put_stats b k → n ≡ word_of z → z ≡ now → set c 0 n ≡ put_popped ws w k now
unfolding put_popped
popped-put ws w k now e f g h i = rw (g, f, e, h, i)

-- no refusal has the number 0, and so one leaves the words
pub not-zero : (e : Refusal) → eqb (number_of e) 0 ≡ false
not-zero refusals.HeadBad = refl
not-zero refusals.AreaShort = refl
not-zero refusals.ClockRange = refl
not-zero refusals.ClockBack = refl
not-zero refusals.BadNumber = refl
not-zero refusals.PayloadLong = refl
not-zero refusals.BufferFull = refl
not-zero (refusals.PacketTooEarly room need) = refl
not-zero refusals.PacketTooLate = refl
not-zero refusals.DiscardedDuplicate = refl
not-zero refusals.OutShort = refl
not-zero refusals.ListShort = refl
not-zero refusals.FasnWorn = refl
not-zero refusals.DriftRange = refl
not-zero refusals.BadSetting = refl

pub words-stay : (e : Refusal) (next ws : List ℕ) → kept_or (number_of e) next ws ≡ ws
words-stay e next ws = rw (not-zero e)

pub says-head : (ws : List ℕ) → formed ws ≡ true → unpack_of ws ≡ head_of ws
unfolding unpack_of
says-head ws f = rw f

-- the words of the head after a pop
popped-words : (h : Head) (w : Window) (k : SynchronizedRemoteClock) (now : ℤ) → put_popped (pack_of h) w k now ≡ pack_of (popped_of h w k now)
unfolding put_popped put_window put_base put_stats pack_of packed.numbers_words
popped-words h w k now = refl

-- release
module _ (ws slots bs out : List ℕ) (now : ℤ) where
  pub release-ready : {k : SynchronizedRemoteClock} {w : Window} {l : ℕ} {n : ℤ} → PopReady (clock_of ws) (words.number_of (at ws 6)) (window_of ws) slots bs now
      → k ≡ clock_of ws → l ≡ words.number_of (at ws 6) → w ≡ window_of ws → n ≡ now → PopReady k l w slots bs n
  release-ready r e f g h = rw (e, f, g, h) r

  pub released : {k : SynchronizedRemoteClock} {w : Window} {l : ℕ} {d : Bool} {n : ℤ} {x : PopIn}
      → k ≡ clock_of ws → l ≡ words.number_of (at ws 6) → d ≡ flag_of (at ws 7) → w ≡ window_of ws
      → x ≡ settled_by ws n (pop_of k l d w slots n bs out) → n ≡ now → x ≡ released_of ws slots bs out now
  unfolding released_of
  released a b c d e p = e ∙ rw (a, b, c, d, p)

-- refusal
pub refusal-by : (ws : List ℕ) (slots bytes : ℕ) (now : ℤ) {ok : Bool} {c : ℕ} {n : Result Unit Refusal} {t l l₁ : ℤ} → ok ≡ head_ok (unpack_of ws) → c ≡ at ws 1 → l ≡ whole_of (at ws 0) → l₁ ≡ l
    → n ≡ first_refusal (pop_rules ok c slots bytes t l₁) → t ≡ now → n ≡ pop_refusal ws slots bytes now
unfolding pop_refusal
refusal-by ws slots bytes now a b c d e f = e ∙ rw (a, b, d, c, f)

-- the call
module _ (ws slots bs out : List ℕ) (now : ℤ) where
  -- the refusal is that of the head that the words say
  same-refusal : pop_refusal ws (length slots) (length bs) now ≡ first_refusal (pop_rules (head_ok (unpack_of ws)) (unpack_of ws).window.capacity (length slots) (length bs) now (unpack_of ws).latest)
  unfolding pop_refusal unpack_of head_of
  same-refusal = by_bool (formed ws) (λ b. rw b) (λ b. rw (b, no-range))

  says : pop_refusal ws (length slots) (length bs) now ≡ Ok tt → formed ws ≡ true
  unfolding pop_refusal unpack_of
  says e = by_bool (formed ws) (λ b. b) (λ b. absurd (err-ok (rw (b, no-range) at e)))

  pub call-ready : {n : Result Unit Refusal} → n ≡ pop_refusal ws (length slots) (length bs) now → n ≡ Ok tt → Popping ws slots bs now
  unfolding unpack_of head_of
  call-ready e z =
      let f = says (sym e ∙ z) in
      let r = pop-ready (unpack_of ws) now slots bs (sym z ∙ e ∙ same-refusal) in
      record { says = f; ready = rw f at r }

  module _ (t : Typed ws) where
    -- a pop on the words is the pop on the head
    put-words : formed ws ≡ true → (w : Window) (k : SynchronizedRemoteClock) → put_popped ws w k now ≡ pack_of (popped_of (head_of ws) w k now)
    put-words f w k = ap (λ (l : List ℕ). put_popped l w k now) (sym (pack-unpack ws t.small f t.long) ∙ ap pack_of (says-head ws f)) ∙ popped-words (head_of ws) w k now

    ok-zero : (a : PopAnswer) → (message_line (Ok a)).refusal ≡ 0
    ok-zero pops.Nothing = refl
    ok-zero (pops.Message time bytes packets) = refl
    ok-zero (pops.Late first end delay) = refl

    by_answer : formed ws ≡ true → (left : List ℕ) (r : Result Popped OutShort)
        → (let s = settled_of ws r now in pop_in s.answer s.words left) ≡ message_left ws (popped (head_of ws) now (pop_ended r left))
    by_answer f left (Ok p) = rw (ok-zero p.answer, put-words f p.window p.clock)
    by_answer f left (Err _) = refl

    pub take-is : {x : PopIn} {t : ℤ} → Popping ws slots bs now → x ≡ released_of ws slots bs out t → t ≡ now → x ≡ message_taken ws slots bs out now
    unfolding released_of taken_of head_of
    take-is p x q =
        let o = pop_of (clock_of ws) (words.number_of (at ws 6)) (flag_of (at ws 7)) (window_of ws) slots now bs out in
        x ∙ rw q (by_answer p.says o.output o.popped)

  pub take-ready : {t : ℤ} → Popping ws slots bs now → t ≡ now → PopReady (clock_of ws) (words.number_of (at ws 6)) (window_of ws) slots bs t
  take-ready p q = rw q p.ready

  pub call-taken : {n : Result Unit Refusal} {x : PopIn} {t t₁ : ℤ} → n ≡ pop_refusal ws (length slots) (length bs) t₁ → t₁ ≡ now → n ≡ Ok tt → x ≡ message_taken ws slots bs out t → t ≡ now → x ≡ message_in ws slots bs out now
  unfolding pop_call_of
  call-taken {n} a b z x q =
      let e : n ≡ pop_refusal ws (length slots) (length bs) now = a ∙ rw b in
      let f = says (sym e ∙ z) in
      x ∙ rw (q, sym same-refusal ∙ sym e ∙ z, says-head ws f)

  pub call-refused : {n : Result Unit Refusal} {x : Refusal} {t : ℤ} → n ≡ pop_refusal ws (length slots) (length bs) t → t ≡ now → n ≡ Err x → pop_in (Err x) ws out ≡ message_in ws slots bs out now
  unfolding pop_call_of
  call-refused {n} {x} a b z =
      let e : n ≡ pop_refusal ws (length slots) (length bs) now = a ∙ rw b in
      rw (← same-refusal, ← e, z, words-stay x)

pub ruleset pops-in = (popped-put, release-ready, released, rules)

pub ruleset pop-calls = (call-ready, call-taken, call-refused, rules)
