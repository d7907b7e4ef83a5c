-- What the code of data.rt does at each return, as laws over plain values. Assumes nothing.
use mathlib.Core.Path.{◌≡◌, refl, sym, ◌∙◌, ap}
use mathlib.Core.Bool.{Bool, true, false, not, cond}
use mathlib.Core.List.{List}
use Prim.Native.Nat.{ℕ, zero, suc, ◌+◌, ◌%◌, ◌<◌}
use native.Mathlib.Omega.{arith}
use borrow.Author.Rules.{rules}
use borrow.Author.Tests.{ne_eqb, eq-eqb}
use lib.Dec.{ltb, eqb}
use lib.IntN.{ℤ}
use lib.ListN.{length, set}
use lib.Seq.{get_or-set_other}
use Rattle.std.specs.Prelude.{Option, Some, None, Result, Ok, Err}
use Rattle.numbers.proofs.Flags.{impossible, by_bool}
use Rattle.numbers.specs.Circular.{distance, after, before, sum}
use Rattle.numbers.specs.Order.{order}
use Rattle.intervals.specs.Rates as rates
use Rattle.numbers.specs.Instants.{since_time}
use Rattle.intervals.specs.Rates.{next_place, count_after, arrived_first, arrival_of, with_probe, paired_since, pair_of, link_of}
use Rattle.acks.specs.History.{light_ack_of}
use Rattle.acks.specs.declared.history.History.{History}
use Rattle.intervals.specs.declared.rates.Arrivals.{Arrivals}
use Rattle.intervals.specs.declared.rates.Links.{Links}
use Rattle.slots.specs.Words.{is_lost}
use Rattle.window.specs.Window.{entry_in, next_of, room_of}
use Rattle.window.specs.Push.{PushOutcome, push_ended, append_with_loss_of, recovered_of, recover_of, push_of}
use Rattle.window.specs.declared.Window.{Window}
use Rattle.window.specs.declared.push.Packet.{Packet}
use Rattle.window.specs.declared.push.Pushed.{Pushed}
use Rattle.window.specs.declared.push.PushRefusal.{PushRefusal}
use Rattle.window.specs.declared.push.PushAnswer.{PushAnswer}
use Rattle.window.specs.declared.push.PushAnswer.TheVariants as pushes
use Rattle.head.specs.Rules.{first_refusal, push_rules, push_refused}
use Rattle.head.specs.Head.{head_ok}
use Rattle.head.specs.declared.refusal.Refusal.{Refusal}
use Rattle.head.specs.Parts.{with_rates}
use Rattle.head.specs.declared.state.Head.{Head}
use Rattle.head.specs.Ready.{PushReady}
use Rattle.head.proofs.Gates.{err-ok}
use Rattle.head.proofs.Ready.{push-ready}
use Rattle.receiver.specs.Data as receiver
use Rattle.receiver.specs.Data.{placed_of, acked_of, rated_of, got_of, after_taken, after_push, taken_of, data_call_of}
use Rattle.receiver.proofs.Datas.{arrivals-fit, links-fit}
use Rattle.receiver.specs.Paper.{data_line}
use Rattle.receiver.specs.declared.data.DataAnswer.{DataAnswer}
use Rattle.receiver.specs.declared.data.DataAnswer.TheVariants as answers
use Rattle.packing.specs.Words.{word_of, whole_of, moment_of, set_word, time_word}
use Rattle.packing.specs.Packed as packed
use Rattle.packing.specs.Packed.{at, sixteen_of, window_of, history_of, arrivals_of, links_of, head_of, formed, pack_of, unpack_of}
use Rattle.packing.specs.Puts.{put_window}
use Rattle.packing.proofs.Undo.{pack-unpack}
use Rattle.sound.proofs.Sounds.{no-range}
use Rattle.inplace.proofs.Messages.{says-head, words-stay}
use Rattle.sound.specs.Sound.{Typed}
use Rattle.inplace.specs.Calls.{kept_or, DataLeft, data_left, data_in}
use Rattle.inplace.specs.Pushes.{put_last, put_arrival, put_pair, put_link, put_linked, put_rated, put_placed, Heard, heard, acked_in, got_in, after_taken_in, after_push_in, recovered_in, after_other, taken_by, is_next, Pairs, Rates, TakeReady, Pushing, data_taken, push_refusal}

-- put_last, put_arrival, put_link
pub last-put : (ws : List ℕ) (now : ℤ) {n : ℕ} {z : ℤ} → n ≡ word_of z → z ≡ now → set (set ws 52 1) 53 n ≡ put_last ws now
unfolding put_last
last-put ws now e f = rw (e, f)

module _ (ws : List ℕ) (place count : ℕ) (m : Option ℤ) (now : ℤ) where
  pub arrival-first : (size : ℕ) {vs : List ℕ} {z : ℤ} → m ≡ None → vs ≡ put_last ws z → z ≡ now → vs ≡ put_arrival ws place count m now size
  unfolding put_arrival
  arrival-first size e f g = f ∙ rw (e, g)

  pub arrival-next : (size : ℕ) {t t₁ z z₁ : ℤ} {a b c d g s : ℕ} {vs : List ℕ} → m ≡ Some t → g ≡ since_time z t₁ → z ≡ now → t₁ ≡ t → a ≡ g → s ≡ size → b ≡ next_place place → c ≡ d → d ≡ count_after count
      → vs ≡ put_last (set (set (set (set ws (18 + place) a) (34 + place) s) 50 b) 51 c) z₁ → z₁ ≡ now → vs ≡ put_arrival ws place count m now size
  unfolding put_arrival
  arrival-next size e f p q h o i j j₁ k l = k ∙ rw (h, f, p, q, o, i, j, j₁, l, e)

module _ (ws : List ℕ) (now : ℤ) (number : ℕ) where
  pub link-first : {n : ℕ} {z : ℤ} → number % 16 ≡ 0 → n ≡ word_of z → z ≡ now → set (set ws 72 1) 73 n ≡ put_linked ws now number
  unfolding put_linked
  link-first e f g = rw (eq-eqb (number % 16) 0 e, f, g)

  pub link-second : {p q : ℕ} {m : Option ℤ} {vs : List ℕ} {z : ℤ} → (number % 16 ≡ 0 → ⊥) → number % 16 ≡ 1
      → p ≡ at ws 70 → q ≡ at ws 71 → m ≡ moment_of (at ws 72) (at ws 73) → vs ≡ put_pair ws p q m z → z ≡ now → vs ≡ put_linked ws now number
  unfolding put_linked
  link-second a b p q m e f = e ∙ rw (ne_eqb (number % 16) 0 a, eq-eqb (number % 16) 1 b, p, q, m, f)

  pub link-other : (number % 16 ≡ 0 → ⊥) → (number % 16 ≡ 1 → ⊥) → ws ≡ put_linked ws now number
  unfolding put_linked
  link-other a b = rw (ne_eqb (number % 16) 0 a, ne_eqb (number % 16) 1 b)

-- an arrival leaves the words of the pairs
module _ (j : ℕ) (h : 53 < j) where
  kept : (ws : List ℕ) (i x : ℕ) → i < 54 → at (set ws i x) j ≡ at ws j
  kept ws i x k = get_or-set_other ws i j x 0 (λ e. omega arith)

  last-keeps : (ws : List ℕ) (now : ℤ) → at (put_last ws now) j ≡ at ws j
  unfolding put_last
  last-keeps ws now = kept (set ws 52 1) 53 (word_of now) (omega arith) ∙ kept ws 52 1 (omega arith)

  arrival-keeps : (ws : List ℕ) (place count : ℕ) (m : Option ℤ) (now : ℤ) (size : ℕ) → place < 16 → at (put_arrival ws place count m now size) j ≡ at ws j
  unfolding put_arrival
  arrival-keeps ws place count None now size k = last-keeps ws now
  arrival-keeps ws place count (Some t) now size k =
      let ws₁ = set ws (18 + place) (since_time now t) in
      let ws₂ = set ws₁ (34 + place) size in
      let ws₃ = set ws₂ 50 (next_place place) in
      last-keeps (set ws₃ 51 (count_after count)) now
      ∙ kept ws₃ 51 (count_after count) (omega arith)
      ∙ kept ws₂ 50 (next_place place) (omega arith)
      ∙ kept ws₁ (34 + place) size (omega arith)
      ∙ kept ws (18 + place) (since_time now t) (omega arith)

-- rate, place, acknowledge, recovered
module _ (ws : List ℕ) (a c : ℕ) (l : Option ℤ) (z : ℤ) (size : ℕ) {vs : List ℕ} (e : vs ≡ put_arrival ws a c l z size) (f : a ≡ at ws 50) (r : Rates ws) where
  stays : (j : ℕ) → 53 < j → at vs j ≡ at ws j
  stays j h = ap (λ (x : List ℕ). at x j) e ∙ arrival-keeps j h ws a c l z size (omega (arith, r.place))

  pub link-ready : Pairs vs
  link-ready =
      let p = r.pairs in record { place = omega (arith, stays 70 (omega arith), p.place); count = omega (arith, stays 71 (omega arith), p.count) }

  pub rated-put : (now : ℤ) (number : ℕ) {us : List ℕ} {z₁ : ℤ} → c ≡ at ws 51 → l ≡ moment_of (at ws 52) (at ws 53) → z ≡ now → us ≡ put_linked vs z₁ number → z₁ ≡ now → us ≡ put_rated ws now number size
  unfolding put_linked put_rated
  rated-put now number g h i j k = j ∙ rw (stays 70 (omega arith), stays 71 (omega arith), stays 72 (omega arith), stays 73 (omega arith), e, f, g, h, i, k)

pub placed-put : (ws : List ℕ) (w : Window) (now : ℤ) {vs : List ℕ} {n : ℕ} {z : ℤ} → vs ≡ put_window ws w → n ≡ word_of z → z ≡ now → set vs 0 n ≡ put_placed ws w now
unfolding put_placed
placed-put ws w now e f g = rw (e, f, g)

module _ (ws : List ℕ) (y : History) (lrsn : ℕ) (recovered : Bool) {r : Option History} (e : r ≡ light_ack_of y lrsn) where
  pub acked-light : {n : ℕ} {x : History} → r ≡ Some x → n ≡ lrsn → heard (Ok (answers.Light lrsn recovered)) (set ws 78 n) ≡ acked_in ws y lrsn recovered
  unfolding acked_in
  acked-light b f = rw (← e, b, f)

  pub acked-got : r ≡ None → heard (Ok (answers.Got lrsn recovered)) ws ≡ acked_in ws y lrsn recovered
  unfolding acked_in
  acked-got b = rw (← e, b)

pub recovered-put : (ws : List ℕ) (w : Window) (lrsn : ℕ) (now : ℤ) {y : History} {vs : List ℕ} {z : ℤ} {x : Heard}
    → y ≡ history_of ws → vs ≡ put_placed ws w z → z ≡ now → x ≡ acked_in vs y lrsn true → x ≡ recovered_in ws w lrsn now
unfolding recovered_in
recovered-put ws w lrsn now e f q g = g ∙ rw (f, q, e)

-- a push of another number than the next expected one appends no packet without a gap, so what it got, it recovered
abbrev appended : PushAnswer → Bool
appended (pushes.Got lrsn recovered) = not recovered
appended (pushes.Loss first last) = false

abbrev appends : Result Pushed PushRefusal → Bool
appends (Ok u) = appended u.answer
appends (Err e) = false

push-other : (w : Window) (slots bs : List ℕ) (t : ℤ) (p : Packet) (payload : List ℕ) → is_next w p.number ≡ false → appends (push_of w slots bs t p payload).pushed ≡ false
unfolding is_next push_of order append_with_loss_of recover_of recovered_of
push-other w slots bs t p payload h =
    let n = next_of w in
    let i = distance 31 p.number w.seqno0 in
    by_bool (after 31 p.number n)
    (λ a. rw (h, a) (by_bool (ltb (room_of w) (distance 31 p.number n + 1)) (λ b. rw b) (λ b. rw b)))
    (λ a. rw (h, a) (by_bool (before 31 p.number w.seqno0) (λ b. rw b) (λ b. by_bool (is_lost (entry_in w slots i)) (λ c. rw (b, c)) (λ c. rw (b, c)))))

other-is : (ws : List ℕ) (w : Window) (a : PushAnswer) (now : ℤ) (number size : ℕ) → appended a ≡ false → after_other ws w a now ≡ after_taken_in ws w a now number size
unfolding recovered_in got_in
other-is ws w (pushes.Got lrsn true) now number size h = refl
other-is ws w (pushes.Got lrsn false) now number size h = impossible h
other-is ws w (pushes.Loss first last) now number size h = refl

-- take_packet
module _ (ws : List ℕ) (w : Window) (slots bs : List ℕ) (now : ℤ) (p : Packet) (payload : List ℕ) where
  pub taken-by : {r : Result Pushed PushRefusal} {u : Pushed} {z z₁ : ℤ} {slots₁ bs₁ vs : List ℕ} {x : Result DataAnswer Refusal}
      → is_next w p.number ≡ false → heard x vs ≡ after_other ws u.window u.answer z₁ → z₁ ≡ now
      → push_ended r slots₁ bs₁ ≡ push_of w slots bs z p payload → r ≡ Ok u → z ≡ now → data_left x vs slots₁ bs₁ ≡ taken_by ws w slots bs now p payload
  unfolding taken_by
  taken-by {u = u} {slots₁ = slots₁} {bs₁ = bs₁} {vs = vs} {x = x} h g k f s q =
      let a : push_ended (Ok u) slots₁ bs₁ ≡ push_of w slots bs now p payload = sym (rw s) ∙ f ∙ rw q in
      let c : appended u.answer ≡ false = ap (λ (o : PushOutcome). appends o.pushed) a ∙ push-other w slots bs now p payload h in
      let b : heard x vs ≡ after_push_in ws (Ok u) now p.number (length payload) = g ∙ rw k (other-is ws u.window u.answer now p.number (length payload) c) in
      ap (λ (x : Heard). data_left x.answer x.words slots₁ bs₁) b
      ∙ ap (λ (o : PushOutcome). let x = after_push_in ws o.pushed now p.number (length payload) in data_left x.answer x.words o.slots o.payloads) a

-- the words of the head after each step: the arrays' places one by one
arrived-words : (ws : List ℕ) (i g size n c : ℕ) (now : ℤ) → i < 16
    → put_last (set (set (set (set (pack_of (head_of ws)) (18 + i) g) (34 + i) size) 50 n) 51 c) now
    ≡ pack_of (with_rates (head_of ws) (record { gaps = set (sixteen_of ws 18) i g; sizes = set (sixteen_of ws 34) i size; at = n; count = c; last = Some now }) (links_of ws))
unfolding put_last pack_of packed.numbers_words sixteen_of head_of
arrived-words ws zero g size n c now h = refl
arrived-words ws (suc zero) g size n c now h = refl
arrived-words ws (suc (suc zero)) g size n c now h = refl
arrived-words ws (suc (suc (suc zero))) g size n c now h = refl
arrived-words ws (suc (suc (suc (suc zero)))) g size n c now h = refl
arrived-words ws (suc (suc (suc (suc (suc zero))))) g size n c now h = refl
arrived-words ws (suc (suc (suc (suc (suc (suc zero)))))) g size n c now h = refl
arrived-words ws (suc (suc (suc (suc (suc (suc (suc zero))))))) g size n c now h = refl
arrived-words ws (suc (suc (suc (suc (suc (suc (suc (suc zero)))))))) g size n c now h = refl
arrived-words ws (suc (suc (suc (suc (suc (suc (suc (suc (suc zero))))))))) g size n c now h = refl
arrived-words ws (suc (suc (suc (suc (suc (suc (suc (suc (suc (suc zero)))))))))) g size n c now h = refl
arrived-words ws (suc (suc (suc (suc (suc (suc (suc (suc (suc (suc (suc zero))))))))))) g size n c now h = refl
arrived-words ws (suc (suc (suc (suc (suc (suc (suc (suc (suc (suc (suc (suc zero)))))))))))) g size n c now h = refl
arrived-words ws (suc (suc (suc (suc (suc (suc (suc (suc (suc (suc (suc (suc (suc zero))))))))))))) g size n c now h = refl
arrived-words ws (suc (suc (suc (suc (suc (suc (suc (suc (suc (suc (suc (suc (suc (suc zero)))))))))))))) g size n c now h = refl
arrived-words ws (suc (suc (suc (suc (suc (suc (suc (suc (suc (suc (suc (suc (suc (suc (suc zero))))))))))))))) g size n c now h = refl
arrived-words ws (suc (suc (suc (suc (suc (suc (suc (suc (suc (suc (suc (suc (suc (suc (suc (suc i)))))))))))))))) g size n c now h = absurd (omega arith)

first-words : (ws : List ℕ) (now : ℤ) → put_last (pack_of (head_of ws)) now ≡ pack_of (with_rates (head_of ws) (arrived_first (arrivals_of ws) now) (links_of ws))
unfolding put_last pack_of packed.numbers_words head_of
first-words ws now = refl

arrival-words : (ws : List ℕ) (now : ℤ) (size : ℕ) → at ws 50 < 16 → (m : Option ℤ)
    → put_arrival (pack_of (head_of ws)) (at ws 50) (at ws 51) m now size ≡ pack_of (with_rates (head_of ws) (rates.arrived_since m (arrivals_of ws) now size) (links_of ws))
unfolding put_arrival
arrival-words ws now size h None = first-words ws now
arrival-words ws now size h (Some t) = arrived-words ws (at ws 50) (since_time now t) size (next_place (at ws 50)) (count_after (at ws 51)) now h

module _ (ws : List ℕ) (h : Head) (a : Arrivals) where
  abbrev linked : Links → List ℕ
  linked l = pack_of (with_rates h a l)

  probe-words : (s n : ℕ) (m : Option ℤ) → s ≡ set_word m → n ≡ time_word m → set (set (linked (links_of ws)) 72 s) 73 n ≡ linked (with_probe (links_of ws) m)
  unfolding pack_of packed.numbers_words
  probe-words s n m e f = rw (e, f)

  paired_words : (i g n c : ℕ) → i < 16 → set (set (set (set (set (linked (links_of ws)) 72 0) 73 0) (54 + i) g) 70 n) 71 c
      ≡ linked (record { gaps = set (sixteen_of ws 54) i g; at = n; count = c; probe = None })
  unfolding pack_of packed.numbers_words sixteen_of
  paired_words zero g n c h = refl
  paired_words (suc zero) g n c h = refl
  paired_words (suc (suc zero)) g n c h = refl
  paired_words (suc (suc (suc zero))) g n c h = refl
  paired_words (suc (suc (suc (suc zero)))) g n c h = refl
  paired_words (suc (suc (suc (suc (suc zero))))) g n c h = refl
  paired_words (suc (suc (suc (suc (suc (suc zero)))))) g n c h = refl
  paired_words (suc (suc (suc (suc (suc (suc (suc zero))))))) g n c h = refl
  paired_words (suc (suc (suc (suc (suc (suc (suc (suc zero)))))))) g n c h = refl
  paired_words (suc (suc (suc (suc (suc (suc (suc (suc (suc zero))))))))) g n c h = refl
  paired_words (suc (suc (suc (suc (suc (suc (suc (suc (suc (suc zero)))))))))) g n c h = refl
  paired_words (suc (suc (suc (suc (suc (suc (suc (suc (suc (suc (suc zero))))))))))) g n c h = refl
  paired_words (suc (suc (suc (suc (suc (suc (suc (suc (suc (suc (suc (suc zero)))))))))))) g n c h = refl
  paired_words (suc (suc (suc (suc (suc (suc (suc (suc (suc (suc (suc (suc (suc zero))))))))))))) g n c h = refl
  paired_words (suc (suc (suc (suc (suc (suc (suc (suc (suc (suc (suc (suc (suc (suc zero)))))))))))))) g n c h = refl
  paired_words (suc (suc (suc (suc (suc (suc (suc (suc (suc (suc (suc (suc (suc (suc (suc zero))))))))))))))) g n c h = refl
  paired_words (suc (suc (suc (suc (suc (suc (suc (suc (suc (suc (suc (suc (suc (suc (suc (suc i)))))))))))))))) g n c h = absurd (omega arith)

  pair-words : (now : ℤ) → at ws 70 < 16 → (m : Option ℤ) → put_pair (linked (links_of ws)) (at ws 70) (at ws 71) m now ≡ linked (paired_since m (links_of ws) now)
  pair-words now h None = probe-words 0 0 None refl refl
  pair-words now h (Some t) = paired_words (at ws 70) (since_time now t) (next_place (at ws 70)) (count_after (at ws 71)) h

  link-words : (now : ℤ) (number : ℕ) → at ws 70 < 16 → put_link (linked (links_of ws)) (at ws 70) (at ws 71) (links_of ws).probe now number ≡ linked (link_of (links_of ws) now number)
  unfolding link_of pair_of
  link-words now number h =
      by_bool (eqb (number % 16) 0)
      (λ b. rw b (probe-words 1 (word_of now) (Some now) refl refl))
      (λ b. by_bool (eqb (number % 16) 1) (λ c. rw (b, c) (pair-words now h (links_of ws).probe)) (λ c. rw (b, c)))

acked-words : (g : Head) (w : Window) (lrsn : ℕ) (recovered : Bool) (now : ℤ)
    → acked_in (put_placed (pack_of g) w now) g.history lrsn recovered ≡ (let x = acked_of (placed_of g w now) lrsn recovered in heard x.answer (pack_of x.head))
unfolding acked_in put_placed put_window acked_of light_ack_of pack_of packed.numbers_words
acked-words g w lrsn recovered now = by_bool (before 31 lrsn (sum 31 g.history.lastack 64)) (λ b. rw b) (λ b. rw b)

pub placed-words : (g : Head) (w : Window) (now : ℤ) → put_placed (pack_of g) w now ≡ pack_of (placed_of g w now)
unfolding put_placed put_window pack_of packed.numbers_words
placed-words g w now = refl

-- a packet on words that say a head is the packet on that head
module _ (ws : List ℕ) (ok : pack_of (head_of ws) ≡ ws) (r : Rates ws) where
  pub rated-words : (now : ℤ) (number size : ℕ) → put_rated ws now number size ≡ pack_of (rated_of (head_of ws) now number size)
  unfolding put_rated rated_of head_of arrival_of
  rated-words now number size =
      ap (λ (l : List ℕ). put_link (put_arrival l (at ws 50) (at ws 51) (arrivals_of ws).last now size) (at ws 70) (at ws 71) (links_of ws).probe now number) (sym ok)
      ∙ ap (λ (l : List ℕ). put_link l (at ws 70) (at ws 71) (links_of ws).probe now number) (arrival-words ws now size r.place (arrivals_of ws).last)
      ∙ link-words ws (head_of ws) (rates.arrived_since (arrivals_of ws).last (arrivals_of ws) now size) now number r.pairs.place

  got-words : (w : Window) (lrsn : ℕ) (recovered : Bool) (now : ℤ) (number size : ℕ)
      → got_in ws w lrsn recovered now number size ≡ (let x = got_of (head_of ws) w lrsn recovered now number size in heard x.answer (pack_of x.head))
  unfolding got_in got_of head_of rated_of
  got-words w lrsn true now number size = ap (λ (l : List ℕ). acked_in (put_placed l w now) (history_of ws) lrsn true) (sym ok) ∙ acked-words (head_of ws) w lrsn true now
  got-words w lrsn false now number size =
      ap (λ (l : List ℕ). acked_in (put_placed l w now) (history_of ws) lrsn false) (rated-words now number size) ∙ acked-words (rated_of (head_of ws) now number size) w lrsn false now

  no-refusal : (h : Head) (lrsn : ℕ) (recovered : Bool) (y : Option History) → (data_line (receiver.light_or_got h lrsn recovered y).answer).refusal ≡ 0
  no-refusal h lrsn recovered (Some y) = refl
  no-refusal h lrsn recovered None = refl

  taken-words : (w : Window) (a : PushAnswer) (now : ℤ) (number size : ℕ)
      → after_taken_in ws w a now number size ≡ (let x = after_taken (head_of ws) w a now number size in heard x.answer (kept_or (data_line x.answer).refusal (pack_of x.head) ws))
  unfolding got_of acked_of
  taken-words w (pushes.Got lrsn recovered) now number size =
      let g = placed_of (cond recovered (head_of ws) (rated_of (head_of ws) now number size)) w now in
      got-words w lrsn recovered now number size ∙ rw (no-refusal g lrsn recovered (light_ack_of g.history lrsn))
  taken-words w (pushes.Loss first last) now number size = rw (ap (λ (l : List ℕ). put_placed l w now) (sym ok) ∙ placed-words (head_of ws) w now)

  after-words : (r : Result Pushed PushRefusal) (now : ℤ) (number size : ℕ)
      → after_push_in ws r now number size ≡ (let x = after_push (head_of ws) r now number size in heard x.answer (kept_or (data_line x.answer).refusal (pack_of x.head) ws))
  after-words (Ok u) now number size = taken-words u.window u.answer now number size
  after-words (Err e) now number size = rw (words-stay (push_refused e))

-- take
module _ (ws slots bs : List ℕ) (now : ℤ) (p : Packet) (payload : List ℕ) {w : Window} {z : ℤ} (r : Pushing ws slots bs now p payload) (e : w ≡ window_of ws) (q : z ≡ now) where
  pub take-ready : TakeReady ws w slots bs z p payload
  take-ready = rw (e, q) r.ready

  pub take-is : {x : DataLeft} → Typed ws → x ≡ taken_by ws w slots bs z p payload → x ≡ data_taken ws slots bs now p payload
  unfolding taken_by taken_of head_of
  take-is t x =
      let ok : pack_of (head_of ws) ≡ ws = ap pack_of (sym (says-head ws r.says)) ∙ pack-unpack ws t.small r.says t.long in
      let o = push_of (window_of ws) slots bs now p payload in
      x ∙ rw (e, q) (ap (λ (y : Heard). data_left y.answer y.words o.slots o.payloads) (after-words ws ok r.ready.rates o.pushed now p.number (length payload)))

-- refusal
pub refusal-by : (ws : List ℕ) (slots bytes : ℕ) (now : ℤ) (p : Packet) (size : ℕ) {ok : Bool} {c : ℕ} {n : Result Unit Refusal} {t l l₁ : ℤ} → ok ≡ head_ok (unpack_of ws) → c ≡ at ws 1 → l ≡ whole_of (at ws 0) → l₁ ≡ l
    → n ≡ first_refusal (push_rules ok c slots bytes t l₁ p size) → t ≡ now → n ≡ push_refusal ws slots bytes now p size
unfolding push_refusal
refusal-by ws slots bytes now p size a b c d e f = e ∙ rw (a, b, d, c, f)

-- the call
module _ (ws slots bs : List ℕ) (now : ℤ) (p : Packet) (payload : List ℕ) where
  abbrev refusal : ℤ → Result Unit Refusal
  refusal t = push_refusal ws (length slots) (length bs) t p (length payload)

  same-refusal : refusal now ≡ first_refusal (push_rules (head_ok (unpack_of ws)) (unpack_of ws).window.capacity (length slots) (length bs) now (unpack_of ws).latest p (length payload))
  unfolding push_refusal unpack_of head_of
  same-refusal = by_bool (formed ws) (λ b. rw b) (λ b. rw (b, no-range))

  says : refusal now ≡ Ok tt → formed ws ≡ true
  unfolding push_refusal unpack_of
  says e = by_bool (formed ws) (λ b. b) (λ b. absurd (err-ok (rw (b, no-range) at e)))

  ready-in : PushReady (head_of ws) slots bs now p payload → TakeReady ws (window_of ws) slots bs now p payload
  unfolding head_of
  ready-in r =
      let a = arrivals-fit (arrivals_of ws) r.head.arrivals in
      let l = links-fit (links_of ws) r.head.links in
      record { rates = record { place = a.0; count = a.1; pairs = record { place = l.0; count = l.1 } }; reading = r.reading; good = r.good; payloads = r.payloads; right = r.right }

  pub call-ready : {n : Result Unit Refusal} → n ≡ refusal now → n ≡ Ok tt → Pushing ws slots bs now p payload
  call-ready e z =
      let f = says (sym e ∙ z) in
      let r = push-ready (unpack_of ws) slots bs now p payload (sym z ∙ e ∙ same-refusal) in
      record { says = f; ready = ready-in (rw (says-head ws f) at r) }

  pub call-taken : {n : Result Unit Refusal} {x : DataLeft} {t t₁ : ℤ} → n ≡ refusal t₁ → t₁ ≡ now → n ≡ Ok tt → x ≡ data_taken ws slots bs t p payload → t ≡ now → x ≡ data_in ws slots bs now p payload
  unfolding data_call_of
  call-taken {n} a b z x q =
      let e : n ≡ refusal now = a ∙ rw b in
      let f = says (sym e ∙ z) in
      x ∙ rw (q, sym same-refusal ∙ sym e ∙ z, says-head ws f)

  pub call-refused : {n : Result Unit Refusal} {x : Refusal} {t : ℤ} → n ≡ refusal t → t ≡ now → n ≡ Err x → data_left (Err x) ws slots bs ≡ data_in ws slots bs now p payload
  unfolding data_call_of
  call-refused {n} {x} a b z =
      let e : n ≡ refusal now = a ∙ rw b in
      rw (← same-refusal, ← e, z, words-stay x)

pub ruleset puts-in = (last-put, arrival-first, arrival-next, link-first, link-second, link-other, rules)

pub ruleset rates-in = (link-ready, rated-put, placed-put, acked-light, acked-got, recovered-put, rules)

pub ruleset push-calls = (call-ready, call-taken, call-refused, rules)
