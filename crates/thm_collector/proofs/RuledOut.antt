-- Collectors whose calls are no run, so that the theorem rules them out: one that keeps the old words, and one that does not count a duplicate. Assumes nothing.
use mathlib.Core.Path.{◌≡◌, refl, ap, sym, ◌∙◌}
use mathlib.Core.Bool.{true}
use mathlib.Core.List.{List, []}
use Prim.Native.Nat.{ℕ}
use native.Mathlib.Omega.{arith}
use lib.IntN.{ℤ, pos, nat_abs}
use lib.ListN.{length, get_or, replicate}
use Rattle.std.specs.Prelude.{Result, Ok, Err}
use Rattle.numbers.specs.Circular.{sum}
use Rattle.clock.specs.Base as bases
use Rattle.clock.specs.Ranges as clocks
use Rattle.clock.specs.Samples as samples
use Rattle.clock.specs.Sync as syncs
use Rattle.acks.specs.History as histories
use Rattle.acks.specs.Rtt as rtts
use Rattle.intervals.specs.Rates as rates
use Rattle.window_pop.specs.Pop as pops
use Rattle.head.specs.Head as heads
use Rattle.head.specs.Head.{fresh_head, made_of}
use Rattle.head.specs.declared.refusal.Refusal.{Refusal}
use Rattle.head.specs.declared.refusal.Refusal.TheVariants.{HeadBad, AreaShort, ClockRange, ClockBack, BadNumber, PayloadLong, BufferFull, PacketTooEarly, PacketTooLate, DiscardedDuplicate, OutShort, ListShort, FasnWorn, DriftRange, BadSetting}
use Rattle.head.specs.declared.state.Head.{Head}
use Rattle.receiver.specs.Data.{packet, data_call_of}
use Rattle.receiver.specs.Message.{taken_of, pop_call_of}
use Rattle.receiver.specs.Paper.{data_line}
use Rattle.receiver.specs.declared.data.DataAnswer.{DataAnswer}
use Rattle.receiver.specs.declared.data.DataAnswer.TheVariants as datas
use Rattle.counts.specs.Counts as counting
use Rattle.packing.specs.Packed.{unpack_of}
use Rattle.packing.specs.Tally.{counters_words}
use Rattle.step.specs.Step.{State, Lent}
use Rattle.step.specs.declared.Call.TheVariants as calls
use Rattle.thm_collector.specs.Collector.{Kept, Back, plain, counted, Gives}
use Rattle.thm_collector.proofs.Collects.{either-call, either-counts}

-- it keeps the words from before a pop, which would let the readings go back: of a fresh receiver of one slot, a pop at 1 µs
abbrev at_start : List ℕ → Kept
at_start ws = record { words = ws; slots = replicate 3 0; payloads = replicate 1456 0; history = []; counts = replicate 10 0 }

pop-moves : (out : List ℕ) → (pop_call_of (fresh_head (pos 0) 0 true 0 1) (replicate 3 0) (replicate 1456 0) out (pos 1)).given.head.latest ≡ pos 1
unfolding pop_call_of taken_of heads.head_ok heads.fresh_head bases.fresh_base clocks.clock_ok samples.no_samples syncs.fresh_clock histories.fresh_history histories.history_ok rtts.fresh_rtt rtts.rtt_ok rates.fresh_arrivals rates.fresh_links rates.arrivals_ok rates.links_ok rates.all_under rates.window_of pops.pop_of pops.late_of pops.discarded pops.walk_from pops.limit_of
pop-moves out = refl

starts-at-zero : (fresh_head (pos 0) 0 true 0 1).latest ≡ pos 0
unfolding fresh_head
starts-at-zero = refl

-- the head that making gives
made-so : {h : Head} → made_of (pos 0) 0 true 0 1 ≡ Ok h → h ≡ fresh_head (pos 0) 0 true 0 1
unfolding made_of
made-so e = cc

pub old-words : (ws : List ℕ) (t : Lent) (r : Back) → made_of (pos 0) 0 true 0 1 ≡ Ok (unpack_of ws) → Gives (at_start ws) t r plain (calls.Pop (pos 1)) → r.kept.words ≡ ws → ⊥
old-words ws t r made g old =
    let a = ap (λ (s : State). s.head.latest) (either-call (at_start ws) t r plain (calls.Pop (pos 1)) g).state in
    let b = rw (old, made-so made, pop-moves t.output, starts-at-zero) at a in
    let z : ◌≡◌ {A = ℕ} 0 1 = ap nat_abs b in
    omega arith

-- it counts with the words of before though a duplicate was handed in: 7 to 10 still count
counts-duplicate : (a : Result DataAnswer Refusal) (size : ℕ) → (data_line a).refusal ≡ 10 → get_or (counters_words (counting.data_counts counting.fresh size a)) 0 0 ≡ 1
unfolding counting.raised sum
counts-duplicate (Ok (datas.Got lrsn recovered)) size e = absurd (omega arith)
counts-duplicate (Ok (datas.Light lrsn recovered)) size e = absurd (omega arith)
counts-duplicate (Ok (datas.Loss first last)) size e = absurd (omega arith)
counts-duplicate (Err HeadBad) size e = absurd (omega arith)
counts-duplicate (Err AreaShort) size e = absurd (omega arith)
counts-duplicate (Err ClockRange) size e = absurd (omega arith)
counts-duplicate (Err ClockBack) size e = absurd (omega arith)
counts-duplicate (Err BadNumber) size e = absurd (omega arith)
counts-duplicate (Err PayloadLong) size e = absurd (omega arith)
counts-duplicate (Err BufferFull) size e = absurd (omega arith)
counts-duplicate (Err (PacketTooEarly room need)) size e = absurd (omega arith)
counts-duplicate (Err PacketTooLate) size e = absurd (omega arith)
counts-duplicate (Err DiscardedDuplicate) size e = refl
counts-duplicate (Err OutShort) size e = absurd (omega arith)
counts-duplicate (Err ListShort) size e = absurd (omega arith)
counts-duplicate (Err FasnWorn) size e = absurd (omega arith)
counts-duplicate (Err DriftRange) size e = absurd (omega arith)
counts-duplicate (Err BadSetting) size e = absurd (omega arith)

pub duplicate-uncounted : (x : Kept) (t : Lent) (r : Back) (time : ℤ) (number message location stamp : ℕ)
    → Gives x t r counted (calls.Data time number message location stamp) → r.returned ≡ 10 → x.counts ≡ replicate 10 0 → r.kept.counts ≡ replicate 10 0 → ⊥
duplicate-uncounted x t r time number message location stamp g ten zeroed same =
    let c = calls.Data time number message location stamp in
    let s = (either-call x t r counted c g).returned in
    let a = either-counts x t r counted c counting.fresh g zeroed in
    let o = data_call_of (unpack_of x.words) x.slots x.payloads time (packet number message location stamp) t.payload in
    let one = counts-duplicate o.handled.answer (length t.payload) (sym s ∙ ten) in
    let z : ◌≡◌ {A = ℕ} 0 1 = ap (λ (ws : List ℕ). get_or ws 0 0) (sym same ∙ a) ∙ one in
    omega arith
