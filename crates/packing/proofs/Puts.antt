-- What the code of pack.rt does at each return and each turn, and that the words so written are the head's; the proof files hand these laws to `search`.
-- Assumes nothing.
use mathlib.Core.Path.{◌≡◌, refl, ◌∙◌, ap}
use mathlib.Core.Bool.{Bool, true}
use mathlib.Core.List.{List}
use Prim.Native.Nat.{ℕ, ◌+◌, ◌^◌, ◌≤◌}
use native.Mathlib.Nat.{zero-add}
use native.Mathlib.Numerals.{add-one}
use native.Mathlib.Omega.{arith}
use borrow.Author.Rules.{rules}
use borrow.Author.Tests.{lt-ltb}
use mir.Syntax.{w32}
use mir.Val.{Fits}
use lib.IntN.{ℤ}
use lib.ListN.{get_or, set, replicate}
use Rattle.clock.specs.declared.time.SynchronizedRemoteClock.{SynchronizedRemoteClock}
use Rattle.acks.specs.declared.history.History.{History}
use Rattle.intervals.specs.declared.rates.Arrivals.{Arrivals}
use Rattle.intervals.specs.declared.rates.Links.{Links}
use Rattle.acks.specs.declared.rtt.Rtt.{Rtt}
use Rattle.window.specs.declared.Window.{Window}
use Rattle.head.specs.declared.state.Head.{Head}
use Rattle.packing.specs.Words.{word_of, bits_of, flag_word, set_word, time_word}
use Rattle.packing.specs.Packed.{numbers_words, numbers_formed, pack_of}
use Rattle.packing.specs.Puts.{put_numbers, put_settings, put_window, put_base, put_stats, put_rtt, put_arrivals, put_links, put_history, put_head}

-- the loop of sixteen
pub put-start : (ws : List ℕ) (i : ℕ) (ns : List ℕ) → ws ≡ put_numbers ws i ns 0
unfolding put_numbers
put-start ws i ns = refl

pub put-turn : (ws : List ℕ) (i : ℕ) (ns : List ℕ) (n : ℕ) {vs : List ℕ} {v : ℕ} → vs ≡ put_numbers ws i ns n → v ≡ get_or ns n 0 → set vs (i + n) v ≡ put_numbers ws i ns (n + 1)
unfolding put_numbers
put-turn ws i ns n p q = rw (add-one, p, q)

pub put-end : (ws : List ℕ) (i : ℕ) (ns : List ℕ) (n : ℕ) {vs : List ℕ} → vs ≡ put_numbers ws i ns n → n ≤ 16 → 16 ≤ n → vs ≡ put_numbers ws i ns 16
put-end ws i ns n p h g =
    let e : n ≡ 16 = omega arith in
    p ∙ ap (put_numbers ws i ns) e

-- and that what is put are numbers
pub fit-start : (ns : List ℕ) → numbers_formed ns 0 0 ≡ true
unfolding numbers_formed
fit-start ns = refl

pub fit-turn : (ns : List ℕ) (n : ℕ) → numbers_formed ns 0 n ≡ true → Fits w32 (get_or ns n 0) → numbers_formed ns 0 (n + 1) ≡ true
unfolding numbers_formed
fit-turn ns n p f = rw (add-one, p, zero-add, lt-ltb (get_or ns n 0) (2 ^ 32) f.fits)

pub fit-end : (ns : List ℕ) (n : ℕ) → numbers_formed ns 0 n ≡ true → n ≤ 16 → 16 ≤ n → numbers_formed ns 0 16 ≡ true
fit-end ns n p h g =
    let e : 16 ≡ n = omega arith in
    rw e p

module _ (ws : List ℕ) where
  -- the parts
  pub puts-settings : (latest : ℤ) (latency : ℕ) (dropping : Bool) {z : ℤ} {a b c : ℕ}
      → a ≡ word_of z → z ≡ latest → b ≡ latency → c ≡ flag_word dropping
      → set (set (set ws 0 a) 6 b) 7 c ≡ put_settings ws latest latency dropping
  unfolding put_settings
  puts-settings l n d a p b c = rw (a, p, b, c)

  pub puts-window : (w : Window) {a b c d e : ℕ}
      → a ≡ w.capacity → b ≡ w.start → c ≡ w.held → d ≡ w.seqno0 → e ≡ w.lrsn
      → set (set (set (set (set ws 1 a) 2 b) 3 c) 4 d) 5 e ≡ put_window ws w
  unfolding put_window
  puts-window w a b c d e = rw (a, b, c, d, e)

  pub puts-base : (k : SynchronizedRemoteClock) {z : ℤ} {a b c d : ℕ}
      → a ≡ word_of z → z ≡ k.base.time → b ≡ k.base.stamp → c ≡ set_word k.last → d ≡ time_word k.last
      → set (set (set (set ws 8 a) 9 b) 10 c) 11 d ≡ put_base ws k
  unfolding put_base
  puts-base k a p b c d = rw (a, p, b, c, d)

  pub puts-stats : (k : SynchronizedRemoteClock) {a b c d : ℕ}
      → a ≡ flag_word k.seen → b ≡ bits_of k.stats.mean → c ≡ bits_of k.stats.squares → d ≡ k.stats.count
      → set (set (set (set ws 12 a) 13 b) 14 c) 15 d ≡ put_stats ws k
  unfolding put_stats
  puts-stats k a b c d = rw (a, b, c, d)

  pub puts-rtt : (t : Rtt) {a b : ℕ} → a ≡ t.mean → b ≡ t.variance → set (set ws 16 a) 17 b ≡ put_rtt ws t
  unfolding put_rtt
  puts-rtt t a b = rw (a, b)

  pub puts-arrivals : (r : Arrivals) {us vs : List ℕ} {a b c d : ℕ}
      → us ≡ put_numbers ws 18 r.gaps 16 → vs ≡ put_numbers us 34 r.sizes 16 → a ≡ r.at → b ≡ r.count → c ≡ set_word r.last → d ≡ time_word r.last
      → set (set (set (set vs 50 a) 51 b) 52 c) 53 d ≡ put_arrivals ws r
  unfolding put_arrivals
  puts-arrivals r u v a b c d = rw (v, u, a, b, c, d)

  pub puts-links : (l : Links) {us : List ℕ} {a b c d : ℕ}
      → us ≡ put_numbers ws 54 l.gaps 16 → a ≡ l.at → b ≡ l.count → c ≡ set_word l.probe → d ≡ time_word l.probe
      → set (set (set (set us 70 a) 71 b) 72 c) 73 d ≡ put_links ws l
  unfolding put_links
  puts-links l u a b c d = rw (u, a, b, c, d)

  pub puts-history : (y : History) {a b c d e : ℕ}
      → a ≡ y.start → b ≡ y.count → c ≡ y.first → d ≡ y.largest → e ≡ y.lastack
      → set (set (set (set (set ws 74 a) 75 b) 76 c) 77 d) 78 e ≡ put_history ws y
  unfolding put_history
  puts-history y a b c d e = rw (a, b, c, d, e)

-- the whole head, in words that are 0 before
puts-head : (h : Head) → put_head (replicate 79 0) h ≡ pack_of h
unfolding pack_of numbers_words put_numbers put_settings put_window put_base put_stats put_rtt put_arrivals put_links put_history
puts-head h = refl

pub puts-all : (h : Head) {z : ℤ} {a b c d e f g r : List ℕ}
    → a ≡ put_settings (replicate 79 0) z h.latency h.dropping → z ≡ h.latest → b ≡ put_window a h.window → c ≡ put_base b h.clock → d ≡ put_stats c h.clock
    → e ≡ put_rtt d h.rtt → f ≡ put_arrivals e h.arrivals → g ≡ put_links f h.links → r ≡ put_history g h.history
    → r ≡ pack_of h
puts-all h a z b c d e f g r = rw (r, g, f, e, d, c, b, a, z) (puts-head h)

pub ruleset puts = (put-start, put-turn, put-end, fit-start, fit-turn, fit-end, puts-settings, puts-window, puts-base, puts-stats, puts-rtt, puts-arrivals, puts-links, puts-history, puts-all, rules)
